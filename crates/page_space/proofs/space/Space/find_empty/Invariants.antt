use Rattle.std.proofs.Common.{◌≡◌, ◌+◌, ◌<◌}
use Rattle.page_space.specs.Space.{extents_of_bodies}
use Rattle.page_space.proofs.EmptyRuns.{IsEmptySince}
use Rattle.page_space.proofs.space.Space.find_empty.Given as goal

abbrev pub invariant-loop-page : goal.invariant-loop-page
invariant-loop-page l = record {
  view : l.seat ≡ l.fn.seat;
  run : IsEmptySince l.fn.self.shape (extents_of_bodies l.fn.seat.bodies) l.count l.page l.since;
  short : l.page < l.since + l.count;
}
