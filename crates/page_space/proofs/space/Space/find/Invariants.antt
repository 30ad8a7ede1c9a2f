use Rattle.std.proofs.Common.{◌≡◌, ℕ, ◌<◌, ◌≤◌}
use Rattle.gc_graph.specs.Placement.{IsNowhere}
use Rattle.gap_bounds.specs.Seat.{OnlyLooked}
use Rattle.page_space.specs.Space.{IsSpaceOf, FitsIn}
use Rattle.page_space.specs.Found.{KeepsFound}
use Rattle.page_space.proofs.space.Space.find.Given as goal

abbrev pub invariant-loop-page : goal.invariant-loop-page
invariant-loop-page l = record {
  view : OnlyLooked l.fn.seat l.seat;
  done : KeepsFound l.fn.seat l.seat;
  space : IsSpaceOf l.self l.fn.seat;
  shape : l.self.shape ≡ l.fn.self.shape;
  none : (other : ℕ) → other < l.page → l.from ≤ other → IsNowhere (FitsIn l.fn.self.shape l.fn.seat.bodies l.size other);
}
