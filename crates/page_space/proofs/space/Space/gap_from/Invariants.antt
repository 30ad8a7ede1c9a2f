use Rattle.std.proofs.Common.{◌≡◌, ◌+◌, ◌-◌, ◌*◌, ◌≤◌}
use Rattle.gc_graph.specs.Placement.{IsNowhere}
use Rattle.gap_bounds.specs.Seat.{OnlyLooked}
use Rattle.page_space.specs.Space.{IsSpaceOf, extents_of_bodies}
use Rattle.page_space.specs.Walks.{BeginsBetween}
use Rattle.page_space.specs.Found.{KeepsFound}
use Rattle.page_space.proofs.space.Space.gap_from.Given as goal

abbrev pub invariant-loop-at : goal.invariant-loop-at
invariant-loop-at l = record {
  view : OnlyLooked l.fn.seat l.seat;
  done : KeepsFound l.fn.seat l.seat;
  space : IsSpaceOf l.self l.fn.seat;
  shape : l.self.shape ≡ l.fn.self.shape;
  known : l.self.gaps.known ≡ l.fn.self.gaps.known;
  low : l.from ≤ l.at;
  high : l.at ≤ (l.page + 1) * l.fn.self.shape.page_words;
  none : IsNowhere (BeginsBetween l.fn.self.shape (extents_of_bodies l.fn.seat.bodies) l.size l.page l.from l.at);
}

abbrev pub decreases-loop-at : goal.decreases-loop-at
decreases-loop-at l = l.end - l.at
