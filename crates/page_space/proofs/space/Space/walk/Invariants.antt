use Rattle.std.proofs.Common.{ℕ, ◌+◌, ◌-◌, ◌*◌, ◌<◌, ◌≤◌}
use Rattle.gap_bounds.specs.Seat.{OnlyLooked}
use Rattle.page_space.specs.Space.{extents_of_bodies}
use Rattle.gap_bounds.specs.Gaps.{IsGap}
use Rattle.page_space.specs.Walks.{IsEdge}
use Rattle.page_space.specs.Found.{KeepsFound}
use Rattle.page_space.proofs.space.Space.walk.Given as goal

abbrev pub invariant-loop-walk : goal.invariant-loop-walk
invariant-loop-walk l = record {
  view : OnlyLooked l.fn.seat l.seat;
  done : KeepsFound l.fn.seat l.seat;
  low : l.fn.walk.at ≤ l.walk.at;
  inside : l.walk.at ≤ (l.page + 1) * l.fn.self.shape.page_words;
  edge : IsEdge l.fn.seat.bodies l.walk.at;
  none : (x : ℕ) → l.fn.walk.at ≤ x → x < l.walk.at → IsGap l.fn.self.shape (extents_of_bodies l.fn.seat.bodies) l.size l.page x → ⊥;
  longest : (n x : ℕ) → l.fn.walk.at ≤ x → x < l.walk.at → IsGap l.fn.self.shape (extents_of_bodies l.fn.seat.bodies) n l.page x
      → n ≤ l.walk.longest;
}

abbrev pub decreases-loop-walk : goal.decreases-loop-walk
decreases-loop-walk l = l.until - l.walk.at
