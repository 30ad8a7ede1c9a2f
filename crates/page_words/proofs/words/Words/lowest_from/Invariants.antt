use Rattle.std.proofs.Common.{ℕ, ◌-◌, ◌≡◌, ◌≤◌, ◌<◌}
use Rattle.marker_core.specs.Bodies.{IsPlace}
use Rattle.page_words.proofs.words.Words.lowest_from.Given as goal

abbrev pub invariant-loop-at : goal.invariant-loop-at
invariant-loop-at l = record {
  view : l.seat ≡ l.fn.seat;
  low : l.from ≤ l.at;
  none : (a : ℕ) → l.from ≤ a → a < l.at → IsPlace l.fn.seat.bodies a → ⊥;
}

abbrev pub decreases-loop-at : goal.decreases-loop-at
decreases-loop-at l = l.count - l.at
