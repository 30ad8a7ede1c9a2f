-- Sweeping up to an address, over words and nodes.
use Rattle.std.specs.Prelude.{◌≡◌, ℕ, ◌+◌, ◌*◌, ◌≤◌, List, ◌++◌, length, map}
use Rattle.gc_graph.specs.State.{Shape, Node}
use Rattle.gc_graph.specs.Sweep.{finalise, AreDeadInOrder}
use Rattle.page_words.specs.Seat.{SeatView}
use Rattle.page_space.specs.Pages.{word_count}
use Rattle.sweeper.specs.Sweeping.{IsClearBelow, IsJudgedFrom, dead_between}

-- nothing below the address is marked or dead, and from there on each object is one of the two
pub record IsSweptTo (limit : ℕ) (v : SeatView) : Type 0 where
  pub clear : IsClearBelow limit v
  pub judged : IsJudgedFrom limit v

-- the dead nodes whose places lie below the address were finalised, and their numbers follow those that were told before
pub record FinalisesBelow (limit : ℕ) (old : List Node) (before after : List ℕ) (new : List Node) : Type 0 where
  pub numbers : List ℕ
  pub follow : after ≡ before ++ numbers
  pub order : AreDeadInOrder old limit numbers
  pub nodes : new ≡ map (finalise limit) old

-- the numbers that were told, with those that a sweep from the address on will tell, are at most one for every second word
abbrev pub AreFewTold : Shape → ℕ → SeatView → List ℕ → Type 0
AreFewTold shape from v numbers = 2 * (length numbers + dead_between from (word_count shape) v) ≤ word_count shape
