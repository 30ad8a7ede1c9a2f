-- What a seat found of headers, from one view to a later one.
use Rattle.std.specs.Prelude.{ℕ, Contains}
use Rattle.gap_bounds.specs.Seat.{SeatView}

-- what the seat found traced it still has
abbrev pub KeepsFound : SeatView → SeatView → Type 0
KeepsFound old new = (a : ℕ) → Contains old.done a → Contains new.done a
