-- How many pushes and notes were refused, and what a pause tells of it.
use Rattle.std.specs.Prelude.{◌≡◌, ◌⊎◌, ◌<◌, ◌≤◌, ℕ, Bool, true}
use Rattle.mark_worklist.specs.Shares.{last_count}

-- how many pushes on the marking list and how many notes were refused since the heap was made; a count stays at its last value
pub record RefusedCounts : Type 0 where
  pub pushes : ℕ
  pub notes : ℕ

-- nothing was refused
abbrev pub none_refused : RefusedCounts
none_refused = record { pushes = 0; notes = 0 }

-- what is told of refusals: how much was refused until now, and until marking began
pub record RefusalsTold : Type 0 where
  pub now : RefusedCounts
  pub since : RefusedCounts

-- more were refused; or the count stands at its last value, where one more can't be seen
abbrev pub MayHaveRisen : ℕ → ℕ → Type 0
MayHaveRisen old new = (old < new) ⊎ (last_count ≤ new)

-- a flag tells exactly where a push or a note was refused between the two, as far as the counts show it
pub record IsToldTruly (old new : RefusedCounts) (walked : Bool) : Type 0 where
  pub no_fewer_pushes : old.pushes ≤ new.pushes
  pub no_fewer_notes : old.notes ≤ new.notes
  pub told : (old.pushes < new.pushes) ⊎ (old.notes < new.notes) → walked ≡ true
  pub only : walked ≡ true → MayHaveRisen old.pushes new.pushes ⊎ MayHaveRisen old.notes new.notes
