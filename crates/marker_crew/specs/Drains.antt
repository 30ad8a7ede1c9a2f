-- What a drain takes from the lists.
use Rattle.std.specs.Prelude.{◌≡◌, ◌⊎◌, ℕ, ◌+◌, true, false, length, Contains}
use Rattle.mark_worklist.specs.Shares.{ShareState, taken_by_share}
use Rattle.marker_crew.specs.declared.draining.Drained.{Drained}
use Rattle.marker_crew.specs.Stages.{DrainStage, KeepsItems, IsDealtWithIn}

-- a drain that has done nothing
abbrev pub nothing_yet : Drained
nothing_yet = record { traced = 0; more = true; overflow = false }

-- a pop and a steal have found nothing since the share last put or gave an item
abbrev pub IsIdle : ShareState → Type 0
IsIdle h = (h.pop_found_none ≡ true) × (h.steal_found_none ≡ true)

-- one item was taken, and this is it
pub record IsOneTaken (old : ShareState) (a : ℕ) (new : ShareState) : Type 0 where
  pub count : length (taken_by_share new) ≡ length (taken_by_share old) + 1
  pub kept : KeepsItems (taken_by_share old) (taken_by_share new)
  pub there : Contains (taken_by_share new) a
  pub only : (b : ℕ) → Contains (taken_by_share new) b → Contains (taken_by_share old) b ⊎ (b ≡ a)

-- each item that was taken since the share was this is dealt with
abbrev pub AreDealtWith : ShareState → DrainStage → Type 0
AreDealtWith before t = (a : ℕ) → Contains (taken_by_share t.share) a → Contains (taken_by_share before) a ⊎ IsDealtWithIn t a
