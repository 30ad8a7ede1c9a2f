-- Whether pushes or notes were refused: a flag tells it, and a count is its cause.
use Rattle.std.specs.Prelude.{◌≡◌, ◌⊎◌, ◌<◌, ◌≤◌, ℕ, Bool, true}
use Rattle.mark_worklist.specs.Lists.{IsPutOnList, list_refused_once}
use Rattle.mark_worklist.specs.Shares.{last_count}
use Rattle.mark_worklist.specs.declared.marking.Marking.{Marking}

-- whether something was refused since marking began, and how often that was since the beginning
pub record Refusals : Type 0 where
  pub told : Bool
  pub count : ℕ

-- the refused pushes, as the marking state tells of them and the list counts them
abbrev pub refusals_of : Marking → Refusals
refusals_of m = record { told = m.overflow; count = m.list.refused }

-- what was told stays told, and a refusal comes to be told exactly where the count rose, or stands at its last value
pub record TellsRefused (old new : Refusals) : Type 0 where
  pub kept : old.told ≡ true → new.told ≡ true
  pub no_fewer : old.count ≤ new.count
  pub counted : old.count < new.count → new.told ≡ true
  pub only : new.told ≡ true → (old.told ≡ true) ⊎ ((old.count < new.count) ⊎ (last_count ≤ new.count))

-- the place was put on the list, or the push was refused, which is told
abbrev pub PushesOrTells : Marking → Marking → ℕ → Type 0
PushesOrTells before after a =
    (IsPutOnList before.list a after.list × (after ≡ record before { list = after.list }))
    ⊎ (after ≡ record before { overflow = true; list = list_refused_once before.list })
