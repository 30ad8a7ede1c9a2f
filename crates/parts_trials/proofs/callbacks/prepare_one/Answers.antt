use Rattle.std.proofs.Common.{rules, ◌≡◌, ℕ, Some, None, cond, nat_eq, refl, MutBor}
use Rattle.parts_trials.specs.declared.callbacks.OneMask.{OneMask}
use Rattle.callback_table.specs.Steady.{may_be_asked, stays_known, left_by_rule}
use Rattle.parts_trials.proofs.callbacks.prepare_one.Goals as goal

abbrev State : Type 0
State = record { 0 : MutBor OneMask }

-- it is for the same place, and what is asked is still behind the same reference
abbrev IsAs : ℕ → ℕ → State → Type 0
IsAs place name mask = (mask.0.now.place ≡ place) × (mask.0.ghost_name ≡ name)

pub prepare-requires : goal.prepare-requires
prepare-requires c =
    may_be_asked _ _ (IsAs c.args.one.now.place _) (λ place. Unit {0}) (λ mask place k l. search rules) (λ mask place answer next k s. search rules) _ _ (refl, refl)
    (λ i d l. tt)

pub returns-clause-left : goal.returns-clause-left
returns-clause-left c =
    left_by_rule _ (IsAs c.args.one.now.place _) (λ place. cond (nat_eq place c.args.one.now.place) (Some 1) None)
    (λ mask place answer next k s. search rules) (λ mask place answer next k s. search rules) _ _ _ _ (refl, refl) c.prepare.ensures.left

pub returns-clause-place : goal.returns-clause-place
returns-clause-place c =
    let known = stays_known _ (IsAs c.args.one.now.place _) (λ mask place answer next k s. search rules) _ _ _ _ (refl, refl) c.prepare.ensures.left in
    search rules
