use Rattle.std.proofs.Common.{rules, ◌≡◌, ◌<◌, Bool, List, length, not, get_or, false, refl, MutBor}
use Rattle.parts_trials.specs.declared.slots.Marks.{Marks}
use Rattle.persistent_slots.specs.Steady.{may_be_asked, answers_by}
use Rattle.parts_trials.proofs.slots.clear_unmarked.Goals as goal

abbrev State : Type 0
State = record { 0 : MutBor Marks }

abbrev Has : List Bool → State → Type 0
Has marks test = test.0.now.marks.items ≡ marks

pub clear_dead-requires : goal.clear_dead-requires
clear_dead-requires c =
    may_be_asked _ _ (Has c.args.marks.now.marks.items) (λ place. place < length c.args.marks.now.marks.items)
    (λ test place has l. search rules) (λ test place answer next has s. search rules) _ _ refl c.requires

pub returns : goal.returns
returns c =
    c.clear_dead.ensures.exactly _
    (answers_by _ (Has c.args.marks.now.marks.items) (λ place. not (get_or c.args.marks.now.marks.items place false))
    (λ test place answer next has s. search rules) (λ test place answer next has s. search rules) _ _ refl)
