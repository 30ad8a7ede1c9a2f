use Rattle.std.proofs.Common.{rules, ◌≡◌, ◌∷◌, ◌++◌, [], subst}
use Rattle.mark_worklist.specs.Lists.{ListState, IsOneMore}
use Rattle.mark_worklist.specs.Left.{list_state_of}
use Rattle.mark_worklist.proofs.Kept.{first_kept, first_one, first_awake}
use Rattle.mark_worklist.proofs.worklist.Worklist.pop.Goals as goal

pub invariant_of-self : goal.invariant_of-self
invariant_of-self c =
    let l = c.self.inside in
    let all : l.items.items ≡ c.pop.new.self.items ++ c.in-Some.a ∷ [] = search rules in
    first_kept c.pop.new.self.items l.items.items c.in-Some.a l.refused l.idle l.shared l.left.value all l.out (search rules) c.self.invariant

pub returns-in-Some-clause-items : goal.returns-in-Some-clause-items
returns-in-Some-clause-items c =
    let l = c.self.inside in
    let all : l.items.items ≡ c.pop.new.self.items ++ c.in-Some.a ∷ [] = search rules in
    let view : list_state_of l.out l.items.items l.refused l.idle l.shared l.left.value ≡ c.args.self.now = search rules in
    subst (λ (s : ListState). IsOneMore (list_state_of l.out c.pop.new.self.items l.refused l.idle l.shared l.left.value).items c.in-Some.a s.items) view
    (first_one c.pop.new.self.items l.items.items c.in-Some.a l.refused l.idle l.shared l.left.value all l.out (search rules))

pub returns-in-Some-clause-idle : goal.returns-in-Some-clause-idle
returns-in-Some-clause-idle c =
    let l = c.self.inside in
    let all : l.items.items ≡ c.pop.new.self.items ++ c.in-Some.a ∷ [] = search rules in
    first_awake c.pop.new.self.items l.items.items c.in-Some.a l.refused l.idle l.shared l.left.value all l.out (search rules) c.self.invariant
