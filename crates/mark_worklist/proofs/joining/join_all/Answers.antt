use Rattle.std.proofs.Common.{rules, ◌≡◌, ◌<◌, ℕ, ◌++◌, length}
use Rattle.mark_worklist.specs.Families.{at}
use Rattle.mark_worklist.proofs.Items.{order-items, items-then, still-even}
use Rattle.mark_worklist.proofs.Wholes.{all-open, all-even, few-shares}
use Rattle.mark_worklist.proofs.joining.join_all.Goals as goal

pub join_lists-requires-clause-before : goal.join_lists-requires-clause-before
join_lists-requires-clause-before c =
    let numbered : (k : ℕ) → k < length c.take_in.new.family.items → (at c.take_in.new.family.items k).number ≡ k = λ k l. c.take_in.ensures.numbered k (search rules) in
    all-open c.args.family.now.items c.args.shares.items c.take_in.new.family.items c.requires.all c.take_in.ensures.same numbered (search rules)

pub returns-clause-few : goal.returns-clause-few
returns-clause-few c =
    let numbered : (k : ℕ) → k < length c.take_in.new.family.items → (at c.take_in.new.family.items k).number ≡ k = λ k l. c.take_in.ensures.numbered k (search rules) in
    let few = few-shares c.args.family.now.items c.args.shares.items c.take_in.new.family.items c.requires.all c.take_in.ensures.same numbered (search rules) in
    search rules

pub returns-clause-same : goal.returns-clause-same
returns-clause-same c = items-then (c.args.family.now.items ++ c.args.shares.items) c.take_in.new.family.items c.join_lists.new.family.items (order-items _ _ c.take_in.ensures.same) c.join_lists.ensures.same

pub returns-clause-even : goal.returns-clause-even
returns-clause-even c =
    let all = c.args.family.now.items ++ c.args.shares.items in
    let same = items-then all c.take_in.new.family.items c.join_lists.new.family.items (order-items _ _ c.take_in.ensures.same) c.join_lists.ensures.same in
    still-even _ _ same (all-even c.args.family.now.items c.args.shares.items c.requires.all)
