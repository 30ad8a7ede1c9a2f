use Rattle.std.proofs.Common.{rules}
use Rattle.mark_worklist.proofs.Joins.{gave-back}
use Rattle.mark_worklist.proofs.joining.give_back.Goals as goal

pub returns-clause-gave : goal.returns-clause-gave
returns-clause-gave c = gave-back c.args.family.now.items c.args.giver c.args.owner c.index_mut.result.now c.index_mut-2.result.now c.pop_end-end.new.self c.join_end.new.self c.pop_end-end.result
    (search rules) (search rules) c.requires.apart (search rules) (search rules) (search rules) (search rules) (search rules)
