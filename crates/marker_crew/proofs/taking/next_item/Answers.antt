use Rattle.marker_crew.proofs.Shares.{popped_is, then_stolen}
use Rattle.marker_crew.proofs.taking.next_item.Goals as goal

pub returns-in-Some-clause-taken : goal.returns-in-Some-clause-taken
returns-in-Some-clause-taken c = popped_is c.args.share.now c.pop.new.self c.in-Some.a c.in-Some.ensures.taken

pub returns-in-None-clause-taken : goal.returns-in-None-clause-taken
returns-in-None-clause-taken c =
    then_stolen c.args.share.now c.pop.new.self c.steal.new.self c.steal.result c.in-None.ensures.taken.0 c.steal.ensures.taken
