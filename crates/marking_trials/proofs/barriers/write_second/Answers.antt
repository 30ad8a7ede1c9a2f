use Rattle.marking_trials.proofs.UnderWay.{reference_is}
use Rattle.marking_trials.proofs.barriers.write_second.Goals as goal

pub write-requires-clause-target : goal.write-requires-clause-target
write-requires-clause-target c =
    reference_is c.args.three.now.seat c.args.three.now.second c.reference_to-target.result c.requires.second c.reference_to-target.ensures
