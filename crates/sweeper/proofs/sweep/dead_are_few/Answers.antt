use Rattle.sweeper.proofs.Ends.{dead_few}
use Rattle.sweeper.proofs.Sweeping.{part_dead}
use Rattle.sweeper.proofs.sweep.dead_are_few.Goals as goal

pub returns-clause-few : goal.returns-clause-few
returns-clause-few c = λ from until over. dead_few c.args.space.now c.args.seat.now from until over

pub returns-clause-part : goal.returns-clause-part
returns-clause-part c = λ from mid until end early late. part_dead from mid until end c.args.seat.now early late
