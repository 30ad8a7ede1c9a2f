use Rattle.marker_core.specs.Bodies.{places}
use Rattle.marking_trials.proofs.barriers.begin.Given as goal

abbrev pub ghost-set_stop : goal.ghost-set_stop
ghost-set_stop a = places a.seat.now.bodies
