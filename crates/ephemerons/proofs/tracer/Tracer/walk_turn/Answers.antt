use Rattle.ephemerons.proofs.Tracers.{same_types, Keeps-then, Advances-then}
use Rattle.ephemerons.proofs.tracer.Tracer.walk_turn.Goals as goal

pub returns-clause-keeps : goal.returns-clause-keeps
returns-clause-keeps g c = Keeps-then c.args.self.now c.drain.new.self c.settle_objects.new.self c.drain.ensures.keeps c.settle_objects.ensures.keeps

pub returns-clause-works : goal.returns-clause-works
returns-clause-works g c =
    Advances-then c.args.self.now c.drain.new.self c.settle_objects.new.self c.drain.ensures.keeps c.drain.ensures.works
    c.settle_objects.ensures.looks.works

pub returns-clause-settled : goal.returns-clause-settled
returns-clause-settled g c none p place = rw (same_types c.drain.ensures.keeps) at c.settle_objects.ensures.settled none p place
