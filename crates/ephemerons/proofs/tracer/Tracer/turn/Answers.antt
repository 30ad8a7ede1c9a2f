use Rattle.ephemerons.proofs.Tracers.{same_types, Keeps-then, Advances-then, GoesOnward-then}
use Rattle.ephemerons.proofs.tracer.Tracer.turn.Goals as goal

pub returns-clause-keeps : goal.returns-clause-keeps
returns-clause-keeps g c = Keeps-then c.args.self.now c.drain.new.self c.settle_notes.new.self c.drain.ensures.keeps c.settle_notes.ensures.keeps

pub returns-clause-works : goal.returns-clause-works
returns-clause-works g c =
    Advances-then c.args.self.now c.drain.new.self c.settle_notes.new.self c.drain.ensures.keeps c.drain.ensures.works c.settle_notes.ensures.looks.works

pub returns-clause-looked : goal.returns-clause-looked
returns-clause-looked g c =
    GoesOnward-then c.args.self.now c.drain.new.self c.settle_notes.new.self c.drain.ensures.keeps c.settle_notes.ensures.looks.works c.drain.ensures.looked
    c.settle_notes.ensures.looked

pub returns-clause-settled : goal.returns-clause-settled
returns-clause-settled g c none note there = rw (same_types c.drain.ensures.keeps) at c.settle_notes.ensures.settled none note there
