use Rattle.ephemerons.proofs.Tracers.{Keeps-then, Advances-then, GoesOnward-then}
use Rattle.ephemerons.proofs.tracer.Tracer.drain_under_keys.Goals as goal

pub loop-preserved : goal.loop-preserved
loop-preserved g c = record {
  keeps = Keeps-then c.args.self.now c.loop.self c.trace_next.new.self c.loop.invariant.keeps c.trace_next.ensures.keeps;
  works = Advances-then c.args.self.now c.loop.self c.trace_next.new.self c.loop.invariant.keeps c.loop.invariant.works c.trace_next.ensures.works;
  looked = GoesOnward-then c.args.self.now c.loop.self c.trace_next.new.self c.loop.invariant.keeps c.trace_next.ensures.works c.loop.invariant.looked
      c.trace_next.ensures.looked;
}

pub returns-clause-keeps : goal.returns-clause-keeps
returns-clause-keeps g c = Keeps-then c.args.self.now c.loop.self c.trace_next.new.self c.loop.invariant.keeps c.trace_next.ensures.keeps

pub returns-clause-works : goal.returns-clause-works
returns-clause-works g c =
    Advances-then c.args.self.now c.loop.self c.trace_next.new.self c.loop.invariant.keeps c.loop.invariant.works c.trace_next.ensures.works

pub returns-clause-looked : goal.returns-clause-looked
returns-clause-looked g c =
    GoesOnward-then c.args.self.now c.loop.self c.trace_next.new.self c.loop.invariant.keeps c.trace_next.ensures.works c.loop.invariant.looked
    c.trace_next.ensures.looked
