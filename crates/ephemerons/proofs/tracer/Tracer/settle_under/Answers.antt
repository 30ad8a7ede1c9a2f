use Rattle.ephemerons.proofs.Tracers.{Keeps-then, Advances-then, GoesOnward-then}
use Rattle.ephemerons.proofs.tracer.Tracer.settle_under.Goals as goal

pub loop-i-preserved : goal.loop-i-preserved
loop-i-preserved g c = record {
  keeps = Keeps-then c.args.self.now c.loop-i.self c.settle_chain.new.self c.loop-i.invariant.keeps c.settle_chain.ensures.keeps;
  works = Advances-then c.args.self.now c.loop-i.self c.settle_chain.new.self c.loop-i.invariant.keeps c.loop-i.invariant.works c.settle_chain.ensures.works;
  looked = GoesOnward-then c.args.self.now c.loop-i.self c.settle_chain.new.self c.loop-i.invariant.keeps c.settle_chain.ensures.works c.loop-i.invariant.looked c.settle_chain.ensures.looked;
}
