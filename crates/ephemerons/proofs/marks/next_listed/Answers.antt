use Rattle.std.proofs.Common.{sym, ap, subst}
use Rattle.ephemerons.specs.Fixpoint.{IsStillHeld}
use Rattle.ephemerons.proofs.Holding.{popped_held, popped_none}
use Rattle.ephemerons.proofs.Stages.{mode_popped}
use Rattle.ephemerons.proofs.marks.next_listed.Goals as goal

pub returns-in-None : goal.returns-in-None
returns-in-None c = record {
  next = subst (λ held. IsStillHeld c.args.marking.now held (record c.args.marking.now { list = c.pop.new.self }) c.pop.result) (sym c.in-None.is)
      (popped_held c.args.marking.now (record c.args.marking.now { list = c.pop.new.self }) c.pop.result
      (mode_popped c.args.marking.now c.pop.new.self c.requires.whole c.pop.ensures.whole c.pop.ensures.shares)
      (ap (λ count. record { told = c.args.marking.now.overflow; count = count }) c.pop.ensures.refused) c.pop.ensures.items);
  none = popped_none c.args.marking.now (record c.args.marking.now { list = c.pop.new.self }) c.pop.result c.pop.ensures.items;
}
