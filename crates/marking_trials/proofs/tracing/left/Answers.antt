use Rattle.std.proofs.Common.{sym, subst}
use Rattle.marker_core.specs.Bodies.{IsPlace}
use Rattle.marking_trials.proofs.SmallHeap.{other_there}
use Rattle.marking_trials.proofs.tracing.left.Goals as goal

pub is_other_marked-requires-clause-other : goal.is_other_marked-requires-clause-other
is_other_marked-requires-clause-other c =
    subst (λ bs. IsPlace bs 256) (sym c.in_ok-t.ensures.traced.bodies) (other_there c.args.key c.args.value c.args.strong)
