use Rattle.std.proofs.Common.{◌≡◌, ◌∙◌, ap, filter, arith}
use Rattle.gc_graph.specs.Graph.{has}
use Rattle.marker_core.specs.Bodies.{places}
use Rattle.core_steps.proofs.Flags.{reached_is}
use Rattle.core_steps.proofs.reaching.reach_over.Goals as goal

pub returns : goal.returns
returns c =
    let end : c.loop-turn._turn ≡ c.args.count = omega arith in
    c.in_ok-kept.ensures ∙ ap (λ l. filter (has l) (places c.args.bodies.now)) c.deref-2.ensures.value
    ∙ reached_is c.args.count c.args.types.now c.args.bodies.now c.args.roots.now c.loop-turn.set.items c.loop-turn._turn end c.loop-turn.invariant
