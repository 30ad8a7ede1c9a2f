use Rattle.std.proofs.Common.{List, sym, subst}
use Rattle.gc_graph.specs.declared.kind.Kind.{Kind}
use Rattle.marker_core.specs.declared.states.Body.{Body}
use Rattle.marker_core.specs.Matching.{AreWhole}
use Rattle.core_steps.proofs.mutator.read_weakly.Goals as goal

pub reach_over-requires-clause-whole : goal.reach_over-requires-clause-whole
reach_over-requires-clause-whole c =
    subst (λ (bodies : List Body). AreWhole c.args.s.now.count c.as_slice-types.result.now bodies) (sym c.as_slice-bodies.ensures)
    (subst (λ (types : List (List Kind)). AreWhole c.args.s.now.count types c.args.s.now.mutator.bodies) (sym c.as_slice-types.ensures)
    c.requires.bodies_are_whole)
