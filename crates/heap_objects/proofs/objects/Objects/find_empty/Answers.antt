use Rattle.std.proofs.Common.{List, subst}
use Rattle.std.specs.Prelude.{IfSome, IfNone}
use Rattle.gc_graph.specs.Placement.{Extent, StartsEmptyRun, IsLowest, IsNowhere}
use Rattle.page_space.specs.Space.{IsFreePlace}
use Rattle.heap_objects.proofs.HeldNodes.{extents_held}
use Rattle.heap_objects.proofs.objects.Objects.find_empty.Goals as goal

pub returns-clause-found : goal.returns-clause-found
returns-clause-found c =
    rw (← c.self.view_is) (subst (λ (es : List Extent). IfSome c.find_empty.result (IsLowest (StartsEmptyRun c.self.inside.space.shape es c.args.size)))
    (extents_held c.self.inside.nodes.value c.self.inside.seat c.self.invariant.held) c.find_empty.ensures.found)

pub returns-clause-none : goal.returns-clause-none
returns-clause-none c =
    rw (← c.self.view_is) (subst (λ (es : List Extent). IfNone c.find_empty.result (IsNowhere (StartsEmptyRun c.self.inside.space.shape es c.args.size)))
    (extents_held c.self.inside.nodes.value c.self.inside.seat c.self.invariant.held) c.find_empty.ensures.none)

pub returns-clause-place : goal.returns-clause-place
returns-clause-place c =
    rw (← c.self.view_is) (subst (λ (es : List Extent). IfSome c.find_empty.result (IsFreePlace c.self.inside.space.shape es c.args.size))
    (extents_held c.self.inside.nodes.value c.self.inside.seat c.self.invariant.held) c.find_empty.ensures.place)
