use Rattle.std.proofs.Common.{List, sym, ◌∙◌, subst, inr}
use Rattle.gc_graph.specs.State.{ObjectType}
use Rattle.marker_core.specs.Bodies.{IsPlace}
use Rattle.pair_notes.specs.BodyGraph.{BodyHasPair}
use Rattle.marking_trials.proofs.SmallHeap.{noted_alone}
use Rattle.marking_trials.proofs.tracing.closed.Goals as goal

pub fixpoint-count-requires-clause-noted : goal.fixpoint-count-requires-clause-noted
fixpoint-count-requires-clause-noted c note noted =
    inr (subst (λ (ts : List ObjectType). BodyHasPair ts c.args.t.heap.seat.bodies note.holder note.word) (sym (c.deref.ensures ∙ c.requires.types))
    (c.requires.noted note (noted_alone c.args.t.notes note noted)))

pub is_other_marked-requires-clause-other : goal.is_other_marked-requires-clause-other
is_other_marked-requires-clause-other c = subst (λ bs. IsPlace bs 256) (sym c.fixpoint-count.ensures.kept.bodies) c.requires.other
