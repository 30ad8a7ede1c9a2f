use Rattle.std.proofs.Common.{sym, subst}
use Rattle.marker_core.specs.Bodies.{IsPlace}
use Rattle.pair_notes.specs.BodyGraph.{BodyHasPair}
use Rattle.marking_trials.specs.SmallHeap.{pair_then_strong}
use Rattle.marking_trials.proofs.SmallHeap.{null_written, other_there, either_place, either_pair}
use Rattle.marking_trials.proofs.tracing.null_over_a_noted_pair.Goals as goal

pub closed-requires-clause-listed : goal.closed-requires-clause-listed
closed-requires-clause-listed c p there =
    subst (λ bs. IsPlace bs p) (sym (null_written _ _ _ c.in_ok-t.ensures.traced c.store.ensures.view c.store-2.ensures.view))
    (either_place 0 0 0 p (c.in_ok-t.ensures.lists.listed p there))

pub closed-requires-clause-noted : goal.closed-requires-clause-noted
closed-requires-clause-noted c note there =
    subst (λ bs. BodyHasPair pair_then_strong bs note.holder note.word)
    (sym (null_written _ _ _ c.in_ok-t.ensures.traced c.store.ensures.view c.store-2.ensures.view))
    (either_pair 0 0 0 note (c.in_ok-t.ensures.lists.noted note there))

pub closed-requires-clause-other : goal.closed-requires-clause-other
closed-requires-clause-other c =
    subst (λ bs. IsPlace bs 256) (sym (null_written _ _ _ c.in_ok-t.ensures.traced c.store.ensures.view c.store-2.ensures.view))
    (other_there 0 0 0)
