use Rattle.std.proofs.Common.{List, map, not, sym, ap, ◌∙◌, subst, inl, inr}
use Rattle.marker_core.specs.Bodies.{IsPlace, with_word}
use Rattle.marker_core.specs.declared.states.Body.{Body}
use Rattle.page_words.specs.Seat.{SeatView}
use Rattle.pair_notes.specs.BodyGraph.{BodyHasPair}
use Rattle.marking_trials.specs.SmallHeap.{pair_then_strong, two_bodies}
use Rattle.marking_trials.proofs.SmallHeap.{other_written, other_there, pushed_place, either_place, either_pair}
use Rattle.marking_trials.proofs.tracing.another_over_a_noted_pair.Goals as goal

pub mark-requires-clause-place : goal.mark-requires-clause-place
mark-requires-clause-place c =
    subst (λ bs. IsPlace bs 256)
    (sym (ap (λ (v : SeatView). v.bodies) c.store.ensures.view ∙ ap (λ (bs : List Body). map (with_word 3 257) bs) c.in_ok-t.ensures.traced.bodies))
    (other_there 257 257 0)

pub closed-requires-clause-listed : goal.closed-requires-clause-listed
closed-requires-clause-listed c p there =
    subst (λ bs. IsPlace bs p) (sym (other_written _ _ _ (not c.mark.result) c.in_ok-t.ensures.traced c.store.ensures.view c.mark.ensures.view))
    (elim (pushed_place _ _ 256 p c.push.ensures.listed there) [
      | inl before ↦ either_place 257 257 0 p (c.in_ok-t.ensures.lists.listed p before)
      | inr here ↦ subst (IsPlace (two_bodies 257 257 0)) here (other_there 257 257 0)
    ])

pub closed-requires-clause-noted : goal.closed-requires-clause-noted
closed-requires-clause-noted c note there =
    subst (λ bs. BodyHasPair pair_then_strong bs note.holder note.word)
    (sym (other_written _ _ _ (not c.mark.result) c.in_ok-t.ensures.traced c.store.ensures.view c.mark.ensures.view))
    (either_pair 257 257 0 note (c.in_ok-t.ensures.lists.noted note there))

pub closed-requires-clause-other : goal.closed-requires-clause-other
closed-requires-clause-other c =
    subst (λ bs. IsPlace bs 256)
    (sym (other_written _ _ _ (not c.mark.result) c.in_ok-t.ensures.traced c.store.ensures.view c.mark.ensures.view))
    (other_there 257 257 0)
