use Rattle.std.proofs.Common.{◌≡◌, true, refl, sym, ap, ◌∙◌, subst}
use Rattle.marker_core.specs.Bodies.{IsPlace, is_place}
use Rattle.page_words.specs.Seat.{SeatView}
use Rattle.marking_trials.proofs.SmallHeap.{holder_there, other_there}
use Rattle.marking_trials.proofs.draining.marked.Goals as goal

pub mark-requires-clause-place : goal.mark-requires-clause-place
mark-requires-clause-place c =
    subst (λ bs. IsPlace bs 0) (sym (ap (λ (v : SeatView). v.bodies) c.set_stop.ensures.view ∙ c.write.ensures.small.bodies))
    (holder_there c.args.key c.args.value c.args.strong)

pub mark-requires-clause-may : goal.mark-requires-clause-may
mark-requires-clause-may c =
    (c.set_stop.ensures.may refl).roots_in 0 refl (subst (λ bs. is_place bs 0 ≡ true) (sym c.write.ensures.small.bodies) refl)

pub returns : goal.returns
returns c = record {
  heap = ap (λ (v : SeatView). v.heap) c.mark.ensures.view ∙ ap (λ (v : SeatView). v.heap) c.set_stop.ensures.view ∙ c.write.ensures.heap ∙ c.in_ok-heap.ensures.space;
  known =
      c.in_ok-heap.ensures.types
      ∙ sym (ap (λ (v : SeatView). v.types) c.mark.ensures.view ∙ ap (λ (v : SeatView). v.types) c.set_stop.ensures.view ∙ c.write.ensures.small.known);
  on = ap (λ (v : SeatView). v.on) c.mark.ensures.view ∙ ap (λ (v : SeatView). v.on) c.set_stop.ensures.view;
  other =
      subst (λ bs. IsPlace bs 256)
      (sym (ap (λ (v : SeatView). v.bodies) c.mark.ensures.view ∙ ap (λ (v : SeatView). v.bodies) c.set_stop.ensures.view ∙ c.write.ensures.small.bodies))
      (other_there c.args.key c.args.value c.args.strong);
}
