use Rattle.std.proofs.Common.{◌≡◌, refl, sym, ap, ◌∙◌, subst}
use Rattle.marker_core.specs.SeatLaws.{IsReadyToPublish}
use Rattle.page_words.specs.Seat.{SeatView, side, filled_with, published}
use Rattle.words_trials.specs.Objects.{holder_at, filled_at}
use Rattle.words_trials.proofs.TwoObjects.{new_heap, one_object, first_ready, second_ready}
use Rattle.words_trials.proofs.traces.lay.Goals as goal

pub publish-requires : goal.publish-requires
publish-requires c =
    let now : c.fill-3.new.seat ≡ filled_at (new_heap c.args.words.now) 0 =
    c.fill-3.ensures ∙ ap (λ v. filled_with v 2 0) (c.fill-2.ensures ∙ ap (λ v. filled_with v 1 7)
    (c.fill.ensures ∙ ap (λ v. filled_with v 0 c.pack-header.result) c.requires.new ∙ ap (filled_with (new_heap c.args.words.now) 0) c.pack-header.ensures)) in (
      ap (λ (v : SeatView). v.heap) now,
      (refl, subst (λ (v : SeatView). IsReadyToPublish (side v) (holder_at 0)) (sym now) (first_ready c.args.words.now c.requires.count)),
    )

pub publish-requires-2 : goal.publish-requires-2
publish-requires-2 c =
    let one : c.publish.new.seat ≡ one_object c.args.words.now =
    c.publish.ensures ∙ ap (λ v. published v (holder_at 0)) (c.fill-3.ensures ∙ ap (λ v. filled_with v 2 0) (c.fill-2.ensures ∙ ap (λ v. filled_with v 1 7)
    (c.fill.ensures ∙ ap (λ v. filled_with v 0 c.pack-header.result) c.requires.new ∙ ap (filled_with (new_heap c.args.words.now) 0) c.pack-header.ensures))) in
    let now : c.fill-6.new.seat ≡ filled_at (one_object c.args.words.now) 3 =
    c.fill-6.ensures ∙ ap (λ v. filled_with v 5 0) (c.fill-5.ensures ∙ ap (λ v. filled_with v 4 10)
    (c.fill-4.ensures ∙ ap (λ v. filled_with v 3 c.pack-header.result) one ∙ ap (filled_with (one_object c.args.words.now) 3) c.pack-header.ensures)) in (
      ap (λ (v : SeatView). v.heap) now,
      (refl, subst (λ (v : SeatView). IsReadyToPublish (side v) (holder_at 3)) (sym now) (second_ready c.args.words.now c.requires.count)),
    )
