use Rattle.std.proofs.Common.{◌≡◌, ℕ, true, false, [], ◌∷◌, ◌++◌, refl, sym, ap, ◌∙◌, subst}
use Rattle.std.specs.List.{Contains}
use Rattle.std.proofs.lemmas.Bool.{cond-true}
use Rattle.object_headers.specs.Layout.{header_word}
use Rattle.marker_core.specs.Bodies.{holds, is_place}
use Rattle.page_words.specs.BodyPlaces.{small_type}
use Rattle.page_words.specs.PlaceTests.{test_of_place}
use Rattle.page_words.specs.Seat.{SeatView}
use Rattle.ephemerons.specs.LookedPlaces.{looked_once, looked_then}
use Rattle.ephemerons.proofs.tracing.claim.Goals as goal

pub claim-requires-clause-header : goal.claim-requires-clause-header
claim-requires-clause-header g c b there at =
    let v : SeatView = c.args.seat.now in
    let here : Contains v.bodies b = subst (λ (x : SeatView). Contains x.bodies b) (c.load-word.ensures.read refl) there in
    let read = c.load-word.ensures.word.alone c.requires.alone.none_lent b here at in
    let untraced = c.if-word-with_traced.false ∙ c.with_traced.ensures.header true (holds v.marked b.place) (holds v.traced b.place) b.ty b.size read in
    let told = c.load-word.ensures.word.header b here at in
    let marked : holds v.marked b.place ≡ true =
    ap (holds v.marked) at ∙ sym (told.mark.alone c.requires.alone.none_lent) ∙ sym c.has_mark.ensures ∙ c.if-not-has_mark.false in
    untraced ∙ ap (λ mark. header_word true mark false b.ty b.size) marked

pub returns-clause-body : goal.returns-clause-body
returns-clause-body g c =
    let v : SeatView = c.args.seat.now in
    let at = c.requires.place in
    let read = c.load-word.ensures.word.alone c.requires.alone.none_lent at.0 at.1 at.2 in (
      at.0,
      at.1,
      at.2,
      sym (c.type_in.ensures.header true (holds v.marked at.0.place) (holds v.traced at.0.place) at.0.ty at.0.size
          (small_type v c.bodies_lie_apart.ensures at.0 at.1) read),
    )

-- the header is loaded, and looked at again as it is claimed
pub returns-clause-looked : goal.returns-clause-looked
returns-clause-looked g c =
    let v = c.args.seat.now in
    let a : ℕ = c.args.place in
    let loaded : c.load-word.new.seat.looked ≡ v.looked ++ a ∷ [] =
    ap (λ (x : SeatView). x.looked) c.load-word.ensures.view
    ∙ cond-true (is_place v.bodies a) (v.looked ++ a ∷ []) v.looked (test_of_place v.bodies a c.requires.place) in
    looked_then (λ p. a ≡ p) v c.load-word.new.seat c.claim.new.seat (looked_once (λ p. a ≡ p) v c.load-word.new.seat a loaded refl)
    (looked_once (λ p. a ≡ p) c.load-word.new.seat c.claim.new.seat a (ap (λ (x : SeatView). x.looked) c.claim.ensures.view.3) refl)
