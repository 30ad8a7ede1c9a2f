-- What a header that was found tells of marks.
use Rattle.std.proofs.Common.{◌≡◌, ℕ, ◌&&◌, true, false, not, eqb, ap, ◌∙◌, Contains}
use Rattle.object_headers.specs.Layout.{header_word}
use Rattle.marker_core.specs.declared.states.Body.{Body}
use Rattle.marker_core.specs.Bodies.{IsPlace, holds}
use Rattle.marker_core.specs.Layout.{has_mark, has_traced}
use Rattle.marker_core.specs.SeatFacts.{IsHeaderAt}
use Rattle.marker_core.specs.SeatSteps.{is_grey}
use Rattle.page_words.specs.Seat.{SeatView, TellsWordAt, side, is_grey_at}
use Rattle.page_words.proofs.Bits.{grey_is_found}

module _ (v : SeatView) (a w : ℕ) (is : TellsWordAt v a w) (at : IsPlace v.bodies a) where
  told : IsHeaderAt (side v) a w
  told = is.header at.0 at.1 at.2

  -- the grey header is found just where the one that is there is grey
  pub finds_grey : (header : ℕ) → ((b : Body) → Contains v.bodies b → b.place ≡ a → header ≡ header_word true true false b.ty b.size)
      → eqb w header ≡ is_grey w
  finds_grey header form =
      let b : Body = at.0 in
      ap (λ n. eqb n header) (told.word b at.1 at.2)
      ∙ ap (eqb (header_word true (has_mark w) (has_traced w) b.ty b.size)) (form b at.1 at.2)
      ∙ grey_is_found (has_mark w) (has_traced w) b.ty b.size

  pub grey_alone : v.lent ≡ 0 → is_grey w ≡ is_grey_at v a
  grey_alone alone = ap (λ m. m && not (has_traced w)) (told.mark.alone alone) ∙ ap (λ t. holds v.marked a && not t) (told.traced.alone alone)

  -- both in one
  pub grey_is_told : (header : ℕ) → ((b : Body) → Contains v.bodies b → b.place ≡ a → header ≡ header_word true true false b.ty b.size)
      → v.lent ≡ 0 → eqb w header ≡ is_grey_at v a
  grey_is_told header form alone = finds_grey header form ∙ grey_alone alone
