-- Each step of the mutator's seat, in every state with its view.
use Rattle.std.proofs.Common.{◌≡◌, ℕ, List, get_or, set, Bool, true, false, not, cond, ◌&&◌, eqb, ltb, Some, None, refl, sym, ap, ◌∙◌, inl, inr, Contains}
use Rattle.std.proofs.lemmas.Bool.{cases_Bool, cond-true, cond-false, both_ways, and_parts, not-true, eq-eqb, ne_eqb}
use Rattle.std.proofs.lemmas.List.{set-get_or}
use Rattle.object_headers.specs.Layout.{header_word, word_with_traced}
use Rattle.marker_core.specs.declared.states.Body.{Body}
use Rattle.marker_core.specs.declared.states.CoreState.{CoreState}
use Rattle.marker_core.specs.declared.states.MarkerView.{MarkerView}
use Rattle.marker_core.specs.Layout.{has_mark, has_traced}
use Rattle.marker_core.specs.Bodies.{is_place}
use Rattle.marker_core.specs.Views.{marks_at, traces_at}
use Rattle.marker_core.specs.Seats.{SeatSide, core_of, with_view}
use Rattle.marker_core.specs.SeatSteps.{seat_can_load, seat_loaded, seat_can_fill, seat_can_store, seat_can_retract, seat_can_mark, seat_can_claim, is_grey, seat_claimed, seat_can_unmark, seat_can_begin}
use Rattle.marker_core.specs.MutatorSteps.{core_loaded, claimed}
use Rattle.marker_core.specs.Step.{core_step}
use Rattle.marker_core.specs.Core.{IsCoreOk}
use Rattle.marker_core.specs.SeatLaws.{LoadsAreSteps, FillsAreSteps, StoresAreSteps, RetractsAreSteps, MarksAreSteps, IsGreyHeader, exchanged, ClaimsAreSteps, UnmarksAreSteps, BeginsAreSteps}
use Rattle.marker_core.proofs.Apart.{body_of_place}
use Rattle.marker_core.proofs.Headers.{mark_of_header, traced_of_header}

-- a step that is allowed is taken, and leads to this state
pub taken : (allowed : Bool) (x y : CoreState) → allowed ≡ true → x ≡ y → cond allowed (Some x) None ≡ Some y
taken allowed x y can same = cond-true allowed (Some x) None can ∙ ap (λ (s : CoreState). Some s) same

pub loads_are_steps : LoadsAreSteps
unfolding core_step
loads_are_steps v a why can words markers ok =
    taken (seat_can_load v a why) (core_loaded (core_of v words markers) a why) _ can
    (ap (λ ws. core_of (with_view v (seat_loaded v a why (get_or words a 0))) ws markers) (sym (set-get_or words a 0)))

pub fills_are_steps : FillsAreSteps
unfolding core_step
fills_are_steps v a w can words markers ok = taken (seat_can_fill v a) _ _ can refl

pub stores_are_steps : StoresAreSteps
unfolding core_step
stores_are_steps v a w can words markers ok = taken (seat_can_store v a w) _ _ can refl

pub retracts_are_steps : RetractsAreSteps
unfolding core_step
retracts_are_steps v a can words markers ok = taken (seat_can_retract v a) _ _ can refl

pub marks_are_steps : MarksAreSteps
unfolding core_step
marks_are_steps v a can words markers ok = taken (seat_can_mark v a) _ _ can refl

pub unmarks_are_steps : UnmarksAreSteps
unfolding core_step
unmarks_are_steps v a can words markers ok = taken (seat_can_unmark v a) _ _ can refl

pub begins_are_steps : BeginsAreSteps
unfolding core_step
begins_are_steps v roots can words markers ok = taken (seat_can_begin v) _ _ can refl

-- ---- claim

-- a header with the mark and without the traced bit is the grey one
grey_word : (mark traced : Bool) (ty size : ℕ) → is_grey (header_word true mark traced ty size) ≡ true
    → header_word true mark traced ty size ≡ header_word true true false ty size
grey_word mark traced ty size grey =
    let h = header_word true mark traced ty size in
    let tests = and_parts (has_mark h) (not (has_traced h)) grey in
    let on : mark ≡ true = sym (mark_of_header mark traced ty size) ∙ tests.0 in
    let off : traced ≡ false = sym (traced_of_header mark traced ty size) ∙ not-true (has_traced h) tests.1 in
    ap (λ m. header_word true m traced ty size) on ∙ ap (λ t. header_word true true t ty size) off

module _ (v : SeatSide) (words : List ℕ) (markers : List MarkerView) (ok : IsCoreOk (core_of v words markers)) (a header : ℕ) (place : is_place v.mutator.bodies a ≡ true) (grey : IsGreyHeader v a header) where
  abbrev at : (b : Body) × Contains v.mutator.bodies b × (b.place ≡ a)
  at = body_of_place v.mutator.bodies a place

  abbrev found : ℕ
  found = get_or words a 0

  abbrev mark : Bool
  mark = ltb 0 (marks_at v.mutator markers at.0.place)

  abbrev traced : Bool
  traced = ltb 0 (traces_at v.mutator markers at.0.place)

  found_is : found ≡ header_word true mark traced at.0.ty at.0.size
  found_is = ap (λ p. get_or words p 0) (sym at.2) ∙ ok.headers_match at.0 at.1

  grey_is_header : is_grey found ≡ true → found ≡ header
  grey_is_header h =
      found_is ∙ grey_word mark traced at.0.ty at.0.size (ap is_grey (sym found_is) ∙ h) ∙ sym (grey at.0 at.1 at.2)

  header_is_grey : found ≡ header → is_grey found ≡ true
  header_is_grey same =
      ap is_grey (same ∙ grey at.0 at.1 at.2)
      ∙ ap (λ m. m && not (has_traced (header_word true true false at.0.ty at.0.size))) (mark_of_header true false at.0.ty at.0.size)
      ∙ ap not (traced_of_header true false at.0.ty at.0.size)

  words_after : cond (is_grey found) (set words a (word_with_traced true found)) words ≡ set words a (exchanged header (word_with_traced true header) found)
  words_after = elim (cases_Bool (is_grey found)) [
    | inl grey_found ↦
        (let same = grey_is_header grey_found in
        cond-true (is_grey found) (set words a (word_with_traced true found)) words grey_found
        ∙ ap (λ w. set words a (word_with_traced true w)) same
        ∙ ap (set words a) (sym (cond-true (eqb found header) (word_with_traced true header) found (eq-eqb found header same))))
    | inr other ↦
        cond-false (is_grey found) (set words a (word_with_traced true found)) words other
        ∙ sym (set-get_or words a 0)
        ∙ ap (set words a)
        (sym (cond-false (eqb found header) (word_with_traced true header) found (ne_eqb found header (λ same. both_ways (is_grey found) other (header_is_grey same)))))
  ]

pub claims_are_steps : ClaimsAreSteps
unfolding core_step
claims_are_steps v a header can grey words markers ok =
    let tests = and_parts _ (is_place v.mutator.bodies a) can in
    taken (seat_can_claim v a) (claimed (core_of v words markers) a) _ can
    (ap (λ ws. core_of (with_view v (seat_claimed v a (get_or words a 0))) ws markers)
    (words_after v words markers ok a header tests.1 grey))
