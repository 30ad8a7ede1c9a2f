-- What is true of every seat's view, and what a word that was found tells.
use Rattle.std.proofs.Common.{◌≡◌, ℕ, ◌+◌, ◌/◌, ◌%◌, ◌^◌, ◌<◌, ◌≤◌, List, [], get_or, ◌∷◌, ◌++◌, true, false, leb, ltb, ◌&&◌, if◌then◌else◌, refl, sym, ap, ◌∙◌, subst, inl, inr, arith, Contains}
use mathlib.Core.Logic.{◌⊎◌}
use Rattle.std.specs.List.{list_any}
use Rattle.std.specs.Option.{is_none}
use Rattle.std.proofs.lemmas.Bool.{cases_Bool, cases_order, cond-false, eq-eqb, eqb-true, and_parts, and_left, and_right, ltb-true}
use Rattle.std.proofs.lemmas.List.{get_or_default, length-map}
use Rattle.gc_graph.specs.Members.{any_member}
use Rattle.gc_graph.specs.State.{ObjectType}
use Rattle.object_headers.specs.Layout.{header_word}
use Rattle.marker_core.specs.declared.states.Body.{Body}
use Rattle.marker_core.specs.Bodies.{end_of, is_place, IsPlace, holds, has_field}
use Rattle.marker_core.specs.declared.states.Why.TheVariants.{Read}
use Rattle.marker_core.specs.Layout.{stop_at, has_traced}
use Rattle.marker_core.specs.SeatSteps.{seat_can_store, store_fits}
use Rattle.marker_core.specs.Matching.{IsWhole, LieApart}
use Rattle.marker_core.specs.SeatFacts.{IsViewOk, ViewsAreOk, MayBeFound, IsHeaderAt}
use Rattle.page_words.proofs.Elements.{members_are}
use Rattle.atomic_table.specs.Seated.{TableId}
use Rattle.page_words.specs.BodyPlaces.{place_below, within_heap}
use Rattle.page_words.specs.Rule.{RuleView, side_of, IsSure, seat_view}
use Rattle.page_words.specs.PlaceTests.{place_of_test, test_of_place, outside_of_test}
use Rattle.page_words.specs.Roles.{kind_lists}
use Rattle.page_words.specs.Seat.{SeatView, IsView, TellsWordAt, side, header_of, with_mutator, loaded}

-- two bodies that share a word are one
shared : (bodies : List Body) → LieApart bodies → (b c : Body) (a : ℕ) → Contains bodies b → Contains bodies c → b.place ≤ a → a < end_of b
    → c.place ≤ a → a < end_of c → b ≡ c
shared bodies apart b c a hb hc from until from_too until_too =
    let c_at : get_or bodies hc.0 b ≡ c = get_or_default bodies hc.0 b c hc.1 ∙ hc.2 in
    elim (cases_order hb.0 hc.0) [
      | inl same ↦ sym hb.2 ∙ ap (λ k. get_or bodies k b) same ∙ c_at
      | inr order ↦ elim order [
        | inl before ↦
            (let off = subst (λ (x : Body). (end_of x ≤ c.place) ⊎ (end_of c ≤ x.place)) hb.2
            (subst (λ (y : Body). (end_of (get_or bodies hb.0 b) ≤ y.place) ⊎ (end_of y ≤ (get_or bodies hb.0 b).place)) c_at
            (apart hb.0 hc.0 b before hc.1)) in
            elim off [ inl l ↦ absurd (omega arith) | inr r ↦ absurd (omega arith) ])
        | inr after ↦
            (let off = subst (λ (x : Body). (end_of c ≤ x.place) ⊎ (end_of x ≤ c.place)) hb.2
            (subst (λ (y : Body). (end_of y ≤ (get_or bodies hb.0 b).place) ⊎ (end_of (get_or bodies hb.0 b) ≤ y.place)) c_at
            (apart hc.0 hb.0 b after hb.1)) in
            elim off [ inl l ↦ absurd (omega arith) | inr r ↦ absurd (omega arith) ])
      ]
    ]

pub view_is : ViewsAreOk → (table : TableId) (v : RuleView) → IsSure v → IsView (seat_view table v)
view_is law table v sure =
    let ok : IsViewOk (side_of v) = law (side_of v) sure.words sure.markers sure.ok in
    record {
      count = sure.count.most;
      few = omega (arith, ok.are_types.few, length-map v.types (λ (type : ObjectType). type.kinds));
      whole = members_are (IsWhole v.count (kind_lists v.types)) v.mutator.bodies ok.bodies_are_whole;
      serials = ok.serials_differ;
      apart = shared v.mutator.bodies ok.bodies_lie_apart;
      filled_outside = λ f h. ((ok.filled_outside f h).0, outside_of_test v.mutator.bodies f.0 (ok.filled_outside f h).1);
      references = ok.references_name_bodies;
      marked_are_bodies = λ a h. place_of_test v.mutator.bodies a (ok.marked_are_bodies a h);
      traced_are_bodies = λ a h. place_of_test v.mutator.bodies a (ok.traced_are_bodies a h);
      traced_once = ok.traced_once;
      traced_are_marked = ok.traced_are_marked;
      dead_are_unmarked = λ a h. (place_of_test v.mutator.bodies a (ok.dead_are_unmarked a h).0, (ok.dead_are_unmarked a h).1);
      marking = ok.marking;
      at_rest = ok.at_rest;
      none_noted = sure.none_noted;
    }

-- where no view is lent the bits are those that the view tells
told_alone : (v : SeatView) (a w : ℕ) → IsHeaderAt (side v) a w → v.lent ≡ 0 → (b : Body) → Contains v.bodies b → b.place ≡ a → w ≡ header_of v b
told_alone v a w told alone b there at =
    told.word b there at ∙ ap (λ m. header_word true m (has_traced w) b.ty b.size) (told.mark.alone alone)
    ∙ ap (λ t. header_word true (holds v.marked a) t b.ty b.size) (told.traced.alone alone)
    ∙ ap (λ p. header_word true (holds v.marked p) (holds v.traced p) b.ty b.size) (sym at)

pub word_is : (v : SeatView) (a w : ℕ) → MayBeFound (side v) a w → TellsWordAt v a w
word_is v a w found = record {
  header = λ b there at. found.header (test_of_place v.bodies a (b, there, at));
  alone = λ alone b there at. told_alone v a w (found.header (test_of_place v.bodies a (b, there, at))) alone b there at;
  serial = found.serial;
  field = found.field;
  filled = found.filled;
  start = λ p below at. (
    λ set. place_of_test v.bodies p (sym (found.start p below at) ∙ eq-eqb (w / 2 ^ (p % 64) % 2) 1 set),
    λ place. eqb-true (w / 2 ^ (p % 64) % 2) 1 (found.start p below at ∙ test_of_place v.bodies p place),
  );
}

-- each word of an object lies below the stop word
pub place_within : (v : SeatView) (a : ℕ) → IsView v → IsPlace v.bodies a → a ≤ stop_at v.count
place_within v a is at = omega (arith, place_below v a is at)

-- and so does a word that may be stored
pub store_within : (v : SeatView) (a w : ℕ) → IsView v → seat_can_store (side v) a w ≡ true → a ≤ stop_at v.count
store_within v a w is can =
    let some = (and_parts (is_none v.pending && is_none v.hand) (list_any (store_fits (side v) a w) v.bodies) can).1 in
    let found = any_member (store_fits (side v) a w) v.bodies some in
    let b : Body = found.0 in
    let field : has_field a b ≡ true = (and_parts _ _ (and_parts _ _ (and_parts _ _ found.2).0).0).0 in
    let below = ltb-true a (end_of b) (and_parts (leb (b.place + 2) a) (ltb a (end_of b)) field).1 in
    omega (arith, below, within_heap v is b found.1)

-- what is loaded to read and is no header leaves the view as it was
pub read_beside : (v : SeatView) (a found : ℕ) → (IsPlace v.bodies a → ⊥) → loaded v a Read found ≡ v
read_beside v a found beside =
    let none : is_place v.bodies a ≡ false = elim (cases_Bool (is_place v.bodies a)) [
      | inl there ↦ absurd (beside (place_of_test v.bodies a there))
      | inr other ↦ other
    ] in
    ap (λ there. with_mutator v (record v.mutator {
      looked = if there then v.looked ++ a ∷ [] else v.looked;
      done = if v.on && there && has_traced found then v.done ++ a ∷ [] else v.done;
    })) none
    ∙ ap (λ done. with_mutator v (record v.mutator { done = done }))
    (cond-false (v.on && false && has_traced found) (v.done ++ a ∷ []) v.done
    (and_left (v.on && false) (has_traced found) (and_right v.on false refl)))
