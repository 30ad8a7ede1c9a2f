-- The handles of one body cleared, one after the other.
use Rattle.std.proofs.Common.{◌≡◌, ℕ, ◌-◌, ◌<◌, true, cond, List, [], ◌∷◌, ◌++◌, length, get_or, map, refl, sym, ap, ◌∙◌, subst, inl, inr, arith, eqb}
use Rattle.std.specs.List.{Contains}
use Rattle.std.proofs.lemmas.Bool.{cases_eq, cond-true, cond-false, cond_both, ne_eqb}
use Rattle.std.proofs.lemmas.List.Elements.{Contains-get_or}
use Rattle.gc_graph.specs.declared.kind.Kind.{Kind}
use Rattle.gc_graph.specs.declared.kind.Kind.TheVariants.{Plain}
use Rattle.type_table.specs.Types.{declared_kinds, offsets_of_kind}
use Rattle.type_table.specs.Layouts.{kinds_of_words}
use Rattle.marker_core.specs.Bodies.{IsReference, holds}
use Rattle.marker_core.specs.declared.states.Body.{Body}
use Rattle.marker_core.specs.Matching.{IsWhole}
use Rattle.page_words.specs.Bodies.{kind_in}
use Rattle.page_words.specs.Roles.{kind_lists}
use Rattle.page_words.specs.Seat.{SeatView, IsView, OnlyLooked, with_bodies}
use Rattle.weak_clearing.specs.declared.weak_handles.WeakHandles.{WeakHandles}
use Rattle.weak_clearing.specs.Clearing.{HasReferencesOf, MarkedHaveReferencesOf}
use Rattle.weak_clearing.specs.Steps.{IsMarkedOf, HasHandle, kind_of_handles, words_cleared_at, clear_handle_in, clear_handles, clear_words_of, handle_cleared, body_cleared}
use Rattle.weak_clearing.proofs.Lists.{map_same, map_after, map_stays}
use Rattle.gc_graph.specs.Members.{Contains-map}
use Rattle.weak_clearing.proofs.HandleWords.{BeginsField, field_told, clear_listed, clear_listed-push, listed_are_cleared}
use Rattle.weak_clearing.proofs.Words.{at_twice}
use Rattle.weak_clearing.proofs.Lessened.{IsLessened, itself_lessened, with_fields, listed_lessened, word_stays_reference}
use Rattle.page_words.specs.BodyPlaces.{same_body, whole_body}

abbrev listed_body : WeakHandles → List ℕ → List ℕ → Body → Body
listed_body handles marked offsets b = record b { fields = clear_listed handles marked offsets b.fields }

-- the body at the place with the handles at these offsets cleared
abbrev pub clear_listed_at : WeakHandles → List ℕ → ℕ → List ℕ → Body → Body
clear_listed_at handles marked place offsets b = cond (eqb b.place place) (listed_body handles marked offsets b) b

-- the same, in a view
abbrev pub listed_cleared : WeakHandles → SeatView → ℕ → List ℕ → SeatView
listed_cleared handles v place offsets = with_bodies v (map (clear_listed_at handles v.marked place offsets) v.bodies)

at_lessened : (handles : WeakHandles) (marked : List ℕ) (place : ℕ) (offsets : List ℕ) (b : Body) → IsLessened b (clear_listed_at handles marked place offsets b)
at_lessened handles marked place offsets b =
    cond_both (eqb b.place place) (listed_body handles marked offsets b) b (IsLessened b)
    (λ _. with_fields b (clear_listed handles marked offsets b.fields) (listed_lessened handles marked offsets b.fields)) (λ _. itself_lessened b)

pub listed_none : (handles : WeakHandles) (v : SeatView) (place : ℕ) → v ≡ listed_cleared handles v place []
listed_none handles v place =
    ap (λ (bs : List Body). with_bodies v bs)
    (sym (map_stays (clear_listed_at handles v.marked place []) v.bodies (λ b there. cond_both (eqb b.place place) b b (λ c. c ≡ b) (λ _. refl) (λ _. refl))))

-- ---- the holder and the handle in hand

-- a body with references has a handle at each told offset
pub has_handle : (handles : WeakHandles) (v : SeatView) (b : Body) (told : List ℕ) (k : ℕ) → IsView v → Contains v.bodies b
    → HasReferencesOf (kind_of_handles handles) v.types v.bodies b → told ≡ offsets_of_kind (kind_of_handles handles) (declared_kinds v.types b.ty) → k < length told
    → HasHandle handles v b.place (get_or told k 0)
has_handle handles v b told k view there has is low =
    let kind : Kind = kind_of_handles handles in
    let whole : IsWhole v.count (kind_lists v.types) b = whole_body v view b there in
    let field : BeginsField kind 2 (declared_kinds v.types b.ty) (get_or told k 0) = field_told kind (declared_kinds v.types b.ty) told k is low in
    let number : get_or told k 0 - 2 ≡ field.index = omega (arith, field.at) in
    record {
      body = b;
      there = there;
      place = refl;
      first = omega (arith, field.at);
      last = omega (arith, field.at, field.low, has.whole, whole.fields);
      told = subst (λ offsets. Contains offsets (get_or told k 0)) is (Contains-get_or told k 0 low);
      kind = ap (kind_in v.types b) number ∙ field.kind;
      reference = subst (λ i. IsReference v.bodies (get_or b.fields i 0)) (sym number) (has.named field.index field.kind);
    }

-- so it has while others are cleared
pub handle_stays : (handles : WeakHandles) (v : SeatView) (place offset : ℕ) (offsets : List ℕ) → HasHandle handles v place offset
    → HasHandle handles (listed_cleared handles v place offsets) place offset
handle_stays handles v place offset offsets has =
    let f : Body → Body = clear_listed_at handles v.marked place offsets in
    let less : IsLessened has.body (f has.body) = at_lessened handles v.marked place offsets has.body in
    record {
      body = f has.body;
      there = Contains-map f v.bodies has.body has.there;
      place = less.place ∙ has.place;
      first = has.first;
      last = omega (arith, less.size, has.last);
      told = subst (λ ty. Contains (offsets_of_kind (kind_of_handles handles) (declared_kinds v.types ty)) offset) (sym less.ty) has.told;
      kind = ap (λ ty. get_or (kinds_of_words (declared_kinds v.types ty)) (offset - 2) Plain) less.ty ∙ has.kind;
      reference = word_stays_reference f (at_lessened handles v.marked place offsets) v.bodies has.body (offset - 2) has.reference;
    }

pub holder_handle : (handles : WeakHandles) (v : SeatView) (place ty : ℕ) (told : List ℕ) (k : ℕ) → IsView v → MarkedHaveReferencesOf (kind_of_handles handles) v
    → IsMarkedOf v place ty → told ≡ offsets_of_kind (kind_of_handles handles) (declared_kinds v.types ty) → k < length told → HasHandle handles v place (get_or told k 0)
holder_handle handles v place ty told k view have (b, there, at, of, marked) is low =
    subst (λ p. HasHandle handles v p (get_or told k 0)) at
    (has_handle handles v b told k view there (have b there (ap (holds v.marked) at ∙ marked))
    (is ∙ ap (λ t. offsets_of_kind (kind_of_handles handles) (declared_kinds v.types t)) (sym of)) low)

-- ---- one more handle

one_more : (handles : WeakHandles) (marked : List ℕ) (place offset : ℕ) (offsets : List ℕ) (b : Body)
    → clear_handle_in handles marked place offset (clear_listed_at handles marked place offsets b) ≡ clear_listed_at handles marked place (offsets ++ offset ∷ []) b
one_more handles marked place offset offsets b =
    at_twice place (λ x. record x { fields = words_cleared_at handles marked (offset - 2) x.fields }) (listed_body handles marked offsets) b refl
    ∙ ap (λ (fs : List ℕ). cond (eqb b.place place) (record b { fields = fs }) b) (sym (clear_listed-push handles marked offsets offset b.fields))

pub one_more_cleared : (handles : WeakHandles) (v : SeatView) (place offset : ℕ) (offsets : List ℕ)
    → handle_cleared handles (listed_cleared handles v place offsets) place offset ≡ listed_cleared handles v place (offsets ++ offset ∷ [])
one_more_cleared handles v place offset offsets =
    let one : Body → Body = clear_handle_in handles v.marked place offset in
    ap (λ (bs : List Body). with_bodies v bs)
    (map_after one (clear_listed_at handles v.marked place offsets) v.bodies
    ∙ map_same (λ b. one (clear_listed_at handles v.marked place offsets b)) (clear_listed_at handles v.marked place (offsets ++ offset ∷ [])) v.bodies
    (λ b there. one_more handles v.marked place offset offsets b))

-- ---- all of them

module _ (handles : WeakHandles) (v : SeatView) where
  listed_whole : (b : Body) (ty : ℕ) → holds v.marked b.place ≡ true → b.ty ≡ ty → HasReferencesOf (kind_of_handles handles) v.types v.bodies b
      → listed_body handles v.marked (offsets_of_kind (kind_of_handles handles) (declared_kinds v.types ty)) b ≡ clear_handles handles v.types v.marked b
  listed_whole b ty marked of has =
      let kind : Kind = kind_of_handles handles in
      let cleared : List ℕ = clear_words_of handles v.marked (declared_kinds v.types b.ty) b.fields in
      let words : clear_listed handles v.marked (offsets_of_kind kind (declared_kinds v.types ty)) b.fields ≡ cleared =
      ap (λ t. clear_listed handles v.marked (offsets_of_kind kind (declared_kinds v.types t)) b.fields) (sym of)
      ∙ listed_are_cleared handles v.marked (declared_kinds v.types b.ty) b.fields has.whole in
      ap (λ (fs : List ℕ). (let x : Body = record b { fields = fs } in x)) words
      ∙ sym (cond-true (holds v.marked b.place) (record b { fields = cleared }) b marked)

  pub all_listed : (place ty : ℕ) → IsView v → MarkedHaveReferencesOf (kind_of_handles handles) v → IsMarkedOf v place ty
      → listed_cleared handles v place (offsets_of_kind (kind_of_handles handles) (declared_kinds v.types ty)) ≡ body_cleared handles v place
  all_listed place ty view have (h, h_there, h_at, h_ty, marked) =
      ap (λ (bs : List Body). with_bodies v bs)
      (map_same (clear_listed_at handles v.marked place offsets) (λ b. cond (eqb b.place place) (clear_handles handles v.types v.marked b) b) v.bodies each) where
        offsets : List ℕ
        offsets = offsets_of_kind (kind_of_handles handles) (declared_kinds v.types ty)

        each : (b : Body) → Contains v.bodies b → clear_listed_at handles v.marked place offsets b ≡ cond (eqb b.place place) (clear_handles handles v.types v.marked b) b
        each b there = elim (cases_eq b.place place) [
          | inl here ↦
              (let one : b ≡ h = same_body v b h view there h_there (here ∙ sym h_at) in
              let holder : holds v.marked b.place ≡ true = ap (holds v.marked) here ∙ marked in
              ap (λ (x : Body). cond (eqb b.place place) x b) (listed_whole b ty holder (ap (λ (x : Body). x.ty) one ∙ h_ty) (have b there holder)))
          | inr other ↦
              cond-false (eqb b.place place) (listed_body handles v.marked offsets b) b (ne_eqb b.place place other)
              ∙ sym (cond-false (eqb b.place place) (clear_handles handles v.types v.marked b) b (ne_eqb b.place place other))
        ]

-- headers were looked at
pub handle_looked : (handles : WeakHandles) (v w : SeatView) (holder word : ℕ) → OnlyLooked v w → HasHandle handles v holder word
    → HasHandle handles w holder word
handle_looked handles v w holder word same has = record {
  body = has.body;
  there = subst (λ bs. Contains bs has.body) (ap (λ (x : SeatView). x.bodies) (sym same)) has.there;
  place = has.place;
  first = has.first;
  last = has.last;
  told = subst (λ ts. Contains (offsets_of_kind (kind_of_handles handles) (declared_kinds ts has.body.ty)) word) (ap (λ (x : SeatView). x.types) (sym same)) has.told;
  kind = ap (λ (x : SeatView). kind_in x.types has.body (word - 2)) same ∙ has.kind;
  reference = subst (λ bs. IsReference bs (get_or has.body.fields (word - 2) 0)) (ap (λ (x : SeatView). x.bodies) (sym same)) has.reference;
}
