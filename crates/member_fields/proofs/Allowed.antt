-- When the step machine allows a store.
use Rattle.std.proofs.Common.{◌≡◌, ℕ, ◌+◌, ◌-◌, ◌<◌, ◌≤◌, Bool, true, false, not, cond, ◌||◌, List, eqb, leb, ltb, refl, ap, ◌∙◌, inl, inr, arith, Contains}
use mathlib.Core.Logic.{◌⊎◌}
use Rattle.std.specs.Option.{is_none}
use Rattle.std.proofs.lemmas.Bool.{and_from, or_left, or_right, cases_Bool, cases_eq, eq-eqb, ne_eqb, le-leb, lt-ltb}
use Rattle.gc_graph.specs.Members.{any_from}
use Rattle.marker_core.specs.declared.states.Body.{Body}
use Rattle.marker_core.specs.declared.states.Role.{Role}
use Rattle.marker_core.specs.declared.states.Role.TheVariants.{StrongWord, WeakWord, KeyWord, ValueWord, PlainWord}
use Rattle.marker_core.specs.Bodies.{IsReference, fields_at, end_of, has_field, field_number, role_in, refers, names_body, is_place, word_in, holds, place_named}
use Rattle.marker_core.specs.SeatSteps.{seat_can_store, store_fits, may_store, key_fits}
use Rattle.page_words.specs.PlaceTests.{test_of_place}
use Rattle.page_words.specs.Roles.{kind_lists}
use Rattle.page_words.specs.Seat.{SeatView, side}
use Rattle.member_fields.specs.Barrier.{IsReadyToStore, MayKeep, MayKeepNamed}

-- the word is a field of the body
pub is_field : (b : Body) (a : ℕ) → fields_at b ≤ a → a < end_of b → has_field a b ≡ true
is_field b a low high = and_from (leb (b.place + 2) a) (ltb a (end_of b)) (le-leb (b.place + 2) a low) (lt-ltb a (end_of b) high)

-- holder and target are kept
keeps_both : (on : Bool) (may : List ℕ) (holder : ℕ) (role : Role) (w : ℕ) → (on ≡ true → holds may holder ≡ true)
    → (refers role ≡ true → on ≡ true → (w ≡ 0) ⊎ (holds may (place_named w) ≡ true)) → may_store on may holder role w ≡ true
keeps_both false may holder role w own named = refl
keeps_both true may holder role w own named =
    and_from (holds may holder) (not (refers role) || eqb w 0 || holds may (w - 1)) (own refl)
    (elim (cases_Bool (refers role)) [
      | inl is ↦ elim (named is refl) [
        | inl null ↦ or_left (not (refers role) || eqb w 0) (holds may (w - 1)) (or_right (not (refers role)) (eqb w 0) (eq-eqb w 0 null))
        | inr kept ↦ or_right (not (refers role) || eqb w 0) (holds may (w - 1)) kept
      ]
      | inr other ↦ or_left (not (refers role) || eqb w 0) (holds may (w - 1)) (or_left (not (refers role)) (eqb w 0) (ap not other))
    ])

pub no_key_fits : (on : Bool) (seen : List ℕ) (role : Role) (w value : ℕ) → (role ≡ KeyWord → ⊥) → key_fits on seen role w value ≡ true
no_key_fits on seen KeyWord w value other = absurd (other refl)
no_key_fits on seen StrongWord w value other = refl
no_key_fits on seen WeakWord w value other = refl
no_key_fits on seen ValueWord w value other = refl
no_key_fits on seen PlainWord w value other = refl

pub some_key_fits : (on : Bool) (seen : List ℕ) (w value : ℕ) → (w ≡ 0 → value ≡ 0) → (on ≡ true → (value ≡ 0) ⊎ (holds seen (place_named value) ≡ true))
    → key_fits on seen KeyWord w value ≡ true
some_key_fits on seen w value null seen_too = elim (cases_eq w 0) [
  | inl is ↦ ap (λ b. cond b (eqb value 0) (not on || eqb value 0 || holds seen (value - 1))) (eq-eqb w 0 is) ∙ eq-eqb value 0 (null is)
  | inr some ↦ ap (λ b. cond b (eqb value 0) (not on || eqb value 0 || holds seen (value - 1))) (ne_eqb w 0 some) ∙ elim (cases_Bool on) [
    | inl goes ↦ elim (seen_too goes) [
      | inl none ↦ or_left (not on || eqb value 0) (holds seen (value - 1)) (or_right (not on) (eqb value 0) (eq-eqb value 0 none))
      | inr marked ↦ or_right (not on || eqb value 0) (holds seen (value - 1)) marked
    ]
    | inr over ↦ or_left (not on || eqb value 0) (holds seen (value - 1)) (or_left (not on) (eqb value 0) (ap not over))
  ]
]

-- the word is a field of this body, and what is stored in it suits it
pub record IsStoreFor (v : SeatView) (b : Body) (a w : ℕ) : Type 0 where
  pub there : Contains v.bodies b
  pub low : fields_at b ≤ a
  pub high : a < end_of b
  pub reference : refers (role_in (kind_lists v.types) b (a - fields_at b)) ≡ true → IsReference v.bodies w × MayKeepNamed v w
  pub key :
      key_fits v.on v.seen (role_in (kind_lists v.types) b (a - fields_at b)) w (word_in b (a - fields_at b + 1)) ≡ true

pub store_allowed : (v : SeatView) (b : Body) (a w : ℕ) → IsReadyToStore v → MayKeep v b.place → IsStoreFor v b a w → seat_can_store (side v) a w ≡ true
store_allowed v b a w ready holder is =
    let role : Role = role_in (kind_lists v.types) b (field_number a b) in
    let named : (not (refers role) || names_body v.bodies w) ≡ true = elim (cases_Bool (refers role)) [
      | inl refer ↦ or_right (not (refers role)) (names_body v.bodies w) (elim (is.reference refer).0 [
        | inl null ↦ or_left (eqb w 0) (is_place v.bodies (w - 1)) (eq-eqb w 0 null)
        | inr at ↦ or_right (eqb w 0) (is_place v.bodies (w - 1)) (test_of_place v.bodies (w - 1) (at.0, at.1, omega (arith, at.2)))
      ])
      | inr plain ↦ or_left (not (refers role)) (names_body v.bodies w) (ap not plain)
    ] in
    let kept : may_store v.on v.may b.place role w ≡ true = keeps_both v.on v.may b.place role w holder (λ refer. (is.reference refer).1) in
    and_from _ _ (and_from (is_none v.pending) (is_none v.hand) (ap is_none ready.no_pending) (ap is_none ready.no_hand))
    (any_from (store_fits (side v) a w) v.bodies b is.there
    (and_from _ _ (and_from _ _ (and_from _ _ (is_field b a is.low is.high) named) kept) is.key))
