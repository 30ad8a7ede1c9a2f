-- A change of one body leaves all bodies typed and linked.
use Rattle.std.proofs.Common.{◌≡◌, ℕ, zero, suc, ◌+◌, ◌%◌, ◌^◌, ◌≤◌, true, eqb, ltb, List, [], ◌∷◌, map, set, get_or, refl, sym, ap, ◌∙◌, subst, inl, inr, arith}
use mathlib.Core.Logic.{◌⊎◌}
use Rattle.std.specs.List.{Contains}
use Rattle.std.proofs.lemmas.Bool.{true≢false, cond_both, eqb-true}
use Rattle.std.proofs.lemmas.List.{get_or-set_other, get_or-map, length-map}
use Rattle.std.proofs.lemmas.List.Elements.{All-contains, All-map, Contains-get_or}
use Rattle.gc_graph.specs.declared.kind.Kind.{Kind}
use Rattle.gc_graph.specs.declared.kind.Kind.TheVariants.{Strong, Weak, Pair, Plain}
use Rattle.gc_graph.specs.Fields.{is_plain}
use Rattle.gc_graph.specs.State.{ObjectType}
use Rattle.object_headers.specs.Offsets.{reference_to}
use Rattle.type_table.specs.Types.{declared_kinds, kind_of, size_with, offset_of}
use Rattle.type_table.specs.FieldLaw.{FieldsStandApart}
use Rattle.marker_core.specs.Bodies.{IsReference}
use Rattle.marker_core.specs.declared.states.Body.{Body}
use Rattle.page_words.specs.Bodies.{kind_in}
use Rattle.page_words.specs.Seat.{SeatView}
use Rattle.prefinalizer_effects.specs.Acting.{IsTypedBody, BodiesAreTyped, AreLinked, body_field_count, body_field_kind, body_field_word, body_cleared_field, body_cleared_at, body_added_field, body_added_at, with_field_word, changed_at}
use Rattle.prefinalizer_effects.proofs.BodiesChanged.{here}
use Rattle.prefinalizer_effects.proofs.FieldWords.{some_words}

-- the body's head stays, and each strong word is what it was, or refers to one of the bodies or is null
pub record KeepsLinks (types : List ObjectType) (bodies : List Body) (b c : Body) : Type 0 where
  pub place : c.place ≡ b.place
  pub ty : c.ty ≡ b.ty
  pub size : c.size ≡ b.size
  pub strong : (i : ℕ) → kind_in types b i ≡ Strong → (get_or c.fields i 0 ≡ get_or b.fields i 0) ⊎ IsReference bodies (get_or c.fields i 0)

keeps_same : (types : List ObjectType) (bodies : List Body) (b : Body) → KeepsLinks types bodies b b
keeps_same types bodies b = record { place = refl; ty = refl; size = refl; strong = λ i is. inl refl }

-- ---- the two changes

set_reference : (bodies : List Body) (w : ℕ) → IsReference bodies w → (xs : List ℕ) (j i : ℕ)
    → (get_or (set xs j w) i 0 ≡ get_or xs i 0) ⊎ IsReference bodies (get_or (set xs j w) i 0)
set_reference bodies w is [] j i = inl refl
set_reference bodies w is (x ∷ xs) zero zero = inr is
set_reference bodies w is (x ∷ xs) zero (suc i) = inl refl
set_reference bodies w is (x ∷ xs) (suc j) zero = inl refl
set_reference bodies w is (x ∷ xs) (suc j) (suc i) = set_reference bodies w is xs j i

set_nulls : (bodies : List Body) (xs : List ℕ) (j k i : ℕ)
    → (get_or (set (set xs j 0) k 0) i 0 ≡ get_or xs i 0) ⊎ IsReference bodies (get_or (set (set xs j 0) k 0) i 0)
set_nulls bodies xs j k i = elim (set_reference bodies 0 (inl refl) (set xs j 0) k i) [
  | inl first ↦ elim (set_reference bodies 0 (inl refl) xs j i) [
    | inl same ↦ inl (first ∙ same)
    | inr null ↦ inr (subst (IsReference bodies) (sym first) null)
  ]
  | inr null ↦ inr null
]

module _ (types : List ObjectType) (bodies : List Body) where
  pub reference_keeps : (b : Body) (i w : ℕ) → IsReference bodies w → KeepsLinks types bodies b (with_field_word b i w)
  reference_keeps b i w is = record { place = refl; ty = refl; size = refl; strong = λ j strong. set_reference bodies w is b.fields i j }

  pub plain_keeps : (b : Body) (i w : ℕ) → is_plain (kind_in types b i) ≡ true → KeepsLinks types bodies b (with_field_word b i w)
  plain_keeps b i w plain = record {
    place = refl;
    ty = refl;
    size = refl;
    strong = λ j strong. inl (get_or-set_other b.fields i j w 0
        (λ e. true≢false (sym plain ∙ ap (λ k. is_plain (kind_in types b k)) (sym e) ∙ ap is_plain strong)));
  }

  cleared_keeps : (kind : Kind) (b : Body) (i : ℕ) → KeepsLinks types bodies b (body_cleared_field kind b i)
  cleared_keeps Strong b i = reference_keeps b i 0 (inl refl)
  cleared_keeps Weak b i = reference_keeps b i 0 (inl refl)
  cleared_keeps Pair b i = record { place = refl; ty = refl; size = refl; strong = λ j strong. set_nulls bodies b.fields i (i + 1) j }
  cleared_keeps Plain b i = keeps_same types bodies b

  pub clearing_keeps : (field : ℕ) (b : Body) → KeepsLinks types bodies b (body_cleared_at types field b)
  clearing_keeps field b =
      cond_both (ltb field (body_field_count types b)) (body_cleared_field (body_field_kind types b field) b (body_field_word types b field)) b (KeepsLinks types bodies b)
      (λ _. cleared_keeps (body_field_kind types b field) b (body_field_word types b field)) (λ _. keeps_same types bodies b)

  added_keeps : (kind : Kind) (b : Body) (i amount : ℕ) → (kind ≡ Plain → kind_in types b i ≡ Plain)
      → KeepsLinks types bodies b (body_added_field kind b i amount)
  added_keeps Strong b i amount is = keeps_same types bodies b
  added_keeps Weak b i amount is = keeps_same types bodies b
  added_keeps Pair b i amount is = keeps_same types bodies b
  added_keeps Plain b i amount is = plain_keeps b i ((get_or b.fields i 0 + amount) % 2 ^ 64) (ap is_plain (is refl))

  pub adding_keeps : FieldsStandApart → (field amount : ℕ) (b : Body) → KeepsLinks types bodies b (body_added_at types field amount b)
  adding_keeps law field amount b =
      let kinds : List Kind = declared_kinds types b.ty in
      let kind : kind_in types b (body_field_word types b field) ≡ kind_of kinds field =
      law.kind kinds field (offset_of kinds field) (record { first = omega arith; last = omega (arith, some_words (kind_of kinds field)) }) in
      cond_both (ltb field (body_field_count types b)) (body_added_field (body_field_kind types b field) b (body_field_word types b field) amount) b (KeepsLinks types bodies b)
      (λ _. added_keeps (body_field_kind types b field) b (body_field_word types b field) amount (λ plain. kind ∙ plain)) (λ _. keeps_same types bodies b)

-- ---- all bodies

-- what the body at the place becomes
abbrev pub EachKeeps : SeatView → ℕ → (Body → Body) → Type 0
EachKeeps v place f = (b : Body) → Contains v.bodies b → b.place ≡ place → KeepsLinks v.types v.bodies b (f b)

module _ (v : SeatView) (place : ℕ) (f : Body → Body) (keeps : EachKeeps v place f) where
  each_after : (P : Body → Type 0) → ((b : Body) → Contains v.bodies b → P b) → ((b : Body) → Contains v.bodies b → b.place ≡ place → P (f b))
      → (c : Body) → Contains (changed_at v place f).bodies c → P c
  each_after P off on c there =
      All-contains P (map (here place f) v.bodies) c
      (All-map P (here place f) v.bodies (λ k d l.
      (let b : Body = get_or v.bodies k d in
      let inside : Contains v.bodies b = Contains-get_or v.bodies k d l in
      cond_both (eqb b.place place) (f b) b P (λ is. on b inside (eqb-true b.place place is)) (λ _. off b inside)))) there

  pub typed_kept : BodiesAreTyped v → BodiesAreTyped (changed_at v place f)
  typed_kept typed = each_after (IsTypedBody v.types) typed (λ b there at.
      let kept : KeepsLinks v.types v.bodies b (f b) = keeps b there at in
      record {
        known = omega (arith, kept.ty, (typed b there).known);
        whole = subst (λ n. size_with (declared_kinds v.types n) 0 ≤ (f b).size) (sym kept.ty)
            (subst (λ n. size_with (declared_kinds v.types b.ty) 0 ≤ n) (sym kept.size) (typed b there).whole);
      })

  reference_kept : (w : ℕ) → IsReference v.bodies w → IsReference (changed_at v place f).bodies w
  reference_kept w (inl null) = inl null
  reference_kept w (inr (b, there, at)) = inr (
    here place f b,
    (
      there.0,
      omega (arith, there.1, length-map v.bodies (here place f)),
      get_or-map (here place f) v.bodies there.0 b (here place f b) there.1 ∙ ap (here place f) there.2,
    ),
    at ∙ ap reference_to (cond_both (eqb b.place place) (f b) b (λ c. b.place ≡ c.place) (λ is. sym (keeps b there (eqb-true b.place place is)).place) (λ _. refl)),
  )

  pub links_kept : AreLinked v → AreLinked (changed_at v place f)
  links_kept links c i there =
      each_after (λ c. kind_in v.types c i ≡ Strong → IsReference (changed_at v place f).bodies (get_or c.fields i 0))
      (λ b inside is. reference_kept (get_or b.fields i 0) (links b i inside is))
      (λ b inside at is.
      let kept : KeepsLinks v.types v.bodies b (f b) = keeps b inside at in
      let kind : kind_in v.types b i ≡ Strong = ap (λ (ty : ℕ). kind_in v.types (record b { ty = ty }) i) (sym kept.ty) ∙ is in
      elim (kept.strong i kind) [
        | inl same ↦ subst (IsReference (changed_at v place f).bodies) (sym same) (reference_kept (get_or b.fields i 0) (links b i inside kind))
        | inr named ↦ reference_kept (get_or (f b).fields i 0) named
      ]) c there
