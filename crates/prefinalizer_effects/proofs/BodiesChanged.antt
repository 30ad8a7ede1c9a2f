-- A body that was changed by a write to one of its fields.
use Rattle.std.proofs.Common.{◌≡◌, ℕ, suc, ◌+◌, ◌-◌, ◌%◌, ◌^◌, ◌≤◌, cond, eqb, ltb, List, [], ◌∷◌, map, set, refl, sym, ap, ◌∙◌, inl, inr, arith}
use Rattle.std.specs.List.{Contains}
use Rattle.std.proofs.lemmas.Bool.{cases_Bool, cond-true, cond-false, eqb-true, lt-ltb, le-ltb}
use Rattle.std.proofs.lemmas.List.{set_comm}
use Rattle.gc_graph.specs.declared.kind.Kind.{Kind}
use Rattle.gc_graph.specs.declared.kind.Kind.TheVariants.{Strong, Weak, Pair, Plain}
use Rattle.gc_graph.specs.State.{ObjectType}
use Rattle.type_table.specs.Types.{declared_kinds, IsFieldAt}
use Rattle.marker_core.specs.declared.states.Body.{Body}
use Rattle.page_words.specs.Seat.{SeatView, with_bodies}
use Rattle.member_fields.specs.Words.{IsWordIn, with_word_in, written, pair_written}
use Rattle.prefinalizer_effects.specs.Acting.{extra_in, body_field_count, body_field_kind, body_field_word, body_cleared_field, body_cleared_at, body_added_field, body_added_at, changed_at}

-- ---- lists of bodies

map_same : {X : Type 0} (f g : X → X) (xs : List X) → ((x : X) → Contains xs x → f x ≡ g x) → map f xs ≡ map g xs
map_same f g [] same = refl
map_same f g (x ∷ xs) same =
    ap (λ y. y ∷ map f xs) (same x (0, omega arith, refl)) ∙ ap (λ ys. g x ∷ ys) (map_same f g xs (λ y there. same y (suc there.0, omega (arith, there.1), there.2)))

map_stays : {X : Type 0} (f : X → X) (xs : List X) → ((x : X) → Contains xs x → f x ≡ x) → map f xs ≡ xs
map_stays f [] same = refl
map_stays f (x ∷ xs) same =
    ap (λ y. y ∷ map f xs) (same x (0, omega arith, refl)) ∙ ap (λ ys. x ∷ ys) (map_stays f xs (λ y there. same y (suc there.0, omega (arith, there.1), there.2)))

map_after : {X : Type 0} (f g : X → X) (xs : List X) → map f (map g xs) ≡ map (λ x. f (g x)) xs
map_after f g [] = refl
map_after f g (x ∷ xs) = ap (λ ys. f (g x) ∷ ys) (map_after f g xs)

abbrev view_with : SeatView → List Body → SeatView
view_with v bodies = with_bodies v bodies

-- the body at the place alone is changed
abbrev pub here : ℕ → (Body → Body) → Body → Body
here place change b = cond (eqb b.place place) (change b) b

here_same : (place : ℕ) (f g : Body → Body) (b : Body) → (b.place ≡ place → f b ≡ g b) → here place f b ≡ here place g b
here_same place f g b same = elim (cases_Bool (eqb b.place place)) [
  | inl on ↦ cond-true (eqb b.place place) (f b) b on ∙ same (eqb-true b.place place on) ∙ sym (cond-true (eqb b.place place) (g b) b on)
  | inr off ↦ cond-false (eqb b.place place) (f b) b off ∙ sym (cond-false (eqb b.place place) (g b) b off)
]

here_twice : (place : ℕ) (f g : Body → Body) (b : Body) → (g b).place ≡ b.place → here place f (here place g b) ≡ here place (λ x. f (g x)) b
here_twice place f g b same = elim (cases_Bool (eqb b.place place)) [
  | inl on ↦ ap (here place f) (cond-true (eqb b.place place) (g b) b on)
      ∙ cond-true (eqb (g b).place place) (f (g b)) (g b) (ap (λ n. eqb n place) same ∙ on)
      ∙ sym (cond-true (eqb b.place place) (f (g b)) b on)
  | inr off ↦ ap (here place f) (cond-false (eqb b.place place) (g b) b off) ∙ cond-false (eqb b.place place) (f b) b off
      ∙ sym (cond-false (eqb b.place place) (f (g b)) b off)
]

-- two changes that agree on the body at the place
pub changed_same : (v : SeatView) (place : ℕ) (f g : Body → Body) → ((b : Body) → Contains v.bodies b → b.place ≡ place → f b ≡ g b)
    → changed_at v place f ≡ changed_at v place g
changed_same v place f g same =
    ap (view_with v) (map_same (here place f) (here place g) v.bodies (λ b there. here_same place f g b (same b there)))

-- a change that leaves the body at the place as it is
pub changed_none : (v : SeatView) (place : ℕ) (f : Body → Body) → ((b : Body) → Contains v.bodies b → b.place ≡ place → f b ≡ b) → v ≡ changed_at v place f
changed_none v place f same =
    sym (ap (view_with v) (map_stays (here place f) v.bodies (λ b there. stays b there))) where
      stays : (b : Body) → Contains v.bodies b → here place f b ≡ b
      stays b there = elim (cases_Bool (eqb b.place place)) [
        | inl on ↦ cond-true (eqb b.place place) (f b) b on ∙ same b there (eqb-true b.place place on)
        | inr off ↦ cond-false (eqb b.place place) (f b) b off
      ]

abbrev with_word : ℕ → ℕ → Body → Body
with_word i w b = record b { fields = set b.fields i w }

written_twice : (v : SeatView) (place i j x y : ℕ) → written (written v place i x) place j y ≡ changed_at v place (λ b. with_word (j - 2) y (with_word (i - 2) x b))
written_twice v place i j x y =
    ap (view_with v) (map_after (with_word_in place j y) (with_word_in place i x) v.bodies
    ∙ map_same (λ b. with_word_in place j y (with_word_in place i x b)) (here place (λ b. with_word (j - 2) y (with_word (i - 2) x b))) v.bodies
    (λ b there. here_twice place (with_word (j - 2) y) (with_word (i - 2) x) b refl))

-- ---- a field that was found

-- what is found of the field, for the bodies at the place
abbrev pub FoundAs : SeatView → ℕ → ℕ → Kind → ℕ → Type 0
FoundAs v place field kind word =
    (b : Body) → Contains v.bodies b → b.place ≡ place → IsFieldAt (declared_kinds v.types b.ty) (extra_in v.types b) field (kind, word)

module _ (types : List ObjectType) (field : ℕ) (b : Body) where
  pub cleared_there : (kind : Kind) (word : ℕ) → IsFieldAt (declared_kinds types b.ty) (extra_in types b) field (kind, word) → body_cleared_field kind b (word - 2) ≡ body_cleared_at types field b
  cleared_there kind word found =
      ap (λ k. body_cleared_field k b (word - 2)) found.kind ∙ ap (λ n. body_cleared_field (body_field_kind types b field) b (n - 2)) found.offset
      ∙ sym (cond-true (ltb field (body_field_count types b)) (body_cleared_field (body_field_kind types b field) b (body_field_word types b field)) b (lt-ltb field (body_field_count types b) found.there))

  pub added_there : (kind : Kind) (word amount : ℕ) → IsFieldAt (declared_kinds types b.ty) (extra_in types b) field (kind, word)
      → body_added_field kind b (word - 2) amount ≡ body_added_at types field amount b
  added_there kind word amount found =
      ap (λ k. body_added_field k b (word - 2) amount) found.kind ∙ ap (λ n. body_added_field (body_field_kind types b field) b (n - 2) amount) found.offset
      ∙ sym (cond-true (ltb field (body_field_count types b)) (body_added_field (body_field_kind types b field) b (body_field_word types b field) amount) b (lt-ltb field (body_field_count types b) found.there))

  pub cleared_past : body_field_count types b ≤ field → body_cleared_at types field b ≡ b
  cleared_past past =
      cond-false (ltb field (body_field_count types b)) (body_cleared_field (body_field_kind types b field) b (body_field_word types b field)) b (le-ltb field (body_field_count types b) past)

  pub added_past : (amount : ℕ) → body_field_count types b ≤ field → body_added_at types field amount b ≡ b
  added_past amount past =
      cond-false (ltb field (body_field_count types b)) (body_added_field (body_field_kind types b field) b (body_field_word types b field) amount) b (le-ltb field (body_field_count types b) past)

module _ (v : SeatView) (place field word : ℕ) where
  pub strong_cleared : FoundAs v place field Strong word → written v place word 0 ≡ changed_at v place (body_cleared_at v.types field)
  strong_cleared found =
      changed_same v place (with_word (word - 2) 0) (body_cleared_at v.types field) (λ b there at. cleared_there v.types field b Strong word (found b there at))

  pub weak_cleared : FoundAs v place field Weak word → written v place word 0 ≡ changed_at v place (body_cleared_at v.types field)
  weak_cleared found =
      changed_same v place (with_word (word - 2) 0) (body_cleared_at v.types field) (λ b there at. cleared_there v.types field b Weak word (found b there at))

  pub pair_cleared : FoundAs v place field Pair word → pair_written v place word 0 0 ≡ changed_at v place (body_cleared_at v.types field)
  pair_cleared found =
      written_twice v place (word + 1) word 0 0
      ∙ changed_same v place (λ b. with_word (word - 2) 0 (with_word (word + 1 - 2) 0 b)) (body_cleared_at v.types field)
      (λ b there at. both b (found b there at) ∙ cleared_there v.types field b Pair word (found b there at)) where
        both : (b : Body) → IsFieldAt (declared_kinds v.types b.ty) (extra_in v.types b) field (Pair, word)
            → with_word (word - 2) 0 (with_word (word + 1 - 2) 0 b) ≡ body_cleared_field Pair b (word - 2)
        both b found =
            let next : word + 1 - 2 ≡ word - 2 + 1 = omega (arith, found.offset) in
            let apart : word - 2 + 1 ≡ word - 2 → ⊥ = λ e. omega arith in
            ap (λ i. with_word (word - 2) 0 (with_word i 0 b)) next
            ∙ ap (λ fields. record b { fields = fields }) (set_comm b.fields (word - 2 + 1) (word - 2) 0 0 apart)

  pub plain_kept : FoundAs v place field Plain word → v ≡ changed_at v place (body_cleared_at v.types field)
  plain_kept found = changed_none v place (body_cleared_at v.types field) (λ b there at. sym (cleared_there v.types field b Plain word (found b there at)))

  pub plain_added : (before amount : ℕ) → IsWordIn v place word before → FoundAs v place field Plain word
      → written v place word ((before + amount) % 2 ^ 64) ≡ changed_at v place (body_added_at v.types field amount)
  plain_added before amount is found =
      changed_same v place (with_word (word - 2) ((before + amount) % 2 ^ 64)) (body_added_at v.types field amount)
      (λ b there at. ap (λ w. with_word (word - 2) ((w + amount) % 2 ^ 64) b) (is b there at) ∙ added_there v.types field b Plain word amount (found b there at))

-- a field of another kind isn't added to
other_added : (kind : Kind) (b : Body) (i amount : ℕ) → (kind ≡ Plain → ⊥) → body_added_field kind b i amount ≡ b
other_added Strong b i amount other = refl
other_added Weak b i amount other = refl
other_added Pair b i amount other = refl
other_added Plain b i amount other = absurd (other refl)

pub other_kept : (v : SeatView) (place field : ℕ) (kind : Kind) (word amount : ℕ) → (kind ≡ Plain → ⊥) → FoundAs v place field kind word
    → v ≡ changed_at v place (body_added_at v.types field amount)
other_kept v place field kind word amount other found =
    changed_none v place (body_added_at v.types field amount)
    (λ b there at. sym (added_there v.types field b kind word amount (found b there at)) ∙ other_added kind b (word - 2) amount other)
