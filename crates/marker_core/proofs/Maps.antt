-- Bodies of which one has another field word: what is the same of them.
use Rattle.std.proofs.Common.{◌≡◌, ℕ, ◌+◌, ◌-◌, ◌<◌, ◌≤◌, List, [], ◌∷◌, length, get_or, set, map, true, ◌||◌, eqb, leb, ltb, refl, sym, ap, ◌∙◌, subst, inl, inr, arith, Contains}
use mathlib.Core.Logic.{◌⊎◌}
use Rattle.std.specs.List.{AllPairs}
use Rattle.std.proofs.lemmas.Bool.{cases_Bool, cases_eq, cond-true, cond-false, and_parts, and_from, leb-true, ltb-true, le-leb, lt-ltb, both_ways}
use Rattle.std.proofs.lemmas.List.{length-map, length-set, get_or-map, get_or-set_same, get_or-set_other}
use Rattle.gc_graph.specs.declared.kind.Kind.{Kind}
use Rattle.marker_core.specs.declared.states.Body.{Body}
use Rattle.marker_core.specs.Bodies.{word_in, has_field, field_number, body_has_word, end_of, with_word, is_place, in_body, names_body}
use Rattle.marker_core.specs.Tracing.{IsPairAt}
use Rattle.gc_graph.specs.Members.{Contains-map, Contains-map_some}

pub all_pairs_map : {X : Type 0} (R : X → X → Type 0) (f : X → X) (xs : List X) → ((x y : X) → R x y → R (f x) (f y)) → AllPairs R xs → AllPairs R (map f xs)
all_pairs_map R f xs kept all i j d before within =
    let below : j < length xs = omega (arith, length-map xs f) in
    subst (λ x. R x (get_or (map f xs) j d)) (sym (get_or-map f xs i d d (omega arith)))
    (subst (R (f (get_or xs i d))) (sym (get_or-map f xs j d d below)) (kept (get_or xs i d) (get_or xs j d) (all i j d before below)))

module _ (a w : ℕ) where
  pub places_same : (bodies : List Body) (x : ℕ) → is_place (map (with_word a w) bodies) x ≡ is_place bodies x
  places_same [] x = refl
  places_same (b ∷ bodies) x = ap (λ t. eqb b.place x || t) (places_same bodies x)

  pub in_body_same : (bodies : List Body) (x : ℕ) → in_body (map (with_word a w) bodies) x ≡ in_body bodies x
  in_body_same [] x = refl
  in_body_same (b ∷ bodies) x = ap (λ t. body_has_word x b || t) (in_body_same bodies x)

  pub names_same : (bodies : List Body) (r : ℕ) → names_body (map (with_word a w) bodies) r ≡ names_body bodies r
  names_same bodies r = ap (λ t. eqb r 0 || t) (places_same bodies (r - 1))

  -- what is true of each body with its word is true of each
  pub each_written : (P : Body → Type 0) (bodies : List Body) → ((b : Body) → Contains bodies b → P (with_word a w b)) → (c : Body)
      → Contains (map (with_word a w) bodies) c → P c
  each_written P bodies all c h = let from = Contains-map_some (with_word a w) bodies c h in subst P from.2 (all from.0 from.1)

  -- a pair stays one, whatever its words are
  pub pair_written : (types : List (List Kind)) (bodies : List Body) (p offset : ℕ) → IsPairAt types bodies p offset
      → IsPairAt types (map (with_word a w) bodies) p offset
  pair_written types bodies p offset pair = record {
    body = with_word a w pair.body;
    there = Contains-map (with_word a w) bodies pair.body pair.there;
    place = pair.place;
    past_serial = pair.past_serial;
    key = pair.key;
  }

  pub has_field_from : (b : Body) → b.place + 2 ≤ a → a < end_of b → has_field a b ≡ true
  has_field_from b low high = and_from (leb (b.place + 2) a) (ltb a (end_of b)) (le-leb (b.place + 2) a low) (lt-ltb a (end_of b) high)

  pub field_low : (b : Body) → has_field a b ≡ true → b.place + 2 ≤ a
  field_low b h = leb-true (b.place + 2) a (and_parts (leb (b.place + 2) a) (ltb a (end_of b)) h).0

  pub field_high : (b : Body) → has_field a b ≡ true → a < end_of b
  field_high b h = ltb-true a (end_of b) (and_parts (leb (b.place + 2) a) (ltb a (end_of b)) h).1

  pub fields_length : (b : Body) → length (with_word a w b).fields ≡ length b.fields
  fields_length b = elim (cases_Bool (has_field a b)) [
    | inl has ↦
        ap length (cond-true (has_field a b) (set b.fields (field_number a b) w) b.fields has) ∙ length-set b.fields (field_number a b) w
    | inr lacks ↦ ap length (cond-false (has_field a b) (set b.fields (field_number a b) w) b.fields lacks)
  ]

  -- a field word of the body is the one that was written, or as before
  pub written_or_kept : (b : Body) (i : ℕ) → length b.fields + 2 ≡ b.size
      → ((has_field a b ≡ true) × (b.place + 2 + i ≡ a) × (word_in (with_word a w b) i ≡ w))
      ⊎ ((word_in (with_word a w b) i ≡ word_in b i) × (i < length b.fields → b.place + 2 + i ≡ a → ⊥))
  written_or_kept b i size = elim (cases_Bool (has_field a b)) [
    | inr lacks ↦ inr (
      ap (λ f. get_or f i 0) (cond-false (has_field a b) (set b.fields (field_number a b) w) b.fields lacks),
      λ inside at. both_ways (has_field a b) lacks (has_field_from b (omega arith) (omega arith)),
    )
    | inl has ↦
        (let low = field_low b has in
        let high = field_high b has in
        let fields : (with_word a w b).fields ≡ set b.fields (field_number a b) w =
        cond-true (has_field a b) (set b.fields (field_number a b) w) b.fields has
        in
        elim (cases_eq i (field_number a b)) [
          | inl same ↦ inl (
            has,
            omega arith,
            ap (λ f. get_or f i 0) fields ∙ ap (λ j. get_or (set b.fields (field_number a b) w) j 0) same
                ∙ get_or-set_same b.fields (field_number a b) w 0 (omega arith),
          )
          | inr other ↦ inr (
            ap (λ f. get_or f i 0) fields ∙ get_or-set_other b.fields (field_number a b) i w 0 other,
            λ inside at. other (omega arith),
          )
        ])
  ]
