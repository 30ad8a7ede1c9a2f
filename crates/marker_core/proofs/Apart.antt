-- Bodies lie apart: which words are whose.
use Rattle.std.proofs.Common.{◌≡◌, ℕ, ◌+◌, ◌-◌, ◌<◌, ◌≤◌, List, get_or, true, false, eqb, leb, ltb, sym, ap, ◌∙◌, subst, inl, inr, arith, Contains}
use mathlib.Core.Logic.{◌⊎◌}
use Rattle.std.specs.List.{AllPairs}
use Rattle.std.proofs.lemmas.Bool.{cases_order, both_ways, eq-eqb, eqb-true, or_cases, and_from, le-leb, lt-ltb}
use Rattle.std.proofs.lemmas.List.{get_or_default}
use Rattle.gc_graph.specs.declared.kind.Kind.{Kind}
use Rattle.marker_core.specs.declared.states.Body.{Body}
use Rattle.marker_core.specs.Bodies.{end_of, body_has_word, is_place, in_body, names_body}
use Rattle.marker_core.specs.Matching.{AreWhole, LieApart}
use Rattle.gc_graph.specs.Members.{any_member, any_from}

-- two members of a list in which each two are related are one, or are related
pub pair_cases : {X : Type 0} (R : X → X → Type 0) (xs : List X) (x y : X) → AllPairs R xs → Contains xs x → Contains xs y → (x ≡ y) ⊎ (R x y ⊎ R y x)
pair_cases R xs x y all hx hy =
    let y_at : get_or xs hy.0 x ≡ y = get_or_default xs hy.0 x y hy.1 ∙ hy.2 in
    elim (cases_order hx.0 hy.0) [
      | inl same ↦ inl (sym hx.2 ∙ ap (λ k. get_or xs k x) same ∙ y_at)
      | inr apart ↦ elim apart [
        | inl before ↦ inr (inl (subst (λ u. R u y) hx.2 (subst (R (get_or xs hx.0 x)) y_at (all hx.0 hy.0 x before hy.1))))
        | inr after ↦ inr (inr (subst (λ u. R y u) hx.2 (subst (λ u. R u (get_or xs hx.0 x)) y_at (all hy.0 hx.0 x after hx.1))))
      ]
    ]

-- bodies that share a word are one
pub same_body : (bodies : List Body) → LieApart bodies → (b c : Body) → Contains bodies b → Contains bodies c → (m n : ℕ) → m < b.size → n < c.size
    → b.place + m ≡ c.place + n → b ≡ c
same_body bodies apart b c hb hc m n lm ln e =
    elim (pair_cases (λ (x y : Body). (end_of x ≤ y.place) ⊎ (end_of y ≤ x.place)) bodies b c apart hb hc) [
      | inl same ↦ same
      | inr off ↦ elim off [
        | inl one ↦ elim one [ inl l ↦ absurd (omega arith) | inr r ↦ absurd (omega arith) ]
        | inr two ↦ elim two [ inl l ↦ absurd (omega arith) | inr r ↦ absurd (omega arith) ]
      ]
    ]

-- and it is the same word of each
pub same_offset : (bodies : List Body) → LieApart bodies → (b c : Body) → Contains bodies b → Contains bodies c → (m n : ℕ) → m < b.size → n < c.size
    → b.place + m ≡ c.place + n → m ≡ n
same_offset bodies apart b c hb hc m n lm ln e =
    let place : b.place ≡ c.place = ap (λ (x : Body). x.place) (same_body bodies apart b c hb hc m n lm ln e) in
    omega arith

pub two_words : (count : ℕ) (types : List (List Kind)) (bodies : List Body) → AreWhole count types bodies → (b : Body) → Contains bodies b → 2 ≤ b.size
two_words count types bodies whole b h = let is = whole b h in omega (arith, is.fields)

-- a place is one body's
pub same_place : (count : ℕ) (types : List (List Kind)) (bodies : List Body) → AreWhole count types bodies → LieApart bodies → (b c : Body)
    → Contains bodies b → Contains bodies c → b.place ≡ c.place → b ≡ c
same_place count types bodies whole apart b c hb hc e =
    let two = two_words count types bodies whole b hb in
    let too = two_words count types bodies whole c hc in
    same_body bodies apart b c hb hc 0 0 (omega arith) (omega arith) (omega arith)

-- ---- places

pub body_of_place : (bodies : List Body) (a : ℕ) → is_place bodies a ≡ true → (b : Body) × Contains bodies b × (b.place ≡ a)
body_of_place bodies a h =
    let found = any_member (λ (b : Body). eqb b.place a) bodies h in (found.0, found.1, eqb-true found.0.place a found.2)

pub place_of_body : (bodies : List Body) (b : Body) (a : ℕ) → Contains bodies b → b.place ≡ a → is_place bodies a ≡ true
place_of_body bodies b a h e = any_from (λ (c : Body). eqb c.place a) bodies b h (eq-eqb b.place a e)

pub place_below : (count : ℕ) (types : List (List Kind)) (bodies : List Body) (a : ℕ) → AreWhole count types bodies → is_place bodies a ≡ true → a < count
place_below count types bodies a whole h =
    let at = body_of_place bodies a h in
    let two = two_words count types bodies whole at.0 at.1 in
    let inside = (whole at.0 at.1).inside in
    omega (arith, at.2)

pub named : (bodies : List Body) (w : ℕ) → names_body bodies w ≡ true → 0 < w → is_place bodies (w - 1) ≡ true
named bodies w h some = elim (or_cases (eqb w 0) (is_place bodies (w - 1)) h) [
  | inl null ↦ (let zero : w ≡ 0 = eqb-true w 0 null in absurd (omega arith))
  | inr at ↦ at
]

-- ---- words in bodies

pub has_word_from : (b : Body) (a : ℕ) → b.place ≤ a → a < end_of b → body_has_word a b ≡ true
has_word_from b a low high = and_from (leb b.place a) (ltb a (end_of b)) (le-leb b.place a low) (lt-ltb a (end_of b) high)

pub outside_body : (bodies : List Body) (a : ℕ) (b : Body) → in_body bodies a ≡ false → Contains bodies b → (i : ℕ) → i < b.size → (b.place + i ≡ a) → ⊥
outside_body bodies a b out h i below e =
    both_ways (in_body bodies a) out (any_from (body_has_word a) bodies b h (has_word_from b a (omega arith) (omega arith)))
