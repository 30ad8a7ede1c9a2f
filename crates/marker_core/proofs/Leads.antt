-- What a body leads to, looked at word by word.
use Rattle.std.proofs.Common.{◌≡◌, ℕ, zero, suc, ◌+◌, ◌-◌, ◌<◌, List, length, map, Bool, true, ◌&&◌, ◌||◌, not, eqb, refl, sym, ap, ◌∙◌, inl, inr, arith}
use mathlib.Core.Logic.{◌⊎◌}
use mathlib.Core.Path.{fun_ext}
use Rattle.std.specs.List.{list_any, find, range_with_len}
use Rattle.std.proofs.lemmas.Bool.{cases_Bool, cases_lt, and_parts, and_from, or_cases, eqb-true, eq-eqb, eqb-false, not-true, not_from_false, ne_eqb, both_ways, false_from_ne_true, false≢true}
use Rattle.std.proofs.lemmas.List.{get_or_past}
use Rattle.std.proofs.lemmas.List.FromFn.{length-map-range_with_len}
use Rattle.gc_graph.specs.declared.kind.Kind.{Kind}
use Rattle.gc_graph.specs.Graph.{has, object_at, leads_by, leads_to}
use Rattle.gc_graph.specs.Reach.{any_below, set_of}
use Rattle.marker_core.specs.declared.states.Body.{Body}
use Rattle.marker_core.specs.declared.states.Role.{Role}
use Rattle.marker_core.specs.declared.states.Role.TheVariants.{StrongWord, WeakWord, KeyWord, ValueWord, PlainWord}
use Rattle.marker_core.specs.Bodies.{word_in, role_in}
use Rattle.marker_core.specs.Closed.{object_of, address_node, address_graph}
use Rattle.marker_core.specs.Matching.{AreWhole, LieApart}
use Rattle.marker_core.specs.Looking.{word_leads, some_word_leads, by_body}
use Rattle.marker_core.specs.Laws.{ClosesByWords}
use Rattle.gc_graph.specs.Members.{any_member, any_from, below_ranged}
use Rattle.gc_graph.specs.AnyBelow.{any_below-from}
use Rattle.marker_core.proofs.Reached.{StrongTo, ValueTo, edges, from_strong, from_pair, node_cases, body_node}
use Rattle.marker_core.proofs.Apart.{place_of_body, place_below}

-- a word that isn't null is one of the fields
within_from_some : (b : Body) (i : ℕ) → 0 < word_in b i → i < length b.fields
within_from_some b i some = elim (cases_lt i (length b.fields)) [
  | inl below ↦ below
  | inr past ↦ (let none : word_in b i ≡ 0 = get_or_past b.fields i 0 past in absurd (omega arith))
]

module _ (types : List (List Kind)) (test : ℕ → Bool) (b : Body) (n : ℕ) where
  abbrev leads_at : ℕ → Bool
  leads_at i = word_leads test (role_in types b i) (word_in b i) (word_in b (i + 1)) n

  strong_at : (role : Role) (w next : ℕ) → role ≡ StrongWord → 0 < w → w - 1 ≡ n → word_leads test role w next n ≡ true
  strong_at role w next e some to = ap (λ r. word_leads test r w next n) e ∙ eq-eqb w (n + 1) (omega arith)

  pair_at : (role : Role) (w next : ℕ) → role ≡ KeyWord → 0 < w → test (w - 1) ≡ true → 0 < next → next - 1 ≡ n → word_leads test role w next n ≡ true
  pair_at role w next e some key value to =
      ap (λ r. word_leads test r w next n) e
      ∙ and_from (not (eqb w 0) && test (w - 1)) (eqb next (n + 1))
      (and_from (not (eqb w 0)) (test (w - 1)) (not_from_false (eqb w 0) (ne_eqb w 0 (λ null. omega arith))) key)
      (eq-eqb next (n + 1) (omega arith))

  abbrev Edge : Type 0
  Edge = StrongTo types b n ⊎ ValueTo types test b n

  edge_at : (i : ℕ) (role : Role) → role_in types b i ≡ role → word_leads test role (word_in b i) (word_in b (i + 1)) n ≡ true → Edge
  edge_at i StrongWord e h =
      let is : word_in b i ≡ n + 1 = eqb-true (word_in b i) (n + 1) h in inl (i, e, omega arith, omega arith)
  edge_at i KeyWord e h =
      let both = and_parts (not (eqb (word_in b i) 0) && test (word_in b i - 1)) (eqb (word_in b (i + 1)) (n + 1)) h in
      let key = and_parts (not (eqb (word_in b i) 0)) (test (word_in b i - 1)) both.0 in
      let some : word_in b i ≡ 0 → ⊥ = eqb-false (word_in b i) 0 (not-true (eqb (word_in b i) 0) key.0) in
      let is : word_in b (i + 1) ≡ n + 1 = eqb-true (word_in b (i + 1)) (n + 1) both.1 in
      inr (i, e, omega arith, key.1, omega arith, omega arith)
  edge_at i WeakWord e h = absurd (false≢true h)
  edge_at i ValueWord e h = absurd (false≢true h)
  edge_at i PlainWord e h = absurd (false≢true h)

  pub leads_is : leads_by test (object_of types b) n ≡ some_word_leads types test b n
  leads_is = elim (cases_Bool (some_word_leads types test b n)) [
    | inl some ↦
        (let found = any_member leads_at (range_with_len 0 (length b.fields)) some in
        elim (edge_at found.0 (role_in types b found.0) refl found.2) [
          | inl strong ↦ from_strong types test b n strong ∙ sym some
          | inr pair ↦ from_pair types test b n pair ∙ sym some
        ])
    | inr none ↦
        false_from_ne_true (leads_by test (object_of types b) n) (λ leads.
        both_ways (some_word_leads types test b n) none (elim (edges types test b n leads) [
          | inl e ↦
              any_from leads_at (range_with_len 0 (length b.fields)) e.0 (below_ranged (length b.fields) e.0 (within_from_some b e.0 e.2))
              (strong_at (role_in types b e.0) (word_in b e.0) (word_in b (e.0 + 1)) e.1 e.2 e.3)
          | inr e ↦
              any_from leads_at (range_with_len 0 (length b.fields)) e.0 (below_ranged (length b.fields) e.0 (within_from_some b e.0 e.2))
              (pair_at (role_in types b e.0) (word_in b e.0) (word_in b (e.0 + 1)) e.1 e.2 e.3 e.4 e.5)
        ]))
        ∙ sym none
  ]

-- ---- some member of a set leads to n

below_some : (p : ℕ → Bool) (n : ℕ) → any_below p n ≡ true → (k : ℕ) × (k < n) × (p k ≡ true)
below_some p zero h = absurd (false≢true h)
below_some p (suc n) h = elim (or_cases (p n) (any_below p n) h) [
  | inl here ↦ (n, omega arith, here)
  | inr rest ↦ (let found = below_some p n rest in (found.0, omega (arith, found.1), found.2))
]

module _ (count : ℕ) (types : List (List Kind)) (bodies : List Body) (whole : AreWhole count types bodies) (apart : LieApart bodies) (set : List Bool) (n : ℕ) where
  abbrev by_node : ℕ → Bool
  by_node m = has set m && leads_to set (object_at (address_graph count types bodies) m) n

  pub pulled_is : any_below by_node count ≡ list_any (by_body types set n) bodies
  pulled_is = elim (cases_Bool (list_any (by_body types set n) bodies)) [
    | inl some ↦
        (let found = any_member (by_body types set n) bodies some in
        let both = and_parts (has set found.0.place) (some_word_leads types (has set) found.0 n) found.2 in
        let below = place_below count types bodies found.0.place whole (place_of_body bodies found.0 found.0.place found.1 refl) in
        any_below-from by_node count found.0.place below
        (and_from (has set found.0.place) (leads_to set (object_at (address_graph count types bodies) found.0.place) n) both.0
        (ap (λ o. leads_to set o n) (body_node count types bodies whole apart found.0 found.1) ∙ leads_is types (has set) found.0 n ∙ both.1))
        ∙ sym some)
    | inr none ↦
        false_from_ne_true (any_below by_node count) (λ some.
        let found = below_some by_node count some in
        let both = and_parts (has set found.0) (leads_to set (object_at (address_graph count types bodies) found.0) n) found.2 in
        elim (node_cases count types bodies whole apart found.0) [
          | inl b ↦
              both_ways (list_any (by_body types set n) bodies) none
              (any_from (by_body types set n) bodies b.0 b.1
              (and_from (has set b.0.place) (some_word_leads types (has set) b.0 n) (ap (has set) b.2 ∙ both.0)
              (sym (leads_is types (has set) b.0 n) ∙ ap (λ o. leads_to set o n) (sym b.3) ∙ both.1)))
          | inr nothing ↦ absurd (false≢true (ap (λ o. leads_to set o n) (sym nothing) ∙ both.1))
        ])
        ∙ sym none
  ]

-- the closing of a set, number by number
pub closes_by_words : ClosesByWords
closes_by_words count types bodies set whole apart =
    let long : length (address_graph count types bodies) ≡ count = length-map-range_with_len (λ a. address_node types (find (λ (b : Body). eqb b.place a) bodies)) 0 count in
    sym
    (ap (λ f. map f (range_with_len 0 count))
    (fun_ext (λ n. ap (λ t. has set n || t) (sym (pulled_is count types bodies whole apart set n))))
    ∙ ap (λ m. set_of (λ n. has set n || any_below (λ k. has set k && leads_to set (object_at (address_graph count types bodies) k) n) m) m) (sym long))
