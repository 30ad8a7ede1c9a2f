-- What roots reach over bodies is the least closed set of places that holds them.
use Rattle.std.proofs.Common.{◌≡◌, ℕ, suc, ◌+◌, ◌-◌, ◌<◌, List, [], ◌∷◌, length, map, filter, get_or, Bool, true, false, ◌||◌, eqb, Option, Some, None, refl, sym, ap, ◌∙◌, subst, inl, inr, arith, add-one, Contains}
use mathlib.Core.Logic.{◌⊎◌}
use Rattle.std.specs.List.{list_any, find, range_with_len}
use Rattle.std.proofs.lemmas.Bool.{false≢true, cases_lt, cases_Bool, cond-true, cond-false, eqb-true, or_cases, or_left, or_right, both_ways}
use Rattle.std.proofs.lemmas.List.{get_or_past}
use Rattle.std.proofs.lemmas.List.FromFn.{length-map-range_with_len, get_or-map-range_with_len}
use Rattle.gc_graph.specs.declared.kind.Kind.{Kind}
use Rattle.gc_graph.specs.Graph.{no_object, object_at, has, leads_by, leads_to}
use Rattle.gc_graph.specs.Reach.{Reach, ReachIsLeast, IsLeastClosed}
use Rattle.marker_core.specs.declared.states.Body.{Body}
use Rattle.marker_core.specs.declared.states.Role.TheVariants.{StrongWord, KeyWord}
use Rattle.marker_core.specs.Bodies.{kinds_of_type, word_in, role_in, refers, places, is_place, holds}
use Rattle.marker_core.specs.Closed.{IsClosedOver, object_of, address_node, address_graph, reach_over}
use Rattle.marker_core.specs.Matching.{AreWhole, LieApart}
use Rattle.marker_core.specs.Laws.{IsLeastOver, AllNameBodies, ReachOverIsLeast}
use Rattle.gc_graph.specs.Members.{Contains-cons, Contains-head, was_in, has_passed, stays_in, Contains-map_some, Contains-map, holds_from, in_from_holds}
use Rattle.marker_core.proofs.Apart.{same_place, body_of_place, place_of_body, place_below, named}
use Rattle.marker_core.specs.RoleOrder.{value_after_key}
use Rattle.marker_core.proofs.Edges.{strong_edge, edge_strong, pair_edge, edge_pair}

-- ---- the body at a place is found

found_or_none : (p : Body → Bool) (bodies : List Body)
    → ((b : Body) × (find p bodies ≡ Some b) × Contains bodies b × (p b ≡ true)) ⊎ ((find p bodies ≡ None) × (list_any p bodies ≡ false))
found_or_none p [] = inr (refl, refl)
found_or_none p (c ∷ bodies) = elim (cases_Bool (p c)) [
  | inl here ↦ inl (c, cond-true (p c) (Some c) (find p bodies) here, Contains-head c bodies, here)
  | inr not_here ↦ elim (found_or_none p bodies) [
    | inl found ↦ inl (found.0, cond-false (p c) (Some c) (find p bodies) not_here ∙ found.1, Contains-cons c bodies found.0 found.2, found.3)
    | inr none ↦
        inr (cond-false (p c) (Some c) (find p bodies) not_here ∙ none.0, ap (λ t. t || list_any p bodies) not_here ∙ none.1)
  ]
]

module _ (types : List (List Kind)) where
  -- ---- where a node leads to

  abbrev pub StrongTo : Body → ℕ → Type 0
  StrongTo b n = (i : ℕ) × (role_in types b i ≡ StrongWord) × (0 < word_in b i) × (word_in b i - 1 ≡ n)

  abbrev pub ValueTo : (ℕ → Bool) → Body → ℕ → Type 0
  ValueTo test b n =
      (i : ℕ) × (role_in types b i ≡ KeyWord) × (0 < word_in b i) × (test (word_in b i - 1) ≡ true) × (0 < word_in b (i + 1))
      × (word_in b (i + 1) - 1 ≡ n)

  pub edges : (test : ℕ → Bool) (b : Body) (n : ℕ) → leads_by test (object_of types b) n ≡ true → StrongTo b n ⊎ ValueTo test b n
  edges test b n h = elim (or_cases _ _ h) [
    | inl strong ↦ inl (strong_edge (kinds_of_type types b.ty) b.fields n strong)
    | inr pair ↦ (let e = pair_edge test (kinds_of_type types b.ty) b.fields n pair in
        let next : word_in b (e.0 + 1) ≡ get_or b.fields (suc e.0) 0 = ap (word_in b) (add-one e.0) in
        inr (e.0, e.1, e.2, e.3, omega (arith, e.4), omega (arith, e.5)))
  ]

  pub from_strong : (test : ℕ → Bool) (b : Body) (n : ℕ) → StrongTo b n → leads_by test (object_of types b) n ≡ true
  from_strong test b n e = or_left _ _ (edge_strong (kinds_of_type types b.ty) b.fields e.0 n e.1 e.2 e.3)

  pub from_pair : (test : ℕ → Bool) (b : Body) (n : ℕ) → ValueTo test b n → leads_by test (object_of types b) n ≡ true
  from_pair test b n e =
      let next : word_in b (e.0 + 1) ≡ get_or b.fields (suc e.0) 0 = ap (word_in b) (add-one e.0) in
      or_right _ _ (edge_pair test (kinds_of_type types b.ty) b.fields e.0 n e.1 e.2 e.3 (omega (arith, e.4)) (omega (arith, e.5)))

module _ (count : ℕ) (types : List (List Kind)) (bodies : List Body) (whole : AreWhole count types bodies) (apart : LieApart bodies) where
  abbrev at_address : ℕ → Option Body
  at_address a = find (λ (b : Body). eqb b.place a) bodies

  node_at : (m : ℕ) → m < count → object_at (address_graph count types bodies) m ≡ address_node types (at_address m)
  node_at m below = get_or-map-range_with_len (λ a. address_node types (at_address a)) 0 count m m no_object below (omega arith)

  -- a node is a body's, or leads nowhere
  pub node_cases : (m : ℕ)
      → ((b : Body) × Contains bodies b × (b.place ≡ m) × (object_at (address_graph count types bodies) m ≡ object_of types b))
      ⊎ (object_at (address_graph count types bodies) m ≡ no_object)
  node_cases m = elim (cases_lt m count) [
    | inl below ↦ elim (found_or_none (λ (b : Body). eqb b.place m) bodies) [
      | inl found ↦ inl (found.0, found.2, eqb-true found.0.place m found.3, node_at m below ∙ ap (address_node types) found.1)
      | inr none ↦ inr (node_at m below ∙ ap (address_node types) none.0)
    ]
    | inr past ↦ (let long = length-map-range_with_len (λ a. address_node types (at_address a)) 0 count in
        inr (get_or_past (address_graph count types bodies) m no_object (omega arith)))
  ]

  pub body_node : (b : Body) → Contains bodies b → object_at (address_graph count types bodies) b.place ≡ object_of types b
  body_node b h =
      let below = place_below count types bodies b.place whole (place_of_body bodies b b.place h refl) in
      elim (found_or_none (λ (c : Body). eqb c.place b.place) bodies) [
        | inl found ↦
            (let same : found.0 ≡ b = same_place count types bodies whole apart found.0 b found.2 h (eqb-true found.0.place b.place found.3) in
            node_at b.place below ∙ ap (address_node types) (found.1 ∙ ap (λ c. Some c) same))
        | inr none ↦ absurd (both_ways (is_place bodies b.place) none.1 (place_of_body bodies b b.place h refl))
      ]

  module _ (names : AllNameBodies types bodies) where
    -- an edge leads to a place of a body
    edge_names : (test : ℕ → Bool) (b : Body) (n : ℕ) → Contains bodies b → leads_by test (object_of types b) n ≡ true → is_place bodies n ≡ true
    edge_names test b n h leads = elim (edges types test b n leads) [
      | inl e ↦
          subst (λ x. is_place bodies x ≡ true) e.3
          (named bodies (word_in b e.0) (names b e.0 h (ap refers e.1)) e.2)
      | inr e ↦
          subst (λ x. is_place bodies x ≡ true) e.5
          (named bodies (word_in b (e.0 + 1)) (names b (e.0 + 1) h (ap refers (value_after_key (kinds_of_type types b.ty) e.0 e.1))) e.4)
    ]

    edge_below : (test : ℕ → Bool) (m n : ℕ) → leads_by test (object_at (address_graph count types bodies) m) n ≡ true → n < count
    edge_below test m n leads = elim (node_cases m) [
      | inl b ↦
          place_below count types bodies n whole
          (edge_names test b.0 n b.1 (subst (λ o. leads_by test o n ≡ true) b.3 leads))
      | inr none ↦ absurd (false≢true (subst (λ o. leads_by test o n ≡ true) none leads))
    ]

    graph_length : length (address_graph count types bodies) ≡ count
    graph_length = length-map-range_with_len (λ a. address_node types (at_address a)) 0 count

    -- ---- a set of places among the flags

    in_set : (flags : List Bool) (a : ℕ) → holds (filter (has flags) (places bodies)) a ≡ true → (has flags a ≡ true) × (is_place bodies a ≡ true)
    in_set flags a h =
        let there = in_from_holds (filter (has flags) (places bodies)) a h in
        let at = Contains-map_some (λ (b : Body). b.place) bodies a (was_in (has flags) (places bodies) a there) in
        (has_passed (has flags) (places bodies) a there, place_of_body bodies at.0 a at.1 at.2)

    set_in : (flags : List Bool) (a : ℕ) → has flags a ≡ true → is_place bodies a ≡ true → holds (filter (has flags) (places bodies)) a ≡ true
    set_in flags a flag place =
        let at = body_of_place bodies a place in
        let there : Contains (places bodies) a = subst (Contains (places bodies)) at.2 (Contains-map (λ (b : Body). b.place) bodies at.0 at.1) in
        holds_from (filter (has flags) (places bodies)) a (stays_in (has flags) (places bodies) a there flag)

    -- ---- closed flags, and closed tests

    flags_close : (flags : List Bool) → ((m n : ℕ) → has flags m ≡ true → leads_to flags (object_at (address_graph count types bodies) m) n ≡ true → has flags n ≡ true)
        → IsClosedOver types bodies (holds (filter (has flags) (places bodies)))
    flags_close flags closed = record {
      strong = λ b i h member role some.
          let to : leads_to flags (object_of types b) (word_in b i - 1) ≡ true = from_strong types (has flags) b (word_in b i - 1) (i, role, some, refl) in
          set_in flags (word_in b i - 1)
          (closed b.place (word_in b i - 1) (in_set flags b.place member).0
          (subst (λ o. leads_to flags o (word_in b i - 1) ≡ true) (sym (body_node b h)) to))
          (edge_names (has flags) b (word_in b i - 1) h to);
      pairs = λ b i h member role key key_in value.
          let to : leads_to flags (object_of types b) (word_in b (i + 1) - 1) ≡ true =
          from_pair types (has flags) b (word_in b (i + 1) - 1) (i, role, key, (in_set flags (word_in b i - 1) key_in).0, value, refl)
          in
          set_in flags (word_in b (i + 1) - 1)
          (closed b.place (word_in b (i + 1) - 1) (in_set flags b.place member).0
          (subst (λ o. leads_to flags o (word_in b (i + 1) - 1) ≡ true) (sym (body_node b h)) to))
          (edge_names (has flags) b (word_in b (i + 1) - 1) h to);
    }

    abbrev flags_of : (ℕ → Bool) → List Bool
    flags_of test = map test (range_with_len 0 count)

    flag_is : (test : ℕ → Bool) (a : ℕ) → a < count → has (flags_of test) a ≡ test a
    flag_is test a below = get_or-map-range_with_len test 0 count a a false below (omega arith)

    flag_below : (test : ℕ → Bool) (a : ℕ) → has (flags_of test) a ≡ true → a < count
    flag_below test a h = elim (cases_lt a count) [
      | inl below ↦ below
      | inr past ↦
          absurd (false≢true (sym (get_or_past (flags_of test) a false (omega (arith, length-map-range_with_len test 0 count))) ∙ h))
    ]

    test_closes : (test : ℕ → Bool) → IsClosedOver types bodies test → (m n : ℕ) → has (flags_of test) m ≡ true
        → leads_to (flags_of test) (object_at (address_graph count types bodies) m) n ≡ true → has (flags_of test) n ≡ true
    test_closes test closed m n flag leads = elim (node_cases m) [
      | inr none ↦ absurd (false≢true (subst (λ o. leads_to (flags_of test) o n ≡ true) none leads))
      | inl b ↦
          (let below : n < count = edge_below (has (flags_of test)) m n leads in
          let passes : test b.0.place ≡ true = ap test b.2 ∙ sym (flag_is test m (flag_below test m flag)) ∙ flag in
          let to : leads_to (flags_of test) (object_of types b.0) n ≡ true = subst (λ o. leads_to (flags_of test) o n ≡ true) b.3 leads in
          let goal : test n ≡ true = elim (edges types (has (flags_of test)) b.0 n to) [
            | inl e ↦ subst (λ x. test x ≡ true) e.3 (closed.strong b.0 e.0 b.1 passes e.1 e.2)
            | inr e ↦
                (let key : test (word_in b.0 e.0 - 1) ≡ true =
                sym (flag_is test (word_in b.0 e.0 - 1) (flag_below test (word_in b.0 e.0 - 1) e.3)) ∙ e.3
                in
                subst (λ x. test x ≡ true) e.5 (closed.pairs b.0 e.0 b.1 passes e.1 e.2 key e.4))
          ] in
          flag_is test n below ∙ goal)
    ]

    abbrev rooted : List ℕ → List ℕ
    rooted roots = filter (is_place bodies) roots

    least_over : (roots : List ℕ) → IsLeastClosed (address_graph count types bodies) (rooted roots) (Reach (address_graph count types bodies) (rooted roots))
        → IsLeastOver types bodies roots (reach_over count types bodies roots)
    unfolding reach_over
    least_over roots law =
        let flags = Reach (address_graph count types bodies) (rooted roots) in
        record {
          closed = flags_close flags law.closed;
          places = λ a h. (in_set flags a h).1;
          roots_in = λ a root place.
              set_in flags a
              (law.roots_in a
              (holds_from (rooted roots) a (stays_in (is_place bodies) roots a (in_from_holds roots a root) place)))
              place;
          least = λ test closed all a h.
              let flag = law.least (flags_of test) (test_closes test closed)
              (λ n root.
              let there = in_from_holds (rooted roots) n root in
              let place = has_passed (is_place bodies) roots n there in
              flag_is test n (place_below count types bodies n whole place)
              ∙ all n (holds_from roots n (was_in (is_place bodies) roots n there)) place)
              a (in_set flags a h).0
              in
              sym (flag_is test a (flag_below test a flag)) ∙ flag;
        }

pub reach_over_law : ReachIsLeast → ReachOverIsLeast
reach_over_law law count types bodies roots whole apart names =
    let long = graph_length count types bodies whole apart names in
    least_over count types bodies whole apart names roots
    (law (address_graph count types bodies) (filter (is_place bodies) roots)
    (λ set m n leads. omega (arith, edge_below count types bodies whole apart names (has set) m n leads))
    (λ n root.
    let place = has_passed (is_place bodies) roots n (in_from_holds (filter (is_place bodies) roots) n root) in
    omega (arith, place_below count types bodies n whole place)))
