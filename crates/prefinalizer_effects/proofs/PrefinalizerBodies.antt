-- The nodes and the words after the action of a prefinalizer.
use Rattle.std.proofs.Common.{◌≡◌, ℕ, zero, suc, Bool, true, false, cond, eqb, ltb, List, [], ◌∷◌, length, set, map, Option, Some, None, option_map, refl, sym, ap, ◌∙◌, subst, inl, inr, arith}
use Rattle.std.proofs.lemmas.Bool.{true≢false, cases_Bool, cond-true, cond-false, eq-eqb, eqb-true, false_from_ne_true}
use Rattle.gc_graph.specs.declared.action.Action.{Action}
use Rattle.gc_graph.specs.declared.action.Action.TheVariants as A
use Rattle.gc_graph.specs.declared.kind.Kind.{Kind}
use Rattle.gc_graph.specs.declared.kind.Kind.TheVariants.{Strong, Weak, Pair, Plain}
use Rattle.gc_graph.specs.State.{Setup, Node, node_at, is_there, is_dead}
use Rattle.gc_graph.specs.Valid.{IsTyped}
use Rattle.gc_graph.specs.Actions as graph
use Rattle.gc_graph.specs.Fields as fields
use Rattle.marker_core.specs.declared.states.Body.{Body}
use Rattle.marker_core.specs.Bodies.{holds}
use Rattle.page_words.specs.Seat.{SeatView, IsView}
use Rattle.prefinalizer_effects.specs.Acting as bodies
use Rattle.nodes_in_words.specs.Nodes.{place_of, body_of, bodies_from, IsThere, IsHeld}
use Rattle.nodes_in_words.specs.NodeBodies.{bodies-there, bodies-gone}
use Rattle.nodes_in_words.specs.NodePlaces.{same_node}
use Rattle.nodes_in_words.specs.NodeChanges.{bodies-same, place_set, life_set}
use Rattle.prefinalizer_effects.proofs.PrefinalizerFields.{cleared_body, added_body, links_body}

-- ---- all bodies

abbrev at_place : ℕ → (Body → Body) → Body → Body
at_place p f b = cond (eqb b.place p) (f b) b

bodies_apart : (g : ℕ → ℕ) (k p : ℕ) (f : Body → Body) (nodes : List Node) → ((m : ℕ) → IsThere nodes m → (node_at nodes m).place ≡ p → ⊥)
    → map (at_place p f) (bodies_from g k nodes) ≡ bodies_from g k nodes
bodies_apart g k p f [] apart = refl
bodies_apart g k p f (y ∷ nodes) apart =
    let rest : map (at_place p f) (bodies_from g (suc k) nodes) ≡ bodies_from g (suc k) nodes = bodies_apart g (suc k) p f nodes (λ m there. apart (suc m) there) in
    elim (cases_Bool (is_there y.life)) [
      | inl present ↦
          (let off : eqb y.place p ≡ false = false_from_ne_true (eqb y.place p) (λ is. apart 0 present (eqb-true y.place p is)) in
          ap (map (at_place p f)) (bodies-there g k y nodes present)
          ∙ ap (λ b. b ∷ map (at_place p f) (bodies_from g (suc k) nodes)) (cond-false (eqb y.place p) (f (body_of g k y)) (body_of g k y) off)
          ∙ ap (λ bs. body_of g k y ∷ bs) rest ∙ sym (bodies-there g k y nodes present))
      | inr gone ↦ ap (map (at_place p f)) (bodies-gone g k y nodes gone) ∙ rest ∙ sym (bodies-gone g k y nodes gone)
    ]

-- one node alone is changed, as its body is
bodies_set : (g : ℕ → ℕ) (k n p : ℕ) (f : Body → Body) (y : Node) (nodes : List Node) → IsThere nodes n → (node_at nodes n).place ≡ p
    → is_there y.life ≡ true → ((j : ℕ) → f (body_of g j (node_at nodes n)) ≡ body_of g j y)
    → ((m : ℕ) → IsThere nodes m → (node_at nodes m).place ≡ p → m ≡ n)
    → map (at_place p f) (bodies_from g k nodes) ≡ bodies_from g k (set nodes n y)
bodies_set g k n p f y [] there at stays same one = absurd (true≢false (sym there))
bodies_set g k zero p f y (x ∷ nodes) there at stays same one =
    let rest : map (at_place p f) (bodies_from g (suc k) nodes) ≡ bodies_from g (suc k) nodes =
    bodies_apart g (suc k) p f nodes (λ m present is. (let never : suc m ≡ 0 = one (suc m) present is in omega (arith, never))) in
    ap (map (at_place p f)) (bodies-there g k x nodes there)
    ∙ ap (λ b. b ∷ map (at_place p f) (bodies_from g (suc k) nodes))
    (cond-true (eqb x.place p) (f (body_of g k x)) (body_of g k x) (eq-eqb x.place p at) ∙ same k)
    ∙ ap (λ bs. body_of g k y ∷ bs) rest ∙ sym (bodies-there g k y nodes stays)
bodies_set g k (suc n) p f y (x ∷ nodes) there at stays same one =
    let rest : map (at_place p f) (bodies_from g (suc k) nodes) ≡ bodies_from g (suc k) (set nodes n y) =
    bodies_set g (suc k) n p f y nodes there at stays same (λ m present is. (let e : suc m ≡ suc n = one (suc m) present is in omega (arith, e))) in
    elim (cases_Bool (is_there x.life)) [
      | inl present ↦
          (let off : eqb x.place p ≡ false = false_from_ne_true (eqb x.place p) (λ is. (let never : 0 ≡ suc n = one 0 present (eqb-true x.place p is) in omega (arith, never))) in
          ap (map (at_place p f)) (bodies-there g k x nodes present)
          ∙ ap (λ b. b ∷ map (at_place p f) (bodies_from g (suc k) nodes)) (cond-false (eqb x.place p) (f (body_of g k x)) (body_of g k x) off)
          ∙ ap (λ bs. body_of g k x ∷ bs) rest ∙ sym (bodies-there g k x (set nodes n y) present))
      | inr gone ↦ ap (map (at_place p f)) (bodies-gone g k x nodes gone) ∙ rest ∙ sym (bodies-gone g k x (set nodes n y) gone)
    ]

-- ---- the nodes and the words after an action

module _ (nodes : List Node) (v : SeatView) (view : IsView v) (held : IsHeld nodes v) where
  -- the words hold the nodes once one of them and its body were changed alike
  held_changed : (n : ℕ) (f : Body → Body) (y : Node) → IsThere nodes n → y.place ≡ place_of nodes n → y.life ≡ (node_at nodes n).life
      → ((j : ℕ) → f (body_of (place_of nodes) j (node_at nodes n)) ≡ body_of (place_of nodes) j y)
      → IsHeld (set nodes n y) (bodies.changed_at v (place_of nodes n) f)
  held_changed n f y there at life same = record {
    bodies = ap (map (at_place (place_of nodes n) f)) held.bodies
        ∙ bodies_set (place_of nodes) 0 n (place_of nodes n) f y nodes there refl (ap is_there life ∙ there) same
        (λ m present is. same_node nodes v m n view held.bodies present there is)
        ∙ bodies-same (place_of nodes) (place_of (set nodes n y)) (set nodes n y) (λ m. sym (place_set nodes n y m at));
    dead = λ m present. ap (holds v.dead) (place_set nodes n y m at) ∙ held.dead m (sym (ap is_there (life_set nodes n y m life)) ∙ present)
        ∙ sym (ap is_dead (life_set nodes n y m life));
  }

  held_linked : (link : Option ℕ) (f : Body → Body) (change : Node → Node) → ((m : ℕ) → link ≡ Some m → IsThere nodes m)
      → ((x : Node) → ((change x).place ≡ x.place) × ((change x).life ≡ x.life))
      → ((m j : ℕ) → IsThere nodes m → f (body_of (place_of nodes) j (node_at nodes m)) ≡ body_of (place_of nodes) j (change (node_at nodes m)))
      → IsHeld (graph.change_linked nodes link change) (bodies.change_linked_body v (option_map (place_of nodes) link) f)
  held_linked None f change names head same = held
  held_linked (Some m) f change names head same =
      held_changed m f (change (node_at nodes m)) (names m refl) (head (node_at nodes m)).0 (head (node_at nodes m)).1 (λ j. same m j (names m refl))

-- a changed field leaves place and life
cleared_head : (f : ℕ) (x : Node) → ((graph.cleared_at x f).place ≡ x.place) × ((graph.cleared_at x f).life ≡ x.life)
cleared_head f x = by_kind (ltb f (fields.field_count x)) (fields.kind_of_field x.object f) where
  by_kind : (t : Bool) (kind : Kind) → (let y : Node = cond t (graph.cleared_field kind x (fields.word_of_field x.object f)) x in (y.place ≡ x.place) × (y.life ≡ x.life))
  by_kind true Strong = (refl, refl)
  by_kind true Weak = (refl, refl)
  by_kind true Pair = (refl, refl)
  by_kind true Plain = (refl, refl)
  by_kind false kind = (refl, refl)

added_head : (f amount : ℕ) (x : Node) → ((graph.added_at x f amount).place ≡ x.place) × ((graph.added_at x f amount).life ≡ x.life)
added_head f amount x = by_kind (ltb f (fields.field_count x)) (fields.kind_of_field x.object f) where
  by_kind : (t : Bool) (kind : Kind) → (let y : Node = cond t (graph.added_field kind x (fields.word_of_field x.object f) amount) x in (y.place ≡ x.place) × (y.life ≡ x.life))
  by_kind true Strong = (refl, refl)
  by_kind true Weak = (refl, refl)
  by_kind true Pair = (refl, refl)
  by_kind true Plain = (refl, refl)
  by_kind false kind = (refl, refl)

-- the words hold the nodes once an action of a prefinalizer had its effect on both
pub held_acted : (setup : Setup) (nodes : List Node) (v : SeatView) (n : ℕ) (action : Action) → IsView v → IsHeld nodes v → v.types ≡ setup.types
    → ((m : ℕ) → IsThere nodes m → IsTyped setup (length nodes) (node_at nodes m)) → IsThere nodes n
    → ((link m : ℕ) → graph.linked (node_at nodes n) link ≡ Some m → IsThere nodes m)
    → IsHeld (graph.acted nodes n action) (bodies.after_action v (body_of (place_of nodes) n (node_at nodes n)) action)
held_acted setup nodes v n A.Nothing view held known typed there names = held
held_acted setup nodes v n (A.Clear link field) view held known typed there names =
    let place : ℕ → ℕ = place_of nodes in
    let own : Body = body_of place n (node_at nodes n) in
    let named : bodies.linked_place v.types own link ≡ option_map place (graph.linked (node_at nodes n) link) =
    ap (λ types. bodies.linked_place types own link) known ∙ links_body setup (length nodes) place n (node_at nodes n) (typed n there) link in
    subst (λ m. IsHeld (graph.acted nodes n (A.Clear link field)) (bodies.change_linked_body v m (bodies.body_cleared_at v.types field))) (sym named)
    (held_linked nodes v view held (graph.linked (node_at nodes n) link) (bodies.body_cleared_at v.types field) (λ x. graph.cleared_at x field) (names link) (cleared_head field)
    (λ m j present. ap (λ types. bodies.body_cleared_at types field (body_of place j (node_at nodes m))) known ∙ cleared_body setup (length nodes) place j (node_at nodes m) (typed m present) field))
held_acted setup nodes v n (A.Add link field amount) view held known typed there names =
    let place : ℕ → ℕ = place_of nodes in
    let own : Body = body_of place n (node_at nodes n) in
    let named : bodies.linked_place v.types own link ≡ option_map place (graph.linked (node_at nodes n) link) =
    ap (λ types. bodies.linked_place types own link) known ∙ links_body setup (length nodes) place n (node_at nodes n) (typed n there) link in
    subst (λ m. IsHeld (graph.acted nodes n (A.Add link field amount)) (bodies.change_linked_body v m (bodies.body_added_at v.types field amount))) (sym named)
    (held_linked nodes v view held (graph.linked (node_at nodes n) link) (bodies.body_added_at v.types field amount) (λ x. graph.added_at x field amount) (names link) (added_head field amount)
    (λ m j present. ap (λ types. bodies.body_added_at types field amount (body_of place j (node_at nodes m))) known ∙ added_body setup (length nodes) place j (node_at nodes m) (typed m present) field amount))
