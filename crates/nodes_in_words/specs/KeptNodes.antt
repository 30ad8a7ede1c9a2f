-- What marking kept, as a set of nodes: exactly what the roots reach.
use Rattle.std.proofs.Common.{◌≡◌, ℕ, zero, suc, ◌<◌, Bool, true, ◌&&◌, List, [], ◌∷◌, length, Option, Some, None, refl, sym, ap, ◌∙◌, subst, inl, inr, arith, eqb}
use Rattle.std.specs.List.{All, Contains, list_any}
use Rattle.std.specs.Option.{ForSome}
use Rattle.std.proofs.lemmas.Bool.{true≢false, cases_lt, and_parts, and_from, or_cases, or_left, or_right, eqb-true, eq-eqb}
use Rattle.std.proofs.lemmas.List.{get_or_past, length-map}
use Rattle.std.proofs.lemmas.List.Elements.{All-contains, All-get_or, All-cons, All-head, All-tail}
use Rattle.gc_graph.specs.declared.kind.Value.TheVariants.{Ref}
use Rattle.gc_graph.specs.Graph.{Object, no_object, has, IsIn, leads_to}
use Rattle.gc_graph.specs.Reach.{RefersWithin}
use Rattle.gc_graph.specs.State.{Setup, Node, node_at, no_node, graph_of, slot_targets, is_live, IsLive}
use Rattle.gc_graph.specs.Valid.{IsTyped, NamesLive, AreLive}
use Rattle.gc_graph.specs.Members.{Contains-cons_cases, Contains-cons, Contains-head}
use Rattle.gc_graph.specs.NodeNumbers.{there_below, object_of_node}
use Rattle.gc_graph.specs.Leading.{IsLed, is_led, led_named, nowhere}
use Rattle.persistent_slots.specs.Clearing.{taken}
use Rattle.marker_core.specs.Bodies.{IsPlace}
use Rattle.page_words.specs.Seat.{SeatView}
use Rattle.nodes_in_words.specs.Nodes.{place_of, body_of, bodies_of, AreOfValid}
use Rattle.nodes_in_words.specs.Places.{kept_of, places_of_slots}
use Rattle.nodes_in_words.specs.NodePlaces.{live_is_there, live_is_live, is_live_life, node_body}
use Rattle.nodes_in_words.specs.TypedNodes.{NamesBelow, below_from}

pub has-kept : (marked : ℕ → Bool) (nodes : List Node) (n : ℕ) → has (kept_of marked nodes) n ≡ (is_live (node_at nodes n).life && marked (place_of nodes n))
has-kept marked [] n = refl
has-kept marked (x ∷ nodes) zero = refl
has-kept marked (x ∷ nodes) (suc n) = has-kept marked nodes n

pub kept_parts : (marked : ℕ → Bool) (nodes : List Node) (n : ℕ) → IsIn (kept_of marked nodes) n → IsLive nodes n × (marked (place_of nodes n) ≡ true)
kept_parts marked nodes n is =
    let both = and_parts (is_live (node_at nodes n).life) (marked (place_of nodes n)) (sym (has-kept marked nodes n) ∙ is) in
    (is_live_life (node_at nodes n).life both.0, both.1)

pub kept_from : (marked : ℕ → Bool) (nodes : List Node) (n : ℕ) → IsLive nodes n → marked (place_of nodes n) ≡ true → IsIn (kept_of marked nodes) n
kept_from marked nodes n live is = has-kept marked nodes n ∙ and_from _ _ (live_is_live nodes n live) is

pub kept_low : (marked : ℕ → Bool) (nodes : List Node) (n : ℕ) → IsIn (kept_of marked nodes) n → n < length nodes
kept_low marked nodes n is = there_below nodes n (live_is_there nodes n (kept_parts marked nodes n is).0)

-- ---- slots

pub slots_live : (nodes : List Node) (slots : List (Option ℕ)) → AreLive nodes (slot_targets slots) → All (λ slot. ForSome slot (IsLive nodes)) slots
slots_live nodes [] live = λ k d low. absurd (omega arith)
slots_live nodes (None ∷ slots) live = All-cons (λ slot. ForSome slot (IsLive nodes)) None slots (λ n e. cc) (slots_live nodes slots live)
slots_live nodes (Some m ∷ slots) live =
    All-cons (λ slot. ForSome slot (IsLive nodes)) (Some m) slots
    (λ n e. subst (IsLive nodes) (let q : m ≡ n = cc in q) (All-head (IsLive nodes) m (slot_targets slots) live))
    (slots_live nodes slots (All-tail (IsLive nodes) m (slot_targets slots) live))

pub slot_of_root : (slots : List (Option ℕ)) (n : ℕ) → list_any (λ r. eqb r n) (slot_targets slots) ≡ true → Contains slots (Some n)
slot_of_root [] n h = absurd (true≢false (sym h))
slot_of_root (None ∷ slots) n h = Contains-cons None slots (Some n) (slot_of_root slots n h)
slot_of_root (Some m ∷ slots) n h =
    elim (or_cases (eqb m n) (list_any (λ r. eqb r n) (slot_targets slots)) h) [
      | inl here ↦ subst (λ x. Contains (Some m ∷ slots) (Some x)) (eqb-true m n here) (Contains-head (Some m) slots)
      | inr later ↦ Contains-cons (Some m) slots (Some n) (slot_of_root slots n later)
    ]

pub root_of_slot : (slots : List (Option ℕ)) (n : ℕ) → Contains slots (Some n) → list_any (λ r. eqb r n) (slot_targets slots) ≡ true
root_of_slot [] n c = absurd (omega (arith, c.1))
root_of_slot (None ∷ slots) n c = elim (Contains-cons_cases None slots (Some n) c) [ inl e ↦ cc | inr later ↦ root_of_slot slots n later ]
root_of_slot (Some m ∷ slots) n c =
    elim (Contains-cons_cases (Some m) slots (Some n) c) [
      | inl e ↦ or_left (eqb m n) _ (eq-eqb m n (let q : m ≡ n = cc in q))
      | inr later ↦ or_right (eqb m n) _ (root_of_slot slots n later)
    ]

-- a slot's place is that of its node
pub slot_node_place : (nodes : List Node) (slots : List (Option ℕ)) (n : ℕ) → Contains slots (Some n) → Contains (places_of_slots nodes slots) (Some (place_of nodes n))
slot_node_place nodes [] n c = absurd (omega (arith, c.1))
slot_node_place nodes (slot ∷ slots) n c =
    elim (Contains-cons_cases slot slots (Some n) c) [
      | inl here ↦ subst (λ s. Contains (places_of_slots nodes (s ∷ slots)) (Some (place_of nodes n))) (sym here) (Contains-head (Some (place_of nodes n)) (places_of_slots nodes slots))
      | inr later ↦ Contains-cons _ (places_of_slots nodes slots) (Some (place_of nodes n)) (slot_node_place nodes slots n later)
    ]

pub place_slot : (nodes : List Node) (slots : List (Option ℕ)) (p : ℕ) → Contains (places_of_slots nodes slots) (Some p) → (n : ℕ) × Contains slots (Some n) × (place_of nodes n ≡ p)
place_slot nodes [] p c = absurd (omega (arith, c.1))
place_slot nodes (None ∷ slots) p c =
    elim (Contains-cons_cases None (places_of_slots nodes slots) (Some p) c) [
      | inl e ↦ cc
      | inr later ↦ (let w = place_slot nodes slots p later in (w.0, Contains-cons None slots (Some w.0) w.1, w.2))
    ]
place_slot nodes (Some m ∷ slots) p c =
    elim (Contains-cons_cases (Some (place_of nodes m)) (places_of_slots nodes slots) (Some p) c) [
      | inl e ↦ (m, Contains-head (Some m) slots, (let q : place_of nodes m ≡ p = cc in q))
      | inr later ↦ (let w = place_slot nodes slots p later in (w.0, Contains-cons (Some m) slots (Some w.0) w.1, w.2))
    ]

-- what a slot names is there, and so its place is a body's
pub named_places : (nodes : List Node) (v : SeatView) (slots : List (Option ℕ)) → v.bodies ≡ bodies_of nodes → All (λ slot. ForSome slot (IsLive nodes)) slots
    → All (λ slot. ForSome slot (IsPlace v.bodies)) (places_of_slots nodes slots)
named_places nodes v [] held live = λ k d low. absurd (omega arith)
named_places nodes v (None ∷ slots) held live =
    All-cons (λ slot. ForSome slot (IsPlace v.bodies)) None (places_of_slots nodes slots) (λ p e. cc)
    (named_places nodes v slots held (All-tail (λ slot. ForSome slot (IsLive nodes)) None slots live))
named_places nodes v (Some n ∷ slots) held live =
    let is : IsLive nodes n = All-head (λ slot. ForSome slot (IsLive nodes)) (Some n) slots live n refl in
    All-cons (λ slot. ForSome slot (IsPlace v.bodies)) (Some (place_of nodes n)) (places_of_slots nodes slots)
    (λ p e. subst (IsPlace v.bodies) (let q : place_of nodes n ≡ p = cc in q)
    (body_of (place_of nodes) n (node_at nodes n), node_body nodes v n held (live_is_there nodes n is), refl))
    (named_places nodes v slots held (All-tail (λ slot. ForSome slot (IsLive nodes)) (Some n) slots live))

-- the places that slots hold are those of bodies
pub weak_are_places : (nodes : List Node) (v : SeatView) (slots : List (Option ℕ)) → v.bodies ≡ bodies_of nodes → All (λ slot. ForSome slot (IsLive nodes)) slots
    → All (IsPlace v.bodies) (taken (places_of_slots nodes slots))
weak_are_places nodes v [] held live = λ k d low. absurd (omega arith)
weak_are_places nodes v (None ∷ slots) held live = weak_are_places nodes v slots held (All-tail (λ slot. ForSome slot (IsLive nodes)) None slots live)
weak_are_places nodes v (Some n ∷ slots) held live =
    let is : IsLive nodes n = All-head (λ slot. ForSome slot (IsLive nodes)) (Some n) slots live n refl in
    All-cons (IsPlace v.bodies) (place_of nodes n) (taken (places_of_slots nodes slots))
    (body_of (place_of nodes) n (node_at nodes n), node_body nodes v n held (live_is_there nodes n is), refl)
    (weak_are_places nodes v slots held (All-tail (λ slot. ForSome slot (IsLive nodes)) (Some n) slots live))

-- ---- what an object names

pub typed_at : (setup : Setup) (nodes : List Node) (n : ℕ) → AreOfValid setup nodes → n < length nodes → IsTyped setup (length nodes) (node_at nodes n)
typed_at setup nodes n (s, valid, is) low =
    All-get_or (IsTyped setup (length nodes)) nodes n no_node low (subst (λ (ns : List Node). All (IsTyped setup (length ns)) ns) is valid.typed)

pub live_typed : (setup : Setup) (nodes : List Node) (m : ℕ) → AreOfValid setup nodes → IsLive nodes m → IsTyped setup (length nodes) (node_at nodes m)
live_typed setup nodes m valid live = typed_at setup nodes m valid (there_below nodes m (live_is_there nodes m live))

-- a live node leads to live nodes
pub named_live : (setup : Setup) (nodes : List Node) (m k : ℕ) → AreOfValid setup nodes → IsLive nodes m → Contains (node_at nodes m).object.values (Ref k) → IsLive nodes k
named_live setup nodes m k (s, valid, is) live there =
    All-contains (NamesLive nodes) (node_at nodes m).object.values (Ref k)
    (subst (λ (ns : List Node). (n : ℕ) → IsLive ns n → All (NamesLive ns) (node_at ns n).object.values) is valid.named m live) there

-- ---- the law of reach, applied

pub refers_within : (setup : Setup) (nodes : List Node) → AreOfValid setup nodes → RefersWithin (graph_of nodes)
refers_within setup nodes valid flags m n leads =
    elim (cases_lt m (length nodes)) [
      | inl low ↦
          (let o : Object = (node_at nodes m).object in
          let led : IsLed (has flags) o n = is_led (has flags) o n (subst (λ x. leads_to flags x n ≡ true) (object_of_node nodes m) leads) in
          let below : n < length nodes =
          All-contains (NamesBelow (length nodes)) o.values (Ref n) (below_from (length nodes) o.kinds o.values (typed_at setup nodes m valid low).values_are) (led_named (has flags) o n led) in
          omega (arith, below, length-map nodes (λ (x : Node). x.object)))
      | inr past ↦ absurd (nowhere (has flags) n (is_led (has flags) no_object n
          (sym (ap (λ o. leads_to flags o n) (object_of_node nodes m ∙ ap (λ (x : Node). x.object) (get_or_past nodes m no_node past))) ∙ leads)))
    ]

pub slot_node_live : (nodes : List Node) (slots : List (Option ℕ)) (n : ℕ) → AreLive nodes (slot_targets slots) → Contains slots (Some n) → IsLive nodes n
slot_node_live nodes slots n live c = All-contains (λ slot. ForSome slot (IsLive nodes)) slots (Some n) (slots_live nodes slots live) c n refl
