-- What marking kept, over the nodes: what the roots reach, and nothing but what those reach that may be kept.
use Rattle.std.proofs.Common.{◌≡◌, ℕ, ◌+◌, ◌<◌, ◌≤◌, Bool, true, false, List, [], ◌++◌, length, Option, Some, refl, sym, ap, ◌∙◌, subst, inl, inr, arith, leb, ltb}
use Rattle.std.specs.List.{Contains, list_any, range_with_len}
use Rattle.std.proofs.lemmas.Bool.{true≢false, and_parts, and_from, leb-true, ltb-true, le-leb, lt-ltb}
use Rattle.std.proofs.lemmas.List.{length-map, append_assoc}
use Rattle.std.proofs.lemmas.List.Elements.{All-contains}
use mathlib.Core.Logic.{◌⊎◌}
use Rattle.gc_graph.specs.Graph.{Object, IsIn, IsClosed}
use Rattle.gc_graph.specs.Reach.{Reach, IsLeastClosed, ReachIsLeast}
use Rattle.gc_graph.specs.State.{Setup, Node, node_at, size_of, graph_of, slot_targets, strong_region_targets, is_there, IsLive}
use Rattle.gc_graph.specs.May.{members, has_word}
use Rattle.gc_graph.specs.NodeNumbers.{there_below}
use Rattle.gc_graph.specs.Members.{any_member, any_from, below_ranged, holds_from, in_from_holds}
use Rattle.gc_graph.specs.Valid.{region_targets}
use Rattle.cross_thread_region.specs.declared.chronicle.PlacedEntry.{PlacedEntry}
use Rattle.cross_thread_region.specs.Calls.{PassView}
use Rattle.cross_thread_region.specs.Histories.{slots_of}
use Rattle.cross_thread_region.specs.PlacedNodes.{strong_target_is_target, strong_target_placed, strong_place_named}
use Rattle.marker_core.specs.declared.states.Body.{Body}
use Rattle.marker_core.specs.Bodies.{holds}
use Rattle.marker_core.specs.Closed.{IsClosedOver}
use Rattle.page_words.specs.PlaceTests.{place_of_test}
use Rattle.page_words.specs.Roles.{kind_lists}
use Rattle.page_words.specs.Seat.{SeatView, IsView}
use Rattle.prefinalizer_effects.specs.Nodes.{place_of, body_of, bodies_of, IsThere, IsHeld, AreOfValid}
use Rattle.prefinalizer_effects.specs.PlacesInWords.{kept_of}
use Rattle.prefinalizer_effects.specs.AmongNodes.{IsAmong, among_cases, among_left, among_right, filter_holds, filter_passes}
use Rattle.prefinalizer_effects.specs.NodePlaces.{live_is_there, node_body, body_node, same_node}
use Rattle.prefinalizer_effects.specs.NodeLives.{live_if_there, none_dead}
use Rattle.prefinalizer_effects.specs.ClosedPlaces.{reached_place, reached_from, reached_some, kept_closed, places_closed}
use Rattle.prefinalizer_effects.specs.KeptNodes.{kept_parts, kept_from, kept_low, slot_of_root, slot_node_place, slot_node_live, refers_within}
use Rattle.atomic_pause.specs.Marking.{HoldsRoots, IsHitPlace, IsScanned, IsSharedPlace, IsOtherRoot, MarksReachable}
use Rattle.atomic_pause.specs.Pausing.{NamePlaces, IsMayWithin, IsKeptBetween, found_before, hits_at, hits_in, shared_roots}
use Rattle.atomic_pause.specs.MembersOf.{member_among, among_member, member_below}
use Rattle.atomic_pause.proofs.RegionPaused.{NamesLive}

-- ---- the roots

-- the test of the words of a stack that holds of those that hit the node
abbrev hits_node : List Node → ℕ → ℕ → Bool
hits_node nodes n a = has_word (node_at nodes n) a

hit_among : (nodes : List Node) (stack : List ℕ) (n a : ℕ) → n < length nodes → Contains stack a → has_word (node_at nodes n) a ≡ true → IsAmong (hits_at nodes stack) n
hit_among nodes stack n a low there is =
    filter_holds (λ m. list_any (hits_node nodes m) stack) (range_with_len 0 (length nodes)) n (below_ranged (length nodes) n low)
    (any_from (hits_node nodes n) stack a there is)

among_hit : (nodes : List Node) (stack : List ℕ) (n : ℕ) → IsAmong (hits_at nodes stack) n → (a : ℕ) × Contains stack a × (has_word (node_at nodes n) a ≡ true)
among_hit nodes stack n is =
    any_member (hits_node nodes n) stack (filter_passes (λ m. list_any (hits_node nodes m) stack) (range_with_len 0 (length nodes)) n is)

-- a node that is there has a word where its body has one
word_body : (nodes : List Node) (n a : ℕ) → has_word (node_at nodes n) a ≡ true → IsThere nodes n × (place_of nodes n ≤ a) × (a < place_of nodes n + size_of (node_at nodes n))
word_body nodes n a is =
    let x : Node = node_at nodes n in
    let parts = and_parts (is_there x.life) _ is in
    let both = and_parts (leb x.place a) (ltb a (x.place + size_of x)) parts.1 in
    (parts.0, leb-true x.place a both.0, ltb-true a (x.place + size_of x) both.1)

body_word : (nodes : List Node) (n a : ℕ) → IsThere nodes n → place_of nodes n ≤ a → a < place_of nodes n + size_of (node_at nodes n) → has_word (node_at nodes n) a ≡ true
body_word nodes n a there low high =
    and_from _ _ there (and_from _ _ (le-leb (place_of nodes n) a low) (lt-ltb a (place_of nodes n + size_of (node_at nodes n)) high))

-- the nodes that strong slots of the region name and those that the stack hits
abbrev pub other_roots : List Node → PassView → Bool → List ℕ → List ℕ
other_roots nodes passed precise stack = shared_roots passed ++ hits_in precise nodes stack

-- the first roots, the nodes that strong slots of the region name and those that the stack hits
abbrev pub roots_with : List ℕ → List Node → PassView → Bool → List ℕ → List ℕ
roots_with first nodes passed precise stack = first ++ shared_roots passed ++ hits_in precise nodes stack

-- they are the first ones and the others
pub roots_with_others : (first : List ℕ) (nodes : List Node) (passed : PassView) (precise : Bool) (stack : List ℕ)
    → first ++ other_roots nodes passed precise stack ≡ roots_with first nodes passed precise stack
roots_with_others first nodes passed precise stack = sym (append_assoc first (shared_roots passed) (hits_in precise nodes stack))

-- ---- what was marked

-- marking is over, and these are the nodes whose words it went through: the first roots are at places that were roots of it, and
-- what it might mark are places of live nodes among the others
pub record HasMarked (setup : Setup) (nodes : List Node) (least most : List ℕ) (root may : ℕ → Type 0) (v new : SeatView) : Type 0 where
  pub view : IsView v
  pub valid : AreOfValid setup nodes
  pub held : v.bodies ≡ bodies_of nodes
  pub live : (n : ℕ) → IsAmong least n → IsLive nodes n
  pub placed : (n : ℕ) → IsAmong least n → root (place_of nodes n)
  pub low : (n : ℕ) → IsAmong most n → n < length nodes
  pub named : (p : ℕ) → may p → (n : ℕ) × IsLive nodes n × IsAmong most n × (place_of nodes n ≡ p)
  pub marks : MarksReachable setup.types root may v new

hit_body : (nodes : List Node) (v : SeatView) (stack : List ℕ) (n a : ℕ) → v.bodies ≡ bodies_of nodes → Contains stack a → has_word (node_at nodes n) a ≡ true
    → IsHitPlace v.bodies stack (place_of nodes n)
hit_body nodes v stack n a held there is =
    let w = word_body nodes n a is in
    (a, there, (body_of (place_of nodes) n (node_at nodes n), node_body nodes v n held w.0, refl, w.1, w.2))

hit_named : (nodes : List Node) (v : SeatView) (stack : List ℕ) (p : ℕ) → v.bodies ≡ bodies_of nodes → IsHitPlace v.bodies stack p
    → (n : ℕ) × IsAmong (hits_at nodes stack) n × (place_of nodes n ≡ p)
hit_named nodes v stack p held (a, there, (b, b_there, at, low, high)) =
    let node = body_node nodes v b held b_there in
    let n : ℕ = node.0 in
    let place : b.place ≡ place_of nodes n = ap (λ (c : Body). c.place) node.3 in
    let size : b.size ≡ size_of (node_at nodes n) = ap (λ (c : Body). c.size) node.3 in
    (n, hit_among nodes stack n a node.1 there (body_word nodes n a node.2 (omega (arith, place, at, low)) (omega (arith, place, size, high))), sym place ∙ at)

-- the roots at these places are the nodes of the list, which live
pub record AreRootsAt (nodes : List Node) (roots : List ℕ) (root : ℕ → Type 0) : Type 0 where
  pub live : (n : ℕ) → IsAmong roots n → IsLive nodes n
  pub placed : (n : ℕ) → IsAmong roots n → root (place_of nodes n)
  pub named : (p : ℕ) → root p → (n : ℕ) × IsAmong roots n × (place_of nodes n ≡ p)

either_at : (nodes : List Node) (xs ys : List ℕ) (x y : ℕ → Type 0) → AreRootsAt nodes xs x → AreRootsAt nodes ys y → AreRootsAt nodes (xs ++ ys) (λ p. x p ⊎ y p)
either_at nodes xs ys x y first second = record {
  live = λ n is. elim (among_cases xs ys n is) [ inl a ↦ first.live n a | inr b ↦ second.live n b ];
  placed = λ n is. elim (among_cases xs ys n is) [ inl a ↦ inl (first.placed n a) | inr b ↦ inr (second.placed n b) ];
  named = λ p is. elim is [
    | inl a ↦ (let w = first.named p a in (w.0, among_left xs ys w.0 w.1, w.2))
    | inr b ↦ (let w = second.named p b in (w.0, among_right xs ys w.0 w.1, w.2))
  ];
}

-- what the region's strong slots name
shared_at : (nodes : List Node) (history : List PlacedEntry) → NamesLive nodes history
    → AreRootsAt nodes (strong_region_targets (slots_of history)) (IsSharedPlace history)
shared_at nodes history names = record {
  live = λ n is. All-contains (IsLive nodes) (region_targets (slots_of history)) n names.live
      (strong_target_is_target (slots_of history) n (in_from_holds (strong_region_targets (slots_of history)) n is));
  placed = λ n is. strong_target_placed (place_of nodes) history n names.placed (in_from_holds (strong_region_targets (slots_of history)) n is);
  named = λ p is.
      let w = strong_place_named (place_of nodes) history is.0 p names.placed is.1 in
      (w.0, holds_from (strong_region_targets (slots_of history)) w.0 w.1, w.2);
}

-- what the stack hits
scanned_at : (nodes : List Node) (precise : Bool) (stack : List ℕ) (v : SeatView) → v.bodies ≡ bodies_of nodes → v.dead ≡ [] → IsHeld nodes v
    → AreRootsAt nodes (hits_in precise nodes stack) (IsScanned precise v.bodies stack)
scanned_at nodes true stack v same none held = record {
  live = λ n is. absurd (true≢false (sym is));
  placed = λ n is. absurd (true≢false (sym is));
  named = λ p is. absurd (true≢false is.0);
}
scanned_at nodes false stack v same none held = record {
  live = λ n is.
      let w = among_hit nodes stack n is in
      live_if_there (node_at nodes n).life (word_body nodes n w.0 w.2).0 (none_dead nodes v held none n);
  placed = λ n is. (let w = among_hit nodes stack n is in (refl, hit_body nodes v stack n w.0 same w.1 w.2));
  named = λ p is. hit_named nodes v stack p same is.1;
}

-- what the pause finds beside what the owner's slots name, where the pass (passed) has seen the history before the pause's entry
pub others_at : (nodes : List Node) (passed : PassView) (history : List PlacedEntry) (precise : Bool) (stack : List ℕ) (v : SeatView)
    → NamesLive nodes history → found_before passed ≡ history → v.dead ≡ [] → IsHeld nodes v
    → AreRootsAt nodes (other_roots nodes passed precise stack) (IsOtherRoot history precise v.bodies stack)
others_at nodes passed history precise stack v names same none held =
    subst (λ h. AreRootsAt nodes (strong_region_targets (slots_of h) ++ hits_in precise nodes stack) (IsOtherRoot history precise v.bodies stack)) (sym same)
    (either_at nodes (strong_region_targets (slots_of history)) (hits_in precise nodes stack) (IsSharedPlace history) (IsScanned precise v.bodies stack)
    (shared_at nodes history names) (scanned_at nodes precise stack v held.bodies none held))

-- with the slots and the others for roots
pub has_marked : (setup : Setup) (nodes : List Node) (slots places : List (Option ℕ)) (may : List Bool) (others : List ℕ) (other : ℕ → Type 0) (v new : SeatView)
    → IsView v → v.on ≡ true → AreOfValid setup nodes → IsHeld nodes v → NamePlaces nodes slots places → IsMayWithin nodes v may → AreRootsAt nodes others other
    → MarksReachable setup.types (λ p. Contains places (Some p) ⊎ other p) (λ p. (holds v.may p ≡ true) ⊎ other p) v new
    → HasMarked setup nodes (slot_targets slots ++ others) (members may ++ others) (λ p. Contains places (Some p) ⊎ other p) (λ p. (holds v.may p ≡ true) ⊎ other p) v new
has_marked setup nodes slots places may others other v new view on valid held names within are marks = record {
  view = view;
  valid = valid;
  held = held.bodies;
  live = λ n is. elim (among_cases (slot_targets slots) others n is) [
    | inl slot ↦ slot_node_live nodes slots n names.live (slot_of_root slots n slot)
    | inr found ↦ are.live n found
  ];
  placed = λ n is. elim (among_cases (slot_targets slots) others n is) [
    | inl slot ↦ inl (subst (λ l. Contains l (Some (place_of nodes n))) (sym names.places_are) (slot_node_place nodes slots n (slot_of_root slots n slot)))
    | inr found ↦ inr (are.placed n found)
  ];
  low = λ n is. elim (among_cases (members may) others n is) [
    | inl member ↦ omega (arith, member_below may n (among_member may n member), within.whole)
    | inr found ↦ there_below nodes n (live_is_there nodes n (are.live n found))
  ];
  named = λ p is. elim is [
    | inl kept ↦
        (let at = place_of_test v.bodies p ((view.marking on).are_places p kept) in
        let node = body_node nodes v at.0 held.bodies at.1 in
        let n : ℕ = node.0 in
        let place : place_of nodes n ≡ p = sym (ap (λ (c : Body). c.place) node.3) ∙ at.2 in
        let alive : IsLive nodes n = live_if_there (node_at nodes n).life node.2 (none_dead nodes v held (view.marking on).no_dead n) in (
          n,
          alive,
          among_left (members may) others n (member_among may n (within.within n alive (subst (λ q. holds v.may q ≡ true) (sym place) kept))),
          place,
        ))
    | inr found ↦ (let w = are.named p found in (w.0, are.live w.0 w.1, among_right (members may) others w.0 w.1, w.2))
  ];
  marks = marks;
}

-- ---- the law of reach, applied

pub keeps_between : (setup : Setup) (nodes : List Node) (least most : List ℕ) (root may : ℕ → Type 0) (v new : SeatView) → ReachIsLeast
    → HasMarked setup nodes least most root may v new → IsKeptBetween nodes least most (kept_of (holds new.marked) nodes)
keeps_between setup nodes least most root may v new law done =
    let g : List Object = graph_of nodes in
    let kept : List Bool = kept_of (holds new.marked) nodes in
    let count : length g ≡ length nodes = length-map nodes (λ (x : Node). x.object) in
    let lower : IsLeastClosed g least (Reach g least) =
    law g least (refers_within setup nodes done.valid) (λ n is. omega (arith, there_below nodes n (live_is_there nodes n (done.live n is)), count)) in
    let upper : IsLeastClosed g most (Reach g most) = law g most (refers_within setup nodes done.valid) (λ n is. omega (arith, done.low n is, count)) in
    let reach : List Bool = Reach g most in
    let reached : HoldsRoots (reached_place nodes reach) may = λ p is.
    let w = done.named p is in
    subst (λ x. reached_place nodes reach x ≡ true) w.3 (reached_from nodes reach w.0 w.1 (upper.roots_in w.0 w.2)) in
    let closed : IsClosed g kept = kept_closed setup nodes v done.view done.valid done.held (holds new.marked)
    (subst (λ bs. IsClosedOver (kind_lists setup.types) bs (holds new.marked)) done.marks.bodies done.marks.closed) in
    let places : IsClosedOver (kind_lists setup.types) new.bodies (reached_place nodes reach) =
    subst (λ bs. IsClosedOver (kind_lists setup.types) bs (reached_place nodes reach)) (sym done.marks.bodies) (places_closed setup nodes v done.view done.valid done.held reach upper.closed) in
    record {
      closed = closed;
      reached = lower.least kept closed (λ n is. kept_from (holds new.marked) nodes n (done.live n is) (done.marks.roots (place_of nodes n) (done.placed n is)));
      bounded = λ n is.
          let parts = kept_parts (holds new.marked) nodes n is in
          let w = reached_some nodes reach (place_of nodes n) (done.marks.least (reached_place nodes reach) places reached (place_of nodes n) parts.1) in
          subst (IsIn reach) (same_node nodes v w.0 n done.view done.held (live_is_there nodes w.0 w.1) (live_is_there nodes n parts.0) w.2) w.3;
      low = λ n is. kept_low (holds new.marked) nodes n is;
    }
