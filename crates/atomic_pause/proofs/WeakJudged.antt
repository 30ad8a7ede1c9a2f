-- After marking and weak clearing the words hold the nodes after the pause.
use Rattle.std.proofs.Common.{◌≡◌, ℕ, ◌<◌, Bool, true, false, ◌&&◌, not, List, [], ◌∷◌, length, map, Option, Some, None, option_map, refl, sym, ap, ◌∙◌, subst, cond}
use Rattle.std.specs.List.{All}
use Rattle.std.specs.Option.{ForSome}
use Rattle.std.proofs.lemmas.Bool.{true≢false}
use Rattle.std.proofs.lemmas.List.Elements.{All-head, All-tail, All-get_or, All-from_get_or}
use Rattle.gc_graph.specs.declared.kind.Kind.{Kind}
use Rattle.gc_graph.specs.Graph.{Object, has}
use Rattle.gc_graph.specs.State.{Setup, ObjectType, Node, Life, node_at, no_node, is_live, is_dead, is_there, slot_targets, IsLive, IsDead}
use Rattle.gc_graph.specs.State.Life.{Live, Dead, Gone}
use Rattle.gc_graph.specs.Valid.{IsTyped, AreLive}
use Rattle.gc_graph.specs.ActionLaw.{HaveStayed}
use Rattle.gc_graph.specs.Pause.{judged, condemn, is_dead_at, clear_slot, cleared_values}
use Rattle.gc_graph.specs.Condemning.{length-condemn}
use Rattle.gc_graph.specs.Members.{Contains-map}
use Rattle.type_table.specs.Types.{declared_kinds}
use Rattle.type_table.specs.Layouts.{kinds_of_words}
use Rattle.marker_core.specs.declared.states.Body.{Body}
use Rattle.marker_core.specs.Bodies.{IsPlace, holds}
use Rattle.page_words.specs.Seat.{SeatView, OnlyLooked}
use Rattle.weak_clearing.specs.Space.{SpaceView, IsSpaceOf, IsSpaceIn, extents_of_bodies}
use Rattle.weak_clearing.specs.Clearing.{clear_words, clear_body, with_weak_cleared, clear_pair_words, clear_pairs_of, with_pairs_cleared}
use Rattle.prefinalizer_effects.specs.Nodes.{AreOfValid, place_of, word_of, IsHeld}
use Rattle.prefinalizer_effects.specs.PlacesInWords.{BodiesAreJudged, kept_of, places_of_slots}
use Rattle.prefinalizer_effects.specs.Judgement.{nodes_after}
use Rattle.prefinalizer_effects.specs.NodeChanges.{bodies-same}
use Rattle.prefinalizer_effects.specs.NodeLives.{life-condemn, object-condemn, place-condemn, there-condemn, live_if_there, dead_judged, none_dead}
use Rattle.prefinalizer_effects.specs.TypedNodes.{AreKnown, known_nodes}
use Rattle.prefinalizer_effects.specs.KeptNodes.{has-kept, slots_live}
use Rattle.prefinalizer_effects.specs.WeakNodes.{life-after, place-after}
use Rattle.prefinalizer_effects.specs.ChangedBodies.{KeepsExtents, same_extents, judged_changed}
use Rattle.atomic_pause.specs.Marking.{MarksReachable}
use Rattle.atomic_pause.proofs.HeldNodes.{held_judged}
use Rattle.atomic_pause.proofs.WeakBodies.{TellsUnmarked, Clears, cleared_both, cleared_words, clear_all, bodies_cleared}

-- marking is over in these words, which hold the nodes: none was dead before, and what isn't marked is now condemned
pub record IsMarked (setup : Setup) (nodes : List Node) (v : SeatView) : Type 0 where
  pub known : AreKnown setup nodes
  pub types : v.types ≡ setup.types
  pub alive : (n : ℕ) → IsDead nodes n → ⊥
  pub held : IsHeld (condemn (kept_of (holds v.marked) nodes) nodes) v

pub marked_is : (setup : Setup) (nodes : List Node) (root may : ℕ → Type 0) (v new : SeatView) → AreOfValid setup nodes → v.types ≡ setup.types → v.dead ≡ []
    → IsHeld nodes v → MarksReachable setup.types root may v new → IsMarked setup nodes new
marked_is setup nodes root may v new valid types none held marks = record {
  known = known_nodes setup nodes valid;
  types = marks.known ∙ types;
  alive = none_dead nodes v held none;
  held = held_judged nodes setup.types root may v new none held marks;
}

-- ---- which nodes are dead

flag_is : (marked : ℕ → Bool) (nodes : List Node) (n : ℕ) → IsLive nodes n → has (kept_of marked nodes) n ≡ marked (place_of nodes n)
flag_is marked nodes n live = has-kept marked nodes n ∙ ap (λ l. is_live l && marked (place_of nodes n)) live

life_is : (marked : ℕ → Bool) (nodes : List Node) (n : ℕ) → IsLive nodes n → (node_at (condemn (kept_of marked nodes) nodes) n).life ≡ judged (marked (place_of nodes n)) Live
life_is marked nodes n live =
    life-condemn (kept_of marked nodes) nodes n ∙ ap (λ b. judged b (node_at nodes n).life) (flag_is marked nodes n live) ∙ ap (judged (marked (place_of nodes n))) live

pub tells_unmarked : (nodes : List Node) (v : SeatView) → TellsUnmarked nodes v.marked (place_of nodes) (is_dead_at (condemn (kept_of (holds v.marked) nodes) nodes))
tells_unmarked nodes v n live = ap is_dead (life_is (holds v.marked) nodes n live) ∙ dead_judged (holds v.marked (place_of nodes n))

live_judged : (flag : Bool) → is_live (judged flag Live) ≡ flag
live_judged true = refl
live_judged false = refl

live_before : (flag : Bool) (l : Life) → is_live (judged flag l) ≡ true → l ≡ Live
live_before true Live is = refl
live_before false Live is = refl
live_before true Dead is = absurd (true≢false (sym is))
live_before false Dead is = absurd (true≢false (sym is))
live_before true Gone is = absurd (true≢false (sym is))
live_before false Gone is = absurd (true≢false (sym is))

-- ---- bodies

-- the view after both clearings
abbrev pub both_cleared : SeatView → SeatView
both_cleared v = with_pairs_cleared (with_weak_cleared v)

-- the words of a live node's object are cleared as its values are
object_words : (setup : Setup) (nodes : List Node) (v : SeatView) (n : ℕ) → IsMarked setup nodes v → n < length nodes → IsLive nodes n
    → (o : Object) → o ≡ (node_at nodes n).object
    → cleared_both v.marked (declared_kinds setup.types o.ty) (map (word_of (place_of nodes)) o.values)
    ≡ map (word_of (place_of nodes)) (cleared_values (is_dead_at (condemn (kept_of (holds v.marked) nodes) nodes)) o.kinds o.values)
object_words setup nodes v n is low live o same =
    let dead : ℕ → Bool = is_dead_at (condemn (kept_of (holds v.marked) nodes) nodes) in
    let f : ℕ → ℕ = place_of nodes in
    let x : Node = node_at nodes n in
    let typed : IsTyped setup (length nodes) x = All-get_or (IsTyped setup (length nodes)) nodes n no_node low is.known.typed in
    subst (λ (p : Object). cleared_both v.marked (declared_kinds setup.types p.ty) (map (word_of f) p.values) ≡ map (word_of f) (cleared_values dead p.kinds p.values)) (sym same)
    (ap (λ (ks : List Kind). cleared_both v.marked ks (map (word_of f) x.object.values)) (sym typed.kinds_are)
    ∙ cleared_words nodes v.marked f dead (length nodes) x.object.kinds x.object.values (tells_unmarked nodes v) typed.values_are
    (is.known.references n live))

node_clears : (setup : Setup) (nodes : List Node) (v : SeatView) (n : ℕ) → IsMarked setup nodes v → n < length nodes
    → Clears setup.types v.marked (place_of nodes) (is_dead_at (condemn (kept_of (holds v.marked) nodes) nodes)) (node_at (condemn (kept_of (holds v.marked) nodes) nodes) n)
node_clears setup nodes v n is low =
    let kept : List Bool = kept_of (holds v.marked) nodes in
    let x : Node = node_at (condemn kept nodes) n in
    let place : x.place ≡ place_of nodes n = place-condemn kept nodes n in
    let was_live : is_live x.life ≡ true → IsLive nodes n = λ live. live_before (has kept n) (node_at nodes n).life (sym (ap is_live (life-condemn kept nodes n)) ∙ live) in
    let flag : IsLive nodes n → is_live x.life ≡ holds v.marked x.place = λ live.
    ap is_live (life_is (holds v.marked) nodes n live) ∙ live_judged (holds v.marked (place_of nodes n)) ∙ sym (ap (holds v.marked) place) in
    record {
      kept = λ live. sym (flag (was_live live)) ∙ live;
      words = λ live. object_words setup nodes v n is low (was_live live) x.object (object-condemn kept nodes n);
      left = λ there other. sym (flag (live_if_there (node_at nodes n).life (there-condemn kept nodes n there) (is.alive n))) ∙ other;
    }

pub held_after : (setup : Setup) (nodes : List Node) (v : SeatView) → IsMarked setup nodes v → IsHeld (nodes_after (kept_of (holds v.marked) nodes) nodes) (both_cleared v)
held_after setup nodes v is =
    let kept : List Bool = kept_of (holds v.marked) nodes in
    let c : List Node = condemn kept nodes in
    let dead : ℕ → Bool = is_dead_at c in
    let f : ℕ → ℕ = place_of nodes in
    let after : List Node = nodes_after kept nodes in
    let each : All (Clears setup.types v.marked f dead) c =
    All-from_get_or (Clears setup.types v.marked f dead) c no_node (λ n low. node_clears setup nodes v n is (subst (λ l. n < l) (length-condemn kept nodes) low)) in
    record {
      bodies = ap (λ (ts : List ObjectType). clear_all ts v.marked v.bodies) is.types
          ∙ ap (clear_all setup.types v.marked) (is.held.bodies ∙ bodies-same (place_of c) f c (place-condemn kept nodes))
          ∙ bodies_cleared setup.types v.marked f dead 0 c each ∙ bodies-same f (place_of after) after (λ n. sym (place-after kept nodes n));
      dead = λ n there.
          let life : (node_at after n).life ≡ (node_at c n).life = life-after kept nodes n in
          ap (holds v.dead) (place-after kept nodes n ∙ sym (place-condemn kept nodes n)) ∙ is.held.dead n (sym (ap is_there life) ∙ there) ∙ sym (ap is_dead life);
    }

-- ---- the words

weak_keeps : (types : List ObjectType) (marked : List ℕ) → KeepsExtents (clear_body types marked)
weak_keeps types marked b = go (holds marked b.place) where
  cleared : Body
  cleared = record b { fields = clear_words marked (kinds_of_words (declared_kinds types b.ty)) b.fields }

  go : (flag : Bool) → ((cond flag cleared b).place ≡ b.place) × ((cond flag cleared b).size ≡ b.size)
  go true = (refl, refl)
  go false = (refl, refl)

pairs_keep : (types : List ObjectType) (marked : List ℕ) → KeepsExtents (clear_pairs_of types marked)
pairs_keep types marked b = go (holds marked b.place) where
  cleared : Body
  cleared = record b { fields = clear_pair_words marked (declared_kinds types b.ty) b.fields }

  go : (flag : Bool) → ((cond flag cleared b).place ≡ b.place) × ((cond flag cleared b).size ≡ b.size)
  go true = (refl, refl)
  go false = (refl, refl)

-- weak clearing moves no object and changes no size
pub extents_cleared : (v : SeatView) → extents_of_bodies (both_cleared v).bodies ≡ extents_of_bodies v.bodies
extents_cleared v =
    same_extents (clear_pairs_of v.types v.marked) (pairs_keep v.types v.marked) (map (clear_body v.types v.marked) v.bodies)
    ∙ same_extents (clear_body v.types v.marked) (weak_keeps v.types v.marked) v.bodies

-- and so a place stays one
pub place_cleared : (v w : SeatView) (p : ℕ) → OnlyLooked (both_cleared v) w → IsPlace v.bodies p → IsPlace w.bodies p
place_cleared v w p looked (b, there, at) =
    let weak : Body = clear_body v.types v.marked b in
    let both : Body = clear_pairs_of v.types v.marked weak in
    subst (λ bs. IsPlace bs p) (sym (ap (λ (u : SeatView). u.bodies) looked)) (
      both,
      Contains-map (clear_pairs_of v.types v.marked) (map (clear_body v.types v.marked) v.bodies) weak (Contains-map (clear_body v.types v.marked) v.bodies b there),
      (pairs_keep v.types v.marked weak).0 ∙ (weak_keeps v.types v.marked b).0 ∙ at,
    )

-- and so leaves the space's objects where they are
pub space_cleared : (space : SpaceView) (v : SeatView) → IsSpaceOf space v → IsSpaceOf space (both_cleared v)
space_cleared space v is =
    subst (IsSpaceIn space v.heap) (sym (extents_cleared v)) is

-- marking leaves the space's objects where they are
pub space_marked : (space : SpaceView) (types : List ObjectType) (root may : ℕ → Type 0) (v new : SeatView) → MarksReachable types root may v new → IsSpaceOf space v → IsSpaceOf space new
space_marked space types root may v new marks is =
    subst (λ heap. IsSpaceIn space heap (extents_of_bodies new.bodies)) (sym marks.heap)
    (subst (λ bodies. IsSpaceIn space v.heap (extents_of_bodies bodies)) (sym marks.bodies) is)

pub judged_cleared : (v : SeatView) → BodiesAreJudged v → BodiesAreJudged (both_cleared v)
judged_cleared v is =
    judged_changed (clear_pairs_of v.types v.marked) (pairs_keep v.types v.marked) (with_weak_cleared v)
    (judged_changed (clear_body v.types v.marked) (weak_keeps v.types v.marked) v is)

-- ---- the weak slots

-- those that named a condemned node are null
abbrev weak_after : List Bool → List Node → List (Option ℕ) → List (Option ℕ)
weak_after kept nodes weak = map (clear_slot (is_dead_at (condemn kept nodes))) weak

-- a slot whose place isn't marked is cleared where its node is dead
pub weak_places_after : (nodes : List Node) (v : SeatView) (weak : List (Option ℕ)) → All (λ slot. ForSome slot (IsLive nodes)) weak
    → map (clear_slot (λ a. not (holds v.marked a))) (places_of_slots nodes weak)
    ≡ places_of_slots (nodes_after (kept_of (holds v.marked) nodes) nodes) (weak_after (kept_of (holds v.marked) nodes) nodes weak)
weak_places_after nodes v [] live = refl
weak_places_after nodes v (None ∷ weak) live = ap (λ l. None ∷ l) (weak_places_after nodes v weak (All-tail (λ slot. ForSome slot (IsLive nodes)) None weak live))
weak_places_after nodes v (Some n ∷ weak) live =
    let kept : List Bool = kept_of (holds v.marked) nodes in
    let after : List Node = nodes_after kept nodes in
    let is : IsLive nodes n = All-head (λ slot. ForSome slot (IsLive nodes)) (Some n) weak live n refl in
    let unmarked : Bool = not (holds v.marked (place_of nodes n)) in
    let rest : List (Option ℕ) = map (clear_slot (λ a. not (holds v.marked a))) (places_of_slots nodes weak) in
    ap (λ p. cond unmarked None (Some p) ∷ rest) (sym (place-after kept nodes n)) ∙ ap (λ s. s ∷ rest) (named unmarked (place_of after) n)
    ∙ ap (λ b. option_map (place_of after) (cond b None (Some n)) ∷ rest) (sym (tells_unmarked nodes v n is))
    ∙ ap (λ l. option_map (place_of after) (clear_slot (is_dead_at (condemn kept nodes)) (Some n)) ∷ l)
    (weak_places_after nodes v weak (All-tail (λ slot. ForSome slot (IsLive nodes)) (Some n) weak live)) where
      named : (b : Bool) (f : ℕ → ℕ) (m : ℕ) → cond b None (Some (f m)) ≡ option_map f (cond b None (Some m))
      named true f m = refl
      named false f m = refl

-- prefinalizers leave each node its place and its life
weak_stay : (kept : List Bool) (nodes new : List Node) (weak : List (Option ℕ)) → HaveStayed (nodes_after kept nodes) new
    → places_of_slots (nodes_after kept nodes) (weak_after kept nodes weak) ≡ places_of_slots new (map (clear_slot (is_dead_at new)) weak)
weak_stay kept nodes new [] stayed = refl
weak_stay kept nodes new (None ∷ weak) stayed = ap (λ l. None ∷ l) (weak_stay kept nodes new weak stayed)
weak_stay kept nodes new (Some n ∷ weak) stayed =
    let after : List Node = nodes_after kept nodes in
    let rest : List (Option ℕ) = places_of_slots after (weak_after kept nodes weak) in
    let dead : is_dead_at (condemn kept nodes) n ≡ is_dead_at new n = ap is_dead (sym (stayed.life n ∙ life-after kept nodes n)) in
    ap (λ d. option_map (place_of after) (cond d None (Some n)) ∷ rest) dead
    ∙ ap (λ s. s ∷ rest) (place (is_dead_at new n)) ∙ ap (λ l. option_map (place_of new) (clear_slot (is_dead_at new) (Some n)) ∷ l) (weak_stay kept nodes new weak stayed) where
      place : (d : Bool) → option_map (place_of (nodes_after kept nodes)) (cond d None (Some n)) ≡ option_map (place_of new) (cond d None (Some n))
      place true = refl
      place false = ap (λ p. Some p) (sym (stayed.place n))

-- the places that weak slots hold after the pause
pub weak_left_is : (nodes new : List Node) (v : SeatView) (weak places : List (Option ℕ)) → AreLive nodes (slot_targets weak) → places ≡ places_of_slots nodes weak
    → HaveStayed (nodes_after (kept_of (holds v.marked) nodes) nodes) new
    → map (clear_slot (λ a. not (holds v.marked a))) places ≡ places_of_slots new (map (clear_slot (is_dead_at new)) weak)
weak_left_is nodes new v weak places live are stayed =
    ap (map (clear_slot (λ a. not (holds v.marked a)))) are ∙ weak_places_after nodes v weak (slots_live nodes weak live)
    ∙ weak_stay (kept_of (holds v.marked) nodes) nodes new weak stayed
