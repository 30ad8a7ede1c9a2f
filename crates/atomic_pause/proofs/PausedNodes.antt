-- The nodes through a pause.
use Rattle.std.proofs.Common.{◌≡◌, ℕ, ◌-◌, ◌^◌, ◌<◌, ◌≤◌, Bool, true, false, List, [], length, Option, Some, get_or, map, reverse, not, refl, sym, ap, ◌∙◌, subst, inl, inr, arith}
use mathlib.Core.Logic.{◌⊎◌}
use Rattle.std.specs.List.{Contains, count_by}
use Rattle.std.proofs.lemmas.List.Elements.{All-weaker, filter_agree}
use Rattle.std.proofs.lemmas.List.Sums.{count_by-le-length}
use Rattle.gc_graph.specs.declared.action.ActionKind.{ActionKind}
use Rattle.gc_graph.specs.declared.kind.Kind.{Kind}
use Rattle.gc_graph.specs.Graph.{has}
use Rattle.gc_graph.specs.State.{Setup, ObjectType, no_type, Node, Life, node_at, Registration, is_there, is_live, is_dead, objects_of}
use Rattle.gc_graph.specs.State.Life.{Live, Dead, Gone}
use Rattle.gc_graph.specs.Valid.{IsTyped}
use Rattle.gc_graph.specs.Pause.{judged, condemn, live_count, dead_count, dies, run_order, prefinalised}
use Rattle.gc_graph.specs.ActionLaw.{AreTyped, HaveStayed}
use Rattle.gc_graph.specs.WeakCalls.{WeakCall, weak_calls, called}
use Rattle.callback_table.specs.declared.registry.Registered.{Registered}
use Rattle.callback_table.specs.Registry.{IsRegistered, RegistryView, registration_of, registrations_of, pair_of, pairs_run, entries_left}
use Rattle.callback_table.specs.WeakRegistry.{WeakRegistryView, pair_called}
use Rattle.mark_worklist.specs.declared.marking.Marking.{Marking}
use Rattle.marker_core.specs.declared.states.Body.{Body}
use Rattle.marker_core.specs.Bodies.{holds}
use Rattle.page_words.specs.Seat.{SeatView, IsView}
use Rattle.weak_clearing.specs.Space.{SpaceView, IsSpaceOf}
use Rattle.ephemerons.specs.Fixpoint.{ListsMarks}
use Rattle.ephemerons.specs.Marking.{traced_count}
use Rattle.prefinalizer_effects.specs.Prepared.{setup_in_space, IsPrepared}
use Rattle.prefinalizer_effects.specs.Nodes.{place_of, bodies_of, most_nodes, IsHeld, AreOfValid}
use Rattle.prefinalizer_effects.specs.PlacesInWords.{kept_of}
use Rattle.prefinalizer_effects.specs.Judgement.{nodes_after}
use Rattle.prefinalizer_effects.specs.NodeBodies.{length-bodies}
use Rattle.prefinalizer_effects.specs.NodeLives.{life-condemn, live-condemn, live_and_dead, none_dead}
use Rattle.prefinalizer_effects.specs.WeakNodes.{life-after, place-after, length-after, live-after, count-stays}
use Rattle.cross_thread_region.specs.declared.chronicle.PlacedEntry.{PlacedEntry}
use Rattle.cross_thread_region.specs.Histories.{strong_place}
use Rattle.atomic_pause.specs.Marking.{IsScanned, IsSharedPlace, IsRootPlace, IsMayOrRoot, IsMarkedIn, MarksReachable, marked_count, with_may}
use Rattle.atomic_pause.specs.Pausing.{IsKeptBetween, IsPaused}
use Rattle.atomic_pause.specs.WeakCalling.{AreOfHolders}
use Rattle.atomic_pause.proofs.HeldNodes.{judged_after}
use Rattle.atomic_pause.proofs.PreparedNodes.{typed_after, all_named}
use Rattle.atomic_pause.proofs.WeakJudged.{IsMarked, both_cleared, marked_is, held_after, space_marked, space_cleared, judged_cleared}

-- ---- the roots are marked

-- marking was under way (v); first what the slots name was marked (u), then what the region's strong slots name (r), then what
-- the stack hits (w), and marking came to its end (y)
pub roots_marked : (types : List ObjectType) (slots : List (Option ℕ)) (history : List PlacedEntry) (precise : Bool) (stack : List ℕ) (v u r w y : SeatView)
    (l m o n : Marking) → IsView v → v.on ≡ true → ((p : ℕ) → Contains slots (Some p) → holds v.may p ≡ true) → ListsMarks v l u m
    → ((p : ℕ) → Contains slots (Some p) → holds u.marked p ≡ true)
    → ((p : ℕ) → holds u.marked p ≡ true → (holds v.marked p ≡ true) ⊎ Contains slots (Some p)) → ListsMarks (with_may u r.may) m r o
    → ((x p : ℕ) → strong_place history x ≡ Some p → holds r.marked p ≡ true)
    → ((p : ℕ) → holds r.marked p ≡ true → (holds u.marked p ≡ true) ⊎ IsSharedPlace history p) → ListsMarks (with_may r w.may) o w n
    → ((p : ℕ) → IsScanned precise r.bodies stack p → holds w.marked p ≡ true)
    → ((p : ℕ) → holds w.marked p ≡ true → (holds r.marked p ≡ true) ⊎ IsScanned precise r.bodies stack p)
    → MarksReachable types (IsMarkedIn w) (IsMarkedIn w) w y
    → MarksReachable types (IsRootPlace slots history precise v.bodies stack) (IsMayOrRoot history precise v stack) v y
roots_marked types slots history precise stack v u r w y l m o n view on slots_may visit slots_in only_slots share shared_in only_shared scan hits_in only_hits ends =
    let same : r.bodies ≡ v.bodies = ap (λ (z : SeatView). z.bodies) share.view ∙ ap (λ (z : SeatView). z.bodies) visit.view in
    record {
      heap = ends.heap ∙ ap (λ (z : SeatView). z.heap) scan.view ∙ ap (λ (z : SeatView). z.heap) share.view ∙ ap (λ (z : SeatView). z.heap) visit.view;
      known = ends.known ∙ ap (λ (z : SeatView). z.types) scan.view ∙ ap (λ (z : SeatView). z.types) share.view ∙ ap (λ (z : SeatView). z.types) visit.view;
      off = ends.off;
      bodies = ends.bodies ∙ ap (λ (z : SeatView). z.bodies) scan.view ∙ same;
      roots = λ p root. ends.roots p (elim root [
        | inl slot ↦ scan.marked p (share.marked p (slots_in p slot))
        | inr other ↦ elim other [
          | inl shared ↦ scan.marked p (shared_in shared.0 p shared.1)
          | inr hit ↦ hits_in p (subst (λ bs. IsScanned precise bs stack p) (sym same) hit)
        ]
      ]);
      closed = ends.closed;
      least = λ test closed held p marked. ends.least test closed (λ q early. held q (elim (only_hits q early) [
        | inl before ↦ elim (only_shared q before) [
          | inl earlier ↦ inl (elim (only_slots q earlier) [ inl first ↦ (view.marking on).marked_in q first | inr slot ↦ slots_may q slot ])
          | inr shared ↦ inr (inl shared)
        ]
        | inr hit ↦ inr (inr (subst (λ bs. IsScanned precise bs stack q) same hit))
      ])) p marked;
      dead = ends.dead;
    }

-- and nothing was traced meanwhile
pub traced_so_far : (v u r w : SeatView) (l m o n : Marking) → ListsMarks v l u m → ListsMarks (with_may u r.may) m r o → ListsMarks (with_may r w.may) o w n
    → traced_count w ≡ traced_count v
traced_so_far v u r w l m o n visit share scan =
    ap (count_by (λ (b : Body). holds w.traced b.place))
    (ap (λ (z : SeatView). z.bodies) scan.view ∙ ap (λ (z : SeatView). z.bodies) share.view ∙ ap (λ (z : SeatView). z.bodies) visit.view)
    ∙ ap (λ ts. count_by (λ (b : Body). holds ts b.place) v.bodies) (scan.traced ∙ share.traced ∙ visit.traced)

-- ---- after weak clearing prefinalizers can run

-- the fields of nodes are those of their types, whatever callbacks there are
types_alone : (setup other : Setup) (nodes : List Node) → other.types ≡ setup.types → AreTyped setup nodes → AreTyped other nodes
types_alone setup other nodes same typed =
    All-weaker (IsTyped setup (length nodes)) (IsTyped other (length nodes))
    (λ x t. record {
      ty = subst (λ (ts : List ObjectType). x.object.ty < length ts) (sym same) t.ty;
      kinds_are = t.kinds_are ∙ ap (λ (ts : List ObjectType). (kinds_at ts x.object.ty)) (sym same);
      values_are = t.values_are;
      count = t.count;
    }) nodes typed where
      kinds_at : List ObjectType → ℕ → List Kind
      kinds_at ts ty = (get_or ts ty no_type).kinds

pub prepared : (space : SpaceView) (types : List ObjectType) (callbacks : List ActionKind) (nodes : List Node) (root may : ℕ → Type 0) (v y : SeatView)
    → AreOfValid (setup_in_space space types callbacks) nodes → v.types ≡ types → IsSpaceOf space v → v.dead ≡ [] → IsHeld nodes v → length nodes ≤ most_nodes
    → MarksReachable types root may v y → IsPrepared space types (both_cleared y) (nodes_after (kept_of (holds y.marked) nodes) nodes)
prepared space types callbacks nodes root may v y valid known laid none held few marks =
    let setup : Setup = setup_in_space space types callbacks in
    let kept : List Bool = kept_of (holds y.marked) nodes in
    let is : IsMarked setup nodes y = marked_is setup nodes root may v y valid known none held marks in
    record {
      known = marks.known ∙ known;
      laid = space_cleared space y (space_marked space types root may v y marks laid);
      off = marks.off;
      held = held_after setup nodes y is;
      few = omega (arith, few, length-after kept nodes);
      typed = types_alone setup (setup_in_space space types []) (nodes_after kept nodes) refl (typed_after setup kept nodes is.known.typed);
      named = all_named setup kept nodes is.known (none_dead nodes v held none);
      judged = judged_cleared y (judged_after types root may v y marks);
    }

stands_on : (flag : Bool) (l : Life) → (l ≡ Gone → ⊥) → judged flag l ≡ Gone → ⊥
stands_on true l there gone = there gone
stands_on false Live there gone = cc
stands_on false Dead there gone = cc
stands_on false Gone there gone = there refl

-- what is registered stands where it stood
pub registered_after : (kept : List Bool) (nodes : List Node) (callbacks : ℕ) (e : Registered) → IsRegistered nodes callbacks e → IsRegistered (nodes_after kept nodes) callbacks e
registered_after kept nodes callbacks e is = record {
  stands = record {
    there = omega (arith, is.stands.there, length-after kept nodes);
    place_is = place-after kept nodes e.node ∙ is.stands.place_is;
    not_gone = λ gone. stands_on (has kept e.node) (node_at nodes e.node).life is.stands.not_gone
        (sym (life-after kept nodes e.node ∙ life-condemn kept nodes e.node) ∙ gone);
  };
  known = is.known;
}

-- ---- the counts

-- few enough to count
pub few_kept : (nodes : List Node) (v y : SeatView) (count : ℕ) → IsHeld nodes v → y.bodies ≡ v.bodies → length nodes ≤ most_nodes → count ≡ marked_count y → count < 2 ^ 32
few_kept nodes v y count held same few marked =
    let bodies : length y.bodies ≡ objects_of nodes = ap length (same ∙ held.bodies) ∙ length-bodies (place_of nodes) 0 nodes in
    omega (
      arith,
      marked,
      count_by-le-length (λ (b : Body). holds y.marked b.place) y.bodies,
      bodies,
      count_by-le-length (λ (x : Node). is_there x.life) nodes,
      few,
    )

-- no more than there are objects
pub none_missing : (v y : SeatView) (objects count : ℕ) → y.bodies ≡ v.bodies → count ≡ marked_count y → objects ≡ length v.bodies → count ≤ objects
none_missing v y objects count same marked all =
    omega (arith, marked, all, count_by-le-length (λ (b : Body). holds y.marked b.place) y.bodies, ap length same)

-- as many nodes live after the pause as bodies were marked
pub kept_count : (nodes new : List Node) (root may : ℕ → Type 0) (types : List ObjectType) (v y : SeatView) → IsHeld nodes v → v.dead ≡ []
    → MarksReachable types root may v y → HaveStayed (nodes_after (kept_of (holds y.marked) nodes) nodes) new → marked_count y ≡ live_count new
kept_count nodes new root may types v y held none marks stayed =
    let kept : List Bool = kept_of (holds y.marked) nodes in
    ap (count_by (λ (b : Body). holds y.marked b.place)) (marks.bodies ∙ held.bodies)
    ∙ sym (live-condemn (place_of nodes) 0 (holds y.marked) nodes (none_dead nodes v held none)) ∙ sym (live-after kept nodes)
    ∙ sym (count-stays is_live (nodes_after kept nodes) new stayed.count stayed.life)

-- and the others are dead
pub dead_left : (nodes : List Node) (v : SeatView) (objects kept : ℕ) → IsHeld nodes v → objects ≡ length v.bodies → kept ≡ live_count nodes → objects - kept ≡ dead_count nodes
dead_left nodes v objects kept held all live =
    let there : length (bodies_of nodes) ≡ objects_of nodes = length-bodies (place_of nodes) 0 nodes in
    omega (arith, all, live, ap length held.bodies, there, live_and_dead nodes)

-- weak clearing leaves the lives, so that the same prefinalizers run
same_deaths : (kept : List Bool) (nodes : List Node) (r : Registration) → dies (nodes_after kept nodes) r ≡ dies (condemn kept nodes) r
same_deaths kept nodes r = ap is_dead (life-after kept nodes r.node)

same_order : (kept : List Bool) (nodes : List Node) (rs : List Registration) → run_order (nodes_after kept nodes) rs ≡ run_order (condemn kept nodes) rs
same_order kept nodes rs = ap reverse (filter_agree (dies (nodes_after kept nodes)) (dies (condemn kept nodes)) (same_deaths kept nodes) rs)

same_left : (kept : List Bool) (nodes : List Node) (entries : List Registered) → entries_left (nodes_after kept nodes) entries ≡ entries_left (condemn kept nodes) entries
same_left kept nodes entries =
    filter_agree (λ e. not (dies (nodes_after kept nodes) (registration_of e))) (λ e. not (dies (condemn kept nodes) (registration_of e)))
    (λ e. ap not (same_deaths kept nodes (registration_of e))) entries

-- what was kept, and what callbacks made of it
pub paused_is : (callbacks : List ActionKind) (types : List ObjectType) (least most : List ℕ) (kept : List Bool) (old judged_nodes new : List Node)
    (before after : RegistryView) (weak_after : WeakRegistryView) → IsKeptBetween old least most kept → judged_nodes ≡ nodes_after kept old
    → new
    ≡ prefinalised callbacks (run_order judged_nodes (registrations_of before.entries))
    (called callbacks (weak_calls types (condemn kept old)) judged_nodes)
    → HaveStayed judged_nodes new → after.entries ≡ entries_left judged_nodes before.entries → after.ran ≡ pairs_run judged_nodes before.entries
    → AreOfHolders types new weak_after.entries → weak_after.ran ≡ map pair_called (weak_calls types (condemn kept old))
    → IsPaused callbacks types least most old new before after weak_after
paused_is callbacks types least most kept old judged_nodes new before after weak_after between is nodes stayed left ran weak_left weak_ran =
    let calls : List WeakCall = weak_calls types (condemn kept old) in
    let order : (ns : List Node) → ns ≡ nodes_after kept old → run_order ns (registrations_of before.entries) ≡ run_order (condemn kept old) (registrations_of before.entries) =
    λ ns same. ap (λ (ms : List Node). run_order ms (registrations_of before.entries)) same ∙ same_order kept old (registrations_of before.entries) in
    record {
      kept = kept;
      between = between;
      nodes_are = nodes ∙ ap (λ rs. prefinalised callbacks rs (called callbacks calls judged_nodes)) (order judged_nodes is)
          ∙ ap (λ (ns : List Node). prefinalised callbacks (run_order (condemn kept old) (registrations_of before.entries)) (called callbacks calls ns)) is;
      stayed = subst (λ (ns : List Node). HaveStayed ns new) is stayed;
      left = left ∙ ap (λ (ns : List Node). entries_left ns before.entries) is ∙ same_left kept old before.entries;
      ran = ran ∙ ap (λ rs. map pair_of rs) (order judged_nodes is);
      weak_left = weak_left;
      weak_ran = weak_ran;
    }
