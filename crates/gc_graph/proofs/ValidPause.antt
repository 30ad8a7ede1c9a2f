-- A pause keeps a state sound.
use Rattle.std.proofs.Common.{◌≡◌, ℕ, ◌+◌, ◌*◌, ◌/◌, ◌%◌, ◌<◌, ◌==◌, not, Bool, true, false, List, [], ◌∷◌, ◌++◌, length, map, All, Option, Some, None, refl, sym, subst, arith, if◌then◌else◌}
use Rattle.std.specs.Prelude.{⊤}
use Rattle.std.specs.List.{range_with_len}
use Rattle.std.proofs.lemmas.Bool.{cond_both}
use Rattle.std.proofs.lemmas.List.{length-map}
use Rattle.std.proofs.lemmas.List.Elements.{All-nil, All-cons, All-head, All-tail, All-map, All-append, All-filter, filter_passes}
use Rattle.gc_graph.specs.declared.command.Want.{Want}
use Rattle.gc_graph.specs.declared.command.Want.TheVariants.{Precise, Conservative}
use Rattle.gc_graph.specs.declared.phase.Phase.TheVariants.{Sweeping}
use Rattle.gc_graph.specs.Graph.{Object, IsIn}
use Rattle.gc_graph.specs.Reach.{Reach, AreNodes, IsLeastClosed}
use Rattle.gc_graph.specs.State.{Setup, State, Node, StackWord, RegionSlot, IsLive, graph_of, roots_of, slot_targets, stack_targets, strong_region_targets}
use Rattle.gc_graph.specs.State.StackWord.{Pointer, Number}
use Rattle.gc_graph.specs.State.RegionSlot.{Vacant, StrongTo, WeakTo}
use Rattle.gc_graph.specs.May.{is_hit, hits_for}
use Rattle.gc_graph.specs.History.{weak_target, cleared_by}
use Rattle.gc_graph.specs.Pause.{IsKept, condemn, is_dead_at, clear_slot, names_dead_node, mask_of, dies, run_order, prefinalised, clear_fields}
use Rattle.gc_graph.specs.WeakCalls.{weak_calls, called}
use Rattle.gc_graph.specs.Paused.{paused}
use Rattle.gc_graph.proofs.Called.{range_below}
use Rattle.gc_graph.proofs.Reaching.{reach_law}
use Rattle.gc_graph.proofs.RegionLaws.{lowest_flag, other_flags}
use Rattle.gc_graph.proofs.Follows.{AllFollow, follow_from}
use Rattle.gc_graph.proofs.Sound.{SlotNames, WordNames, RegionNames, slots_from, slots_to, words_from, words_to, strong_to, found, held_to, all_left, all_right, kinds_at, IsRoot, IsSound}
use Rattle.gc_graph.proofs.WeakReads.{refers_within}
use Rattle.gc_graph.specs.NodeNumbers.{live_below}
use Rattle.gc_graph.proofs.NodeWrites.{LookSame, look_more, live_after}
use Rattle.gc_graph.proofs.Condemned.{stays, lives_on, cleared_look, cleared_heap}
use Rattle.gc_graph.proofs.Prefinalising.{StaysInOrder, callbacks_kept}
use Rattle.gc_graph.proofs.ValidHandles.{Root}

-- ---- what is kept

hits_below : (want : Want) (s : State) → All (λ k. k < length s.nodes) (hits_for want s)
hits_below Precise s = All-nil (λ k. k < length s.nodes)
hits_below Conservative s = All-filter (is_hit s.nodes s.stack) (λ k. k < length s.nodes) (range_with_len 0 (length s.nodes)) (range_below (length s.nodes))

pub roots_live : (setup : Setup) (s : State) → IsSound setup s → All (IsLive s.nodes) (roots_of s)
roots_live setup s g =
    All-append (IsLive s.nodes) (slot_targets s.slots ++ stack_targets s.stack) (strong_region_targets s.region)
    (All-append (IsLive s.nodes) (slot_targets s.slots) (stack_targets s.stack)
    (λ k d l. (slots_to (Root s) s.slots g.slots k d l).live) (λ k d l. (words_to (Root s) s.stack g.stack k d l).live))
    (λ k d l. (strong_to (Root s) (IsLive s.nodes) s.region g.region k d l).live)

-- the roots are kept
pub roots_kept : (setup : Setup) (s : State) (want : Want) (kept : List Bool) → IsSound setup s → IsKept s (hits_for want s) kept
    → All (IsIn kept) (roots_of s)
roots_kept setup s want kept g keeps =
    let graph : List Object = graph_of s.nodes in
    let hits : List ℕ = hits_for want s in
    let long : length graph ≡ length s.nodes = length-map s.nodes (λ (x : Node). x.object) in
    let are : AreNodes graph (roots_of s ++ hits) =
    found (λ k. k < length graph) (roots_of s ++ hits)
    (All-append (λ k. k < length graph) (roots_of s) hits
    (λ k d l. let b = live_below s.nodes _ (roots_live setup s g k d l) in omega arith)
    (λ k d l. let b = hits_below want s k d l in omega arith)) in
    let law : IsLeastClosed graph (roots_of s ++ hits) (Reach graph (roots_of s ++ hits)) =
    reach_law graph (roots_of s ++ hits) (refers_within setup s.nodes g.heap.typed) are in
    all_left (IsIn kept) (roots_of s) hits (held_to kept (roots_of s ++ hits) (λ n e. keeps.reached n (law.roots_in n e)))

-- ---- the slots of the region

module _ (flag_of : RegionSlot → Bool) (P Q : RegionSlot → Type 0) (vacant : Q Vacant) (stay : (slot : RegionSlot) → flag_of slot ≡ false → P slot → Q slot) where
  pub cleared_slots : (region : List RegionSlot) → All P region → All Q (cleared_by (mask_of (map flag_of region)) region)
  cleared_slots [] h = All-nil Q
  cleared_slots (slot ∷ region) h =
      let rest : ℕ = mask_of (map flag_of region) in
      let mask : ℕ = (if flag_of slot then 1 else 0) + 2 * rest in
      All-cons Q (if mask % 2 == 1 then Vacant else slot) (cleared_by (mask / 2) region)
      (subst (λ flag. Q (if flag then Vacant else slot)) (sym (lowest_flag (flag_of slot) rest))
      (cond_both (flag_of slot) Vacant slot Q (λ e. vacant) (λ e. stay slot e (All-head P slot region h))))
      (subst (λ m. All Q (cleared_by m region)) (sym (other_flags (flag_of slot) rest)) (cleared_slots region (All-tail P slot region h)))

abbrev pub Anyone : ℕ → Type 0
Anyone n = ⊤

pub strong_from : (P : ℕ → Type 0) (region : List RegionSlot) → All P (strong_region_targets region) → All (RegionNames P Anyone) region
strong_from P [] h = All-nil (RegionNames P Anyone)
strong_from P (Vacant ∷ region) h = All-cons (RegionNames P Anyone) Vacant region tt (strong_from P region h)
strong_from P (WeakTo n ∷ region) h = All-cons (RegionNames P Anyone) (WeakTo n) region tt (strong_from P region h)
strong_from P (StrongTo n ∷ region) h =
    All-cons (RegionNames P Anyone) (StrongTo n) region (All-head P n _ h) (strong_from P region (All-tail P n _ h))

-- ---- one handle

pub slot_both : (P Q R : ℕ → Type 0) → ((n : ℕ) → P n → Q n → R n) → (slot : Option ℕ) → SlotNames P slot → SlotNames Q slot → SlotNames R slot
slot_both P Q R f None h k = tt
slot_both P Q R f (Some n) h k = f n h k

pub word_both : (P Q R : ℕ → Type 0) → ((n : ℕ) → P n → Q n → R n) → (word : StackWord) → WordNames P word → WordNames Q word → WordNames R word
word_both P Q R f (Pointer n o) h k = f n h k
word_both P Q R f (Number w) h k = tt

weak_after : (P Q : ℕ → Type 0) (dead : ℕ → Bool) → ((n : ℕ) → P n → dead n ≡ false → Q n) → (slot : Option ℕ) → SlotNames P slot → SlotNames Q (clear_slot dead slot)
weak_after P Q dead f None h = tt
weak_after P Q dead f (Some n) h = cond_both (dead n) None (Some n) (SlotNames Q) (λ e. tt) (λ e. f n h e)

not_dead : (b : Bool) → not b ≡ true → b ≡ false
not_dead true e = sym e
not_dead false e = refl

-- ---- the pause in whole

module _ (setup : Setup) (s : State) (want : Want) (kept : List Bool) (g : IsSound setup s) (keeps : IsKept s (hits_for want s) kept) where
  abbrev pub Judged : List Node
  Judged = condemn kept s.nodes

  abbrev pub Left : List Node
  Left = prefinalised setup.callbacks (run_order Judged s.registrations) (called setup.callbacks (weak_calls setup.types Judged) (clear_fields Judged))

  follows_kept : AllFollow s.nodes kept
  follows_kept = follow_from s.nodes kept (λ m. (length s.nodes, kinds_at setup s.nodes g.heap.typed m)) keeps.closed

  pub order : StaysInOrder setup (clear_fields Judged) Left
  order =
      callbacks_kept setup setup.callbacks (weak_calls setup.types Judged) (run_order Judged s.registrations) (clear_fields Judged)
      (cleared_heap setup kept s.nodes g.heap follows_kept)

  pub look : LookSame Judged Left
  look = look_more Judged (clear_fields Judged) Left (cleared_look setup kept s.nodes g.heap follows_kept) order.look

  abbrev After : ℕ → Type 0
  After n = IsRoot Left Sweeping s.may n

  root_after : (n : ℕ) → Root s n → IsIn kept n → After n
  root_after n root i = record { live = live_after Judged Left look n (stays kept s.nodes n root.live i); in_may = tt }

  spared : (n : ℕ) → IsLive s.nodes n → is_dead_at Judged n ≡ false → IsLive Left n
  spared n live e = live_after Judged Left look n (lives_on kept s.nodes n live e)

  front_kept : All (IsIn kept) (slot_targets s.slots ++ stack_targets s.stack)
  front_kept = all_left (IsIn kept) (slot_targets s.slots ++ stack_targets s.stack) (strong_region_targets s.region) (roots_kept setup s want kept g keeps)

  region_kept : All (RegionNames (IsIn kept) Anyone) s.region
  region_kept =
      strong_from (IsIn kept) s.region
      (all_right (IsIn kept) (slot_targets s.slots ++ stack_targets s.stack) (strong_region_targets s.region) (roots_kept setup s want kept g keeps))

  abbrev Flag : RegionSlot → Bool
  Flag slot = names_dead_node (is_dead_at Judged) (weak_target slot)

  abbrev Before : RegionSlot → Type 0
  Before slot = RegionNames (Root s) (IsLive s.nodes) slot × RegionNames (IsIn kept) Anyone slot

  slot_after : (slot : RegionSlot) → Flag slot ≡ false → Before slot → RegionNames After (IsLive Left) slot
  slot_after Vacant e h = tt
  slot_after (StrongTo n) e h = root_after n h.0 h.1
  slot_after (WeakTo n) e h = spared n h.0 e

  pub pause_sound : 0 < setup.shape.pages
      → IsSound setup (paused setup s Judged)
  pause_sound pages = record {
    heap = order.heap;
    slots = λ k d l.
        slot_both (Root s) (IsIn kept) After root_after _ (g.slots k d l)
        (slots_from (IsIn kept) s.slots (all_left (IsIn kept) (slot_targets s.slots) (stack_targets s.stack) front_kept) k d l);
    weak = All-map (SlotNames (IsLive Left)) (clear_slot (is_dead_at Judged)) s.weak
        (λ k d l. weak_after (IsLive s.nodes) (IsLive Left) (is_dead_at Judged) spared _ (g.weak k d l));
    stack = λ k d l.
        word_both (Root s) (IsIn kept) After root_after _ (g.stack k d l)
        (words_from (IsIn kept) s.stack (all_right (IsIn kept) (slot_targets s.slots) (stack_targets s.stack) front_kept) k d l);
    region = cleared_slots Flag Before (RegionNames After (IsLive Left)) tt slot_after s.region (λ k d l. (g.region k d l, region_kept k d l));
    registered = λ k d l.
        spared _ (All-filter (λ r. not (dies Judged r)) (λ r. IsLive s.nodes r.node) s.registrations g.registered k d l)
        (not_dead _ (filter_passes (λ r. not (dies Judged r)) s.registrations k d l));
    settled = (pages, λ n dead. omega arith);
    may = tt;
  }
