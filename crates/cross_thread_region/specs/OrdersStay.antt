-- For crates above: what threads' orders leave of the region. Each slot goes on to name a node that one named before, at its place, and no
-- collection is started or ended.
use Rattle.std.proofs.Common.{◌≡◌, ◌≢◌, ℕ, suc, Bool, false, List, [], ◌∷◌, ◌++◌, length, replicate, get_or, Some, All, refl, sym, ap, ◌∙◌, subst}
use Rattle.std.proofs.lemmas.List.{map-append}
use Rattle.std.proofs.lemmas.List.Elements.{All-contains, All-cons, All-nil, All-head, All-tail}
use Rattle.gc_graph.specs.declared.region.Entry.{Entry}
use Rattle.gc_graph.specs.declared.region.Op.{Op}
use Rattle.gc_graph.specs.declared.region.Op.TheVariants as O
use Rattle.gc_graph.specs.History.{IsLegal, IsLegalFrom, node_of, region_after, region_slot, replayed, started_after, started_through}
use Rattle.gc_graph.specs.Outcomes.{IsThreadOp}
use Rattle.gc_graph.specs.Replays.{replayed-append, started-append}
use Rattle.gc_graph.specs.State.{Node, RegionSlot, IsLive}
use Rattle.gc_graph.specs.State.RegionSlot.{Vacant, StrongTo, WeakTo}
use Rattle.gc_graph.specs.Valid.{AreLive, region_targets}
use Rattle.cross_thread_region.specs.declared.chronicle.PlacedEntry.{PlacedEntry}
use Rattle.cross_thread_region.specs.Calls.{AreByRight, Continues, PassView}
use Rattle.cross_thread_region.specs.GivenPlaces.{AreGiven, history_given, places_len}
use Rattle.cross_thread_region.specs.Histories.{entries_of, is_started, slots_of, places_in_history, places_with, places_through, IsPlacedBy}
use Rattle.cross_thread_region.specs.NextEntries.{slots_len}
use Rattle.cross_thread_region.specs.PlacedNodes.{named_is_target}

-- ---- two pieces of a history

pub slots_on : (xs ys : List PlacedEntry) → slots_of (xs ++ ys) ≡ replayed (slots_of xs) (entries_of ys)
slots_on xs ys =
    ap (replayed (replicate 32 Vacant)) (map-append (λ (p : PlacedEntry). p.entry) xs ys)
    ∙ replayed-append (replicate 32 Vacant) (entries_of xs) (entries_of ys)

through_on : (places : List ℕ) (xs ys : List PlacedEntry) → places_through places (xs ++ ys) ≡ places_through (places_through places xs) ys
through_on places [] ys = refl
through_on places (x ∷ xs) ys = through_on (places_with places x.entry.op x.place) xs ys

through_len : (places : List ℕ) (xs : List PlacedEntry) → length (places_through places xs) ≡ length places
through_len places [] = refl
through_len places (x ∷ xs) = through_len (places_with places x.entry.op x.place) xs ∙ places_len places x.entry.op x.place

-- ---- slots of live nodes

targets_from : (nodes : List Node) (region : List RegionSlot) → ((x n : ℕ) → node_of (region_slot region x) ≡ Some n → IsLive nodes n) → AreLive nodes (region_targets region)
targets_from nodes [] named = All-nil (IsLive nodes)
targets_from nodes (Vacant ∷ region) named = targets_from nodes region (λ x n e. named (suc x) n e)
targets_from nodes (StrongTo m ∷ region) named = All-cons (IsLive nodes) m (region_targets region) (named 0 m refl) (targets_from nodes region (λ x n e. named (suc x) n e))
targets_from nodes (WeakTo m ∷ region) named = All-cons (IsLive nodes) m (region_targets region) (named 0 m refl) (targets_from nodes region (λ x n e. named (suc x) n e))

-- an operation of a thread is no export
no_export : (op : Op) (x n : ℕ) → IsThreadOp op → op ≡ O.Export x n → ⊥
no_export (O.Export y m) x n is same = is
no_export (O.Import y) x n is same = cc
no_export O.Start x n is same = cc
no_export (O.Pause cleared) x n is same = cc
no_export (O.Copy y z) x n is same = cc
no_export (O.Clear y) x n is same = cc
no_export (O.Weaken y) x n is same = cc
no_export (O.Upgrade y z) x n is same = cc

-- after what threads have done the slots name live nodes, and have their places
module _ (nodes : List Node) (rule : ℕ → ℕ) (xs ys : List PlacedEntry) where
  abbrev Given : ℕ → ℕ → Type 0
  Given n place = IsLive nodes n × (place ≡ rule n)

  given_after : AreLive nodes (region_targets (slots_of xs)) → IsPlacedBy rule xs → All (λ (p : PlacedEntry). IsThreadOp p.entry.op) ys
      → AreGiven Given (replayed (slots_of xs) (entries_of ys)) (places_through (places_in_history xs) ys)
  unfolding AreGiven
  given_after live placed threads =
      history_given Given (slots_of xs) (places_in_history xs) ys (through_len (replicate 32 0) xs ∙ sym (slots_len xs))
      (λ x n e. (All-contains (IsLive nodes) (region_targets (slots_of xs)) n live (named_is_target (slots_of xs) x n e), placed x n e))
      (λ p x n there e. absurd (no_export p.entry.op x n (All-contains (λ (q : PlacedEntry). IsThreadOp q.entry.op) ys p threads there) e))

  pub live_after : AreLive nodes (region_targets (slots_of xs)) → IsPlacedBy rule xs → All (λ (p : PlacedEntry). IsThreadOp p.entry.op) ys
      → AreLive nodes (region_targets (slots_of (xs ++ ys)))
  unfolding AreGiven
  live_after live placed threads =
      subst (λ region. AreLive nodes (region_targets region)) (sym (slots_on xs ys))
      (targets_from nodes (replayed (slots_of xs) (entries_of ys)) (λ x n e. (given_after live placed threads x n e).0))

  pub placed_after : AreLive nodes (region_targets (slots_of xs)) → IsPlacedBy rule xs → All (λ (p : PlacedEntry). IsThreadOp p.entry.op) ys
      → IsPlacedBy rule (xs ++ ys)
  unfolding AreGiven
  placed_after live placed threads x n e =
      ap (λ places. get_or places x 0) (through_on (replicate 32 0) xs ys)
      ∙ (given_after live placed threads x n (ap (λ region. node_of (region_slot region x)) (sym (slots_on xs ys)) ∙ e)).1

-- ---- collections

op_starts_nothing : (started : Bool) (op : Op) → IsThreadOp op → started_after started op ≡ started
op_starts_nothing started (O.Export x n) is = absurd is
op_starts_nothing started (O.Import x) is = absurd is
op_starts_nothing started O.Start is = absurd is
op_starts_nothing started (O.Pause cleared) is = absurd is
op_starts_nothing started (O.Copy x y) is = refl
op_starts_nothing started (O.Clear x) is = refl
op_starts_nothing started (O.Weaken x) is = refl
op_starts_nothing started (O.Upgrade x y) is = refl

start_nothing : (started : Bool) (ys : List PlacedEntry) → All (λ (p : PlacedEntry). IsThreadOp p.entry.op) ys → started_through started (entries_of ys) ≡ started
start_nothing started [] orders = refl
start_nothing started (y ∷ ys) orders =
    start_nothing (started_after started y.entry.op) ys (All-tail (λ (p : PlacedEntry). IsThreadOp p.entry.op) y ys orders)
    ∙ op_starts_nothing started y.entry.op (All-head (λ (p : PlacedEntry). IsThreadOp p.entry.op) y ys orders)

-- orders start no collection and end none
pub started_on : (xs ys : List PlacedEntry) → All (λ (p : PlacedEntry). IsThreadOp p.entry.op) ys → is_started (xs ++ ys) ≡ is_started xs
started_on xs ys orders =
    ap (started_through false) (map-append (λ (p : PlacedEntry). p.entry) xs ys) ∙ started-append false (entries_of xs) (entries_of ys)
    ∙ start_nothing (is_started xs) ys orders

legal_later : (region : List RegionSlot) (started : Bool) (xs ys : List Entry) → IsLegalFrom region started (xs ++ ys)
    → IsLegalFrom (replayed region xs) (started_through started xs) ys
legal_later region started [] ys legal = legal
legal_later region started (x ∷ xs) ys legal = legal_later (region_after region x.op) (started_after started x.op) xs ys legal.2

-- what is legal as a whole is so behind its first piece
pub legal_on : (xs ys : List PlacedEntry) → IsLegal (entries_of (xs ++ ys)) → IsLegalFrom (slots_of xs) (is_started xs) (entries_of ys)
legal_on xs ys legal =
    legal_later (replicate 32 Vacant) false (entries_of xs) (entries_of ys) (subst IsLegal (map-append (λ (p : PlacedEntry). p.entry) xs ys) legal)

-- ---- what the first pass has not seen

pub all_behind : {X : Type 0} (P : X → Type 0) (xs ys : List X) → All P (xs ++ ys) → All P ys
all_behind P [] ys all = all
all_behind P (x ∷ xs) ys all = all_behind P xs ys (All-tail P x (xs ++ ys) all)

both_hold : (ys : List PlacedEntry) → All (λ (p : PlacedEntry). p.entry.thread ≢ 0) ys → AreByRight ys → All (λ (p : PlacedEntry). IsThreadOp p.entry.op) ys
both_hold ys others right k d low = right k d low (others k d low)

-- it is orders of threads
pub rest_orders : (pass : PassView) (history : List PlacedEntry) (found : Continues pass history) → pass.number ≡ 0 → AreByRight history
    → All (λ (p : PlacedEntry). IsThreadOp p.entry.op) found.rest
rest_orders pass history found first right =
    both_hold found.rest (subst (λ n. All (λ (p : PlacedEntry). p.entry.thread ≢ n) found.rest) first found.others)
    (all_behind (λ (p : PlacedEntry). p.entry.thread ≢ 0 → IsThreadOp p.entry.op) pass.seen found.rest (subst AreByRight found.all right))
