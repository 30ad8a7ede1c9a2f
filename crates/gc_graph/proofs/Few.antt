-- How much a state can count, and that its numbers have 64 bits.
use Rattle.std.proofs.Common.{◌≡◌, ℕ, zero, suc, ◌+◌, ◌-◌, ◌*◌, ◌^◌, ◌<◌, ◌≤◌, Bool, List, [], ◌∷◌, ◌++◌, length, get_or, All, refl, sym, ap, ◌∙◌, subst, inl, inr, arith}
use mathlib.Core.Logic.{◌⊎◌}
use Rattle.std.specs.List.{Contains, slice_index}
use Rattle.std.proofs.lemmas.Bool.{cases_lt}
use Rattle.std.proofs.lemmas.Nat.{mul-le}
use Rattle.std.proofs.lemmas.List.{length-map, get_or_past}
use Rattle.std.proofs.lemmas.List.Elements.{All-nil, All-cons, All-tail, All-append, All-push, All-map, All-weaker, All-replicate}
use Rattle.gc_graph.specs.declared.command.Order.{Order}
use Rattle.gc_graph.specs.declared.line.Line.TheVariants as L
use Rattle.gc_graph.specs.declared.phase.Phase.{Phase}
use Rattle.gc_graph.specs.declared.phase.Phase.TheVariants.{Idle, Marking, Sweeping}
use Rattle.gc_graph.specs.declared.region.Entry.{Entry}
use Rattle.gc_graph.specs.declared.region.Op.{Op}
use Rattle.gc_graph.specs.declared.region.Op.TheVariants as O
use Rattle.gc_graph.specs.State.{Setup, State, Node, no_node, RegionSlot, Registration, node_at, IsLive, IsDead, empty_state}
use Rattle.gc_graph.specs.State.Life.{Dead, Gone}
use Rattle.gc_graph.specs.State.RegionSlot.{Vacant, StrongTo, WeakTo}
use Rattle.gc_graph.specs.Sweep.{SweepsInPhase, AreDeadInOrder, finalise}
use Rattle.gc_graph.specs.History.{region_slot, node_of, reply_with, reply_of, IsLegalFrom}
use Rattle.gc_graph.specs.Outcomes.{with_entry, took, AreOthers, IsThreadOp, owner_entry, finalise_lines}
use Rattle.gc_graph.specs.Lawful.{IsAllowedOrder}
use Rattle.gc_graph.specs.ReadBack.{numbers_of_op, numbers_of_reply, IsOf64Bits}
use Rattle.gc_graph.specs.NumbersLaw.{IsWithinLimits}
use Rattle.gc_graph.proofs.Sound.{IsSound}
use Rattle.gc_graph.specs.NodeNumbers.{live_below}
use Rattle.gc_graph.specs.Replays.{region_after_length}
use Rattle.gc_graph.proofs.ValidRegion.{Shares, shared_at, entry_sound, thread_may, took_own}
use Rattle.gc_graph.proofs.SmallWords.{HasSmall, finalised_small}

-- ---- short lists of numbers of 64 bits

abbrev pub Small : ℕ → Type 0
Small n = n < 2 ^ 64

pub small_none : All Small []
small_none = All-nil Small

pub small_one : (a : ℕ) → Small a → All Small (a ∷ [])
small_one a h = All-cons Small a [] h small_none

pub small_two : (a b : ℕ) → Small a → Small b → All Small (a ∷ b ∷ [])
small_two a b h k = All-cons Small a (b ∷ []) h (small_one b k)

pub small_three : (a b c : ℕ) → Small a → Small b → Small c → All Small (a ∷ b ∷ c ∷ [])
small_three a b c h k l = All-cons Small a (b ∷ c ∷ []) h (small_two b c k l)

pub small_four : (a b c d : ℕ) → Small a → Small b → Small c → Small d → All Small (a ∷ b ∷ c ∷ d ∷ [])
small_four a b c d h k l m = All-cons Small a (b ∷ c ∷ d ∷ []) h (small_three b c d k l m)

-- ---- what a state counts

-- an order waits for the thread
pub record IsQueued (queues : List (List Order)) (j : ℕ) : Type 0 where
  pub from : 1 ≤ j
  pub to : j ≤ 8
  pub some : 0 < length (get_or queues (j - 1) [])

-- the entry's numbers have 64 bits, or it is of a thread that runs, and so have those of its reply
abbrev pub IsKnown : List ℕ → Entry → Type 0
IsKnown running entry = IsOf64Bits (L.Entry entry) ⊎ (Contains running entry.thread × All Small (numbers_of_reply entry.reply))

-- of the region and the threads: 32 slots, allowed orders, 8 threads at most, and known entries
pub record IsFewShared (region : List RegionSlot) (queues : List (List Order)) (running : List ℕ) (unprinted : List Entry) : Type 0 where
  pub slots : length region ≡ 32
  pub orders : All (λ orders. All IsAllowedOrder orders) queues
  pub threads_few : length running ≤ 8
  pub threads : (j : ℕ) → Contains running j → IsQueued queues j
  pub entries : All (IsKnown running) unprinted

pub record IsFewAs
    (most_nodes most_commands most_finalised : ℕ) (nodes : List Node) (region : List RegionSlot) (registrations : List Registration)
    (queues : List (List Order)) (running : List ℕ) (unprinted : List Entry) (ordinal finalised : ℕ) : Type 0 where
  pub nodes_few : length nodes ≤ most_nodes
  pub commands_few : ordinal ≤ most_commands
  pub finalised_few : finalised ≤ most_finalised
  pub words : All HasSmall nodes
  pub callbacks : All (λ (r : Registration). Small r.callback) registrations
  pub shared : IsFewShared region queues running unprinted

abbrev pub IsFew : ℕ → ℕ → ℕ → State → Type 0
IsFew a b c s = IsFewAs a b c s.nodes s.region s.registrations s.queues s.running s.unprinted s.ordinal s.finalised

pub few_more : (a b c x y z : ℕ) (s : State) → a ≤ x → b ≤ y → c ≤ z → IsFew a b c s → IsFew x y z s
few_more a b c x y z s p q r h = record {
  nodes_few = (let l = h.nodes_few in omega arith);
  commands_few = (let l = h.commands_few in omega arith);
  finalised_few = (let l = h.finalised_few in omega arith);
  words = h.words;
  callbacks = h.callbacks;
  shared = h.shared;
}

pub empty_few : IsFew 0 0 0 empty_state
empty_few = record {
  nodes_few = omega arith;
  commands_few = omega arith;
  finalised_few = omega arith;
  words = All-nil HasSmall;
  callbacks = All-nil (λ (r : Registration). Small r.callback);
  shared = record {
    slots = refl;
    orders = All-replicate (λ orders. All IsAllowedOrder orders) 8 [] (All-nil IsAllowedOrder);
    threads_few = omega arith;
    threads = λ j h. absurd (let l = h.1 in omega arith);
    entries = All-nil (IsKnown []);
  };
}

-- ---- entries

module _ (setup : Setup) (a b c : ℕ) (small : a ≤ 1000001) where
  pub live_small : (s : State) (n : ℕ) → IsFew a b c s → IsLive s.nodes n → Small n
  live_small s n h live = (let l = live_below s.nodes n live in let m = h.nodes_few in omega arith)

  slot_small : (s : State) (slot : RegionSlot) → IsFew a b c s → Shares s slot → All Small (numbers_of_reply (reply_with (node_of slot)))
  slot_small s Vacant h names = small_none
  slot_small s (StrongTo n) h names = small_one n (live_small s n h names.live)
  slot_small s (WeakTo n) h names = small_one n (live_small s n h names)

  reply_small : (s : State) (op : Op) → IsFew a b c s → IsSound setup s → All Small (numbers_of_reply (reply_of s.region op))
  reply_small s (O.Export x n) h g = small_none
  reply_small s (O.Import x) h g = slot_small s (region_slot s.region x) h (shared_at s s.region x g.region)
  reply_small s O.Start h g = small_none
  reply_small s (O.Pause cleared) h g = small_none
  reply_small s (O.Copy x y) h g = small_none
  reply_small s (O.Clear x) h g = small_none
  reply_small s (O.Weaken x) h g = small_none
  reply_small s (O.Upgrade x y) h g = slot_small s (region_slot s.region x) h (shared_at s s.region x g.region)

  entry_few : (s : State) (entry : Entry) → IsFew a b c s → IsKnown s.running entry → IsFew a b c (with_entry s entry)
  entry_few s entry h known = record {
    nodes_few = h.nodes_few;
    commands_few = h.commands_few;
    finalised_few = h.finalised_few;
    words = h.words;
    callbacks = h.callbacks;
    shared = record {
      slots = region_after_length s.region entry.op ∙ h.shared.slots;
      orders = h.shared.orders;
      threads_few = h.shared.threads_few;
      threads = h.shared.threads;
      entries = All-push (IsKnown s.running) s.unprinted entry h.shared.entries known;
    };
  }

  -- the entries of threads that run
  pub took_few : (s : State) (entries rest : List Entry) (started : Bool) → IsFew a b c s → IsSound setup s → AreOthers s entries
      → IsLegalFrom s.region started (entries ++ rest) → IsFew a b c (took s entries)
  took_few s [] rest started h g others legal = h
  took_few s (entry ∷ entries) rest started h g others legal =
      let one : Contains s.running entry.thread × IsThreadOp entry.op = others 0 entry (omega arith) in
      took_few (with_entry s entry) entries rest _
      (entry_few s entry h (inr (one.0, subst (λ r. All Small (numbers_of_reply r)) (sym legal.0) (reply_small s entry.op h g))))
      (entry_sound setup s entry g (thread_may s entry.op one.1))
      (All-tail (λ (e : Entry). Contains s.running e.thread × IsThreadOp e.op) entry entries others) legal.2

  -- and then the owner's entry
  pub entered_few : (s : State) (before piece : List Entry) (op : Op) (started : Bool) → IsFew a b c s → IsSound setup s → IsSound setup (took s before)
      → AreOthers s before → piece ≡ before ++ owner_entry (took s before) op ∷ [] → IsLegalFrom s.region started piece
      → (IsFew a b c (took s before) → All Small (numbers_of_op op)) → IsFew a b c (with_entry (took s before) (owner_entry (took s before) op))
  entered_few s before piece op started h g sound others is legal op_small =
      let mid : State = took s before in
      let few : IsFew a b c mid = took_few s before (owner_entry mid op ∷ []) started h g others (subst (IsLegalFrom s.region started) is legal) in
      entry_few mid (owner_entry mid op) few
      (inl (All-cons Small 0 (numbers_of_op op ++ numbers_of_reply (reply_of mid.region op)) (omega arith)
      (All-append Small (numbers_of_op op) (numbers_of_reply (reply_of mid.region op)) (op_small few) (reply_small mid op few sound))))

  pub taken_few : (s : State) (before piece : List Entry) (op : Op) (started : Bool) → IsFew a b c s → IsSound setup s → IsSound setup (took s before)
      → AreOthers s before → piece ≡ before ++ owner_entry (took s before) op ∷ [] → IsLegalFrom s.region started piece
      → (IsFew a b c (took s before) → All Small (numbers_of_op op)) → IsFew a b c (took s piece)
  taken_few s before piece op started h g sound others is legal op_small =
      subst (λ (t : State). IsFew a b c t) (sym (took_own s before piece op is)) (entered_few s before piece op started h g sound others is legal op_small)

-- ---- sweeps

dead_below : (nodes : List Node) (n : ℕ) → IsDead nodes n → n < length nodes
dead_below nodes n dead =
    elim (cases_lt n (length nodes)) [
      | inl l ↦ l
      | inr p ↦ (let gone : Gone ≡ Dead = ap (λ (x : Node). x.life) (sym (get_or_past nodes n no_node p)) ∙ dead in cc)
    ]

-- places that go up from 0 or more are no fewer than their positions
place_at : (nodes : List Node) (limit : ℕ) (numbers : List ℕ) → AreDeadInOrder nodes limit numbers → (i : ℕ) → i < length numbers
    → i ≤ (node_at nodes (slice_index numbers i)).place
place_at nodes limit numbers h zero l = omega arith
place_at nodes limit numbers h (suc i) l =
    let before = place_at nodes limit numbers h i (omega arith) in
    let up = h.ascending i (suc i) (omega arith) l in
    omega arith

numbers_within : (nodes : List Node) (limit : ℕ) (numbers : List ℕ) → AreDeadInOrder nodes limit numbers → (n : ℕ) → length numbers ≡ n → n ≤ limit
numbers_within nodes limit numbers h zero e = omega arith
numbers_within nodes limit numbers h (suc m) e =
    let inside : m < length numbers = omega arith in
    let up = place_at nodes limit numbers h m inside in
    let below = (h.dead m 0 inside).below in
    omega arith

few_numbers : (nodes : List Node) (limit : ℕ) (numbers : List ℕ) → AreDeadInOrder nodes limit numbers → length numbers ≤ limit
few_numbers nodes limit numbers h = numbers_within nodes limit numbers h (length numbers) refl

pub words_within : (setup : Setup) (pages : ℕ) → IsWithinLimits setup → pages ≤ setup.shape.pages → pages * setup.shape.page_words ≤ 16777216
words_within setup pages limits most =
    let l = limits.pages in
    let w = limits.page_words in
    mul-le pages setup.shape.page_words 1024 16384 (omega arith) w

-- what a sweep leaves, and its numbers
pub record IsFewSwept (a b c : ℕ) (swept : State) (numbers : List ℕ) : Type 0 where
  pub few : IsFew a b (c + 16777216) swept
  pub small : All Small numbers

module _ (setup : Setup) (limits : IsWithinLimits setup) (a b c : ℕ) (small : a ≤ 1000001) where
  unswept : (old new : State) (numbers : List ℕ) → IsFew a b c old → numbers ≡ [] → new ≡ old → IsFewSwept a b c new numbers
  unswept old new numbers h none same =
      subst (λ (s : State). IsFewSwept a b c s numbers) (sym same)
      (subst (IsFewSwept a b c old) (sym none)
      (record { few = few_more a b c a b (c + 16777216) old (omega arith) (omega arith) (omega arith) h; small = small_none }))

  pub sweep_few : (old new : State) (phase : Phase) (pages : ℕ) (numbers : List ℕ) → IsFew a b c old → pages ≤ setup.shape.pages
      → SweepsInPhase phase setup.shape old pages numbers new → IsFewSwept a b c new numbers
  sweep_few old new Idle pages numbers h most sweep = unswept old new numbers h sweep.0 sweep.1
  sweep_few old new Marking pages numbers h most sweep = unswept old new numbers h sweep.0 sweep.1
  sweep_few old new Sweeping pages numbers h most sweep =
      let limit : ℕ = pages * setup.shape.page_words in
      let few : length numbers ≤ limit = few_numbers old.nodes limit numbers sweep.finalised in
      let most : limit ≤ 16777216 = words_within setup pages limits most in
      record {
        few = subst (λ (s : State). IsFew a b (c + 16777216) s) (sym sweep.after)
            (record {
              nodes_few = (let l = h.nodes_few in let e = length-map old.nodes (finalise limit) in omega arith);
              commands_few = h.commands_few;
              finalised_few = (let l = h.finalised_few in omega arith);
              words = finalised_small limit old.nodes h.words;
              callbacks = h.callbacks;
              shared = h.shared;
            });
        small = λ k d l. (let below = dead_below old.nodes _ (sweep.finalised.dead k d l).dead in let m = h.nodes_few in omega arith);
      }

pub finalise_numbers : (numbers : List ℕ) → All Small numbers → All IsOf64Bits (finalise_lines numbers)
finalise_numbers numbers h =
    All-map IsOf64Bits (λ n. L.Finalise n) numbers (All-weaker Small (λ n. IsOf64Bits (L.Finalise n)) (λ n l. small_one n l) numbers h)
