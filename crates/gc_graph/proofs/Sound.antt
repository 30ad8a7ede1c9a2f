-- A valid state, told slot by slot: what each handle names is live, and while marking goes on each root may be kept.
use Rattle.std.proofs.Common.{◌≡◌, ℕ, ◌+◌, ◌≤◌, ◌==◌, Bool, true, true≢false, List, [], ◌∷◌, ◌++◌, length, All, Option, Some, None, refl, sym, subst, inl, inr, eqb-true, eq-eqb, ◌≢◌}
use Rattle.std.specs.Prelude.{⊤}
use Rattle.std.specs.List.{list_any}
use Rattle.std.proofs.lemmas.Bool.{or_cases, or_left, or_right, cases_lt}
use Rattle.std.proofs.lemmas.List.{get_or_past}
use Rattle.std.proofs.lemmas.List.Elements.{All-nil, All-cons, All-head, All-tail, All-append}
use Rattle.gc_graph.specs.declared.phase.Phase.{Phase}
use Rattle.gc_graph.specs.declared.phase.Phase.TheVariants.{Idle, Marking, Sweeping}
use Rattle.gc_graph.specs.Graph.{IsIn}
use Rattle.gc_graph.specs.Reach.{HoldsAll}
use Rattle.gc_graph.specs.State.{Setup, State, Node, no_node, StackWord, RegionSlot, Registration, node_at, IsLive, size_of, roots_of, slot_targets, stack_targets, strong_region_targets}
use Rattle.gc_graph.specs.State.StackWord.{Pointer, Number}
use Rattle.gc_graph.specs.State.RegionSlot.{Vacant, StrongTo, WeakTo}
use Rattle.gc_graph.specs.Pages.{ArePure}
use Rattle.gc_graph.specs.Valid.{HaveKinds, IsPlainWord, IsTyped, NamesLive, IsThere, AreApart, word_count, region_targets, IsSettled, HasMay, IsValid}
use Rattle.gc_graph.proofs.Follows.{AllFollow, closed_from, follow_from}

abbrev pub SlotNames : (ℕ → Type 0) → Option ℕ → Type 0
SlotNames P None = ⊤
SlotNames P (Some n) = P n

abbrev pub WordNames : (ℕ → Type 0) → StackWord → Type 0
WordNames P (Pointer n offset) = P n
WordNames P (Number w) = ⊤

abbrev pub RegionNames : (ℕ → Type 0) → (ℕ → Type 0) → RegionSlot → Type 0
RegionNames P Q Vacant = ⊤
RegionNames P Q (StrongTo n) = P n
RegionNames P Q (WeakTo n) = Q n

-- where marking goes on the node may be kept
abbrev pub MayHas : Phase → List Bool → ℕ → Type 0
MayHas Idle may n = ⊤
MayHas Marking may n = IsIn may n
MayHas Sweeping may n = ⊤

-- what a root names
pub record IsRoot (nodes : List Node) (phase : Phase) (may : List Bool) (n : ℕ) : Type 0 where
  pub live : IsLive nodes n
  pub in_may : MayHas phase may n

pub record IsHeap (setup : Setup) (nodes : List Node) : Type 0 where
  pub typed : All (IsTyped setup (length nodes)) nodes
  pub named : (n : ℕ) → IsLive nodes n → All (NamesLive nodes) (node_at nodes n).object.values
  pub apart : (m n : ℕ) → m ≢ n → IsThere nodes m → IsThere nodes n → AreApart (node_at nodes m) (node_at nodes n)
  pub within : (n : ℕ) → IsThere nodes n → (node_at nodes n).place + size_of (node_at nodes n) ≤ word_count setup.shape
  pub pure : ArePure setup.shape.page_words nodes

pub record IsFollowed (nodes : List Node) (may : List Bool) : Type 0 where
  pub follows : AllFollow nodes may
  pub live : (n : ℕ) → IsIn may n → IsLive nodes n
  pub whole : length may ≡ length nodes

abbrev pub MayFollows : Phase → List Node → List Bool → Type 0
MayFollows Idle nodes may = ⊤
MayFollows Marking nodes may = IsFollowed nodes may
MayFollows Sweeping nodes may = ⊤

pub record IsSoundAs
    (setup : Setup) (nodes : List Node) (phase : Phase) (cursor : ℕ) (marked : List Bool) (strong : List (Option ℕ)) (feeble : List (Option ℕ))
    (words : List StackWord) (shared : List RegionSlot) (callbacks : List Registration) : Type 0 where
  pub heap : IsHeap setup nodes
  pub slots : All (SlotNames (IsRoot nodes phase marked)) strong
  pub weak : All (SlotNames (IsLive nodes)) feeble
  pub stack : All (WordNames (IsRoot nodes phase marked)) words
  pub region : All (RegionNames (IsRoot nodes phase marked) (IsLive nodes)) shared
  pub registered : All (λ r. IsLive nodes r.node) callbacks
  pub settled : IsSettled setup.shape phase cursor nodes
  pub may : MayFollows phase nodes marked

abbrev pub IsSound : Setup → State → Type 0
IsSound setup s = IsSoundAs setup s.nodes s.phase s.cursor s.may s.slots s.weak s.stack s.region s.registrations

-- ---- lists of targets, and slots

module _ (P : ℕ → Type 0) where
  pub slots_from : (slots : List (Option ℕ)) → All P (slot_targets slots) → All (SlotNames P) slots
  slots_from [] h = All-nil (SlotNames P)
  slots_from (None ∷ slots) h = All-cons (SlotNames P) None slots tt (slots_from slots h)
  slots_from (Some n ∷ slots) h = All-cons (SlotNames P) (Some n) slots (All-head P n _ h) (slots_from slots (All-tail P n _ h))

  pub slots_to : (slots : List (Option ℕ)) → All (SlotNames P) slots → All P (slot_targets slots)
  slots_to [] h = All-nil P
  slots_to (None ∷ slots) h = slots_to slots (All-tail (SlotNames P) None slots h)
  slots_to (Some n ∷ slots) h = All-cons P n _ (All-head (SlotNames P) (Some n) slots h) (slots_to slots (All-tail (SlotNames P) (Some n) slots h))

  pub words_from : (stack : List StackWord) → All P (stack_targets stack) → All (WordNames P) stack
  words_from [] h = All-nil (WordNames P)
  words_from (Number w ∷ stack) h = All-cons (WordNames P) (Number w) stack tt (words_from stack h)
  words_from (Pointer n o ∷ stack) h = All-cons (WordNames P) (Pointer n o) stack (All-head P n _ h) (words_from stack (All-tail P n _ h))

  pub words_to : (stack : List StackWord) → All (WordNames P) stack → All P (stack_targets stack)
  words_to [] h = All-nil P
  words_to (Number w ∷ stack) h = words_to stack (All-tail (WordNames P) (Number w) stack h)
  words_to (Pointer n o ∷ stack) h =
      All-cons P n _ (All-head (WordNames P) (Pointer n o) stack h) (words_to stack (All-tail (WordNames P) (Pointer n o) stack h))

  pub strong_to : (Q : ℕ → Type 0) (region : List RegionSlot) → All (RegionNames P Q) region → All P (strong_region_targets region)
  strong_to Q [] h = All-nil P
  strong_to Q (Vacant ∷ region) h = strong_to Q region (All-tail (RegionNames P Q) Vacant region h)
  strong_to Q (WeakTo n ∷ region) h = strong_to Q region (All-tail (RegionNames P Q) (WeakTo n) region h)
  strong_to Q (StrongTo n ∷ region) h =
      All-cons P n _ (All-head (RegionNames P Q) (StrongTo n) region h) (strong_to Q region (All-tail (RegionNames P Q) (StrongTo n) region h))

  pub region_to : (region : List RegionSlot) → All (RegionNames P P) region → All P (region_targets region)
  region_to [] h = All-nil P
  region_to (Vacant ∷ region) h = region_to region (All-tail (RegionNames P P) Vacant region h)
  region_to (WeakTo n ∷ region) h =
      All-cons P n _ (All-head (RegionNames P P) (WeakTo n) region h) (region_to region (All-tail (RegionNames P P) (WeakTo n) region h))
  region_to (StrongTo n ∷ region) h =
      All-cons P n _ (All-head (RegionNames P P) (StrongTo n) region h) (region_to region (All-tail (RegionNames P P) (StrongTo n) region h))

pub region_from : (P Q : ℕ → Type 0) (region : List RegionSlot) → All Q (region_targets region) → All P (strong_region_targets region)
    → All (RegionNames (λ n. Q n × P n) Q) region
region_from P Q [] h k = All-nil (RegionNames (λ n. Q n × P n) Q)
region_from P Q (Vacant ∷ region) h k = All-cons (RegionNames (λ n. Q n × P n) Q) Vacant region tt (region_from P Q region h k)
region_from P Q (WeakTo n ∷ region) h k =
    All-cons (RegionNames (λ n. Q n × P n) Q) (WeakTo n) region (All-head Q n _ h) (region_from P Q region (All-tail Q n _ h) k)
region_from P Q (StrongTo n ∷ region) h k =
    All-cons (RegionNames (λ n. Q n × P n) Q) (StrongTo n) region (All-head Q n _ h, All-head P n _ k)
    (region_from P Q region (All-tail Q n _ h) (All-tail P n _ k))

-- what holds of what one slot names may be made of another fact
pub slot_weaker : (P Q : ℕ → Type 0) → ((n : ℕ) → P n → Q n) → (slot : Option ℕ) → SlotNames P slot → SlotNames Q slot
slot_weaker P Q f None h = tt
slot_weaker P Q f (Some n) h = f n h

pub word_weaker : (P Q : ℕ → Type 0) → ((n : ℕ) → P n → Q n) → (word : StackWord) → WordNames P word → WordNames Q word
word_weaker P Q f (Pointer n o) h = f n h
word_weaker P Q f (Number w) h = tt

pub region_weaker : (P Q R S : ℕ → Type 0) → ((n : ℕ) → P n → R n) → ((n : ℕ) → Q n → S n) → (slot : RegionSlot) → RegionNames P Q slot → RegionNames R S slot
region_weaker P Q R S f g Vacant h = tt
region_weaker P Q R S f g (StrongTo n) h = f n h
region_weaker P Q R S f g (WeakTo n) h = g n h

-- ---- a set holds all roots

-- what holds of each root holds of what is found among them
pub found : (P : ℕ → Type 0) (roots : List ℕ) → All P roots → (n : ℕ) → list_any (λ r. r == n) roots ≡ true → P n
found P [] h n e = absurd (true≢false (sym e))
found P (r ∷ roots) h n e =
    elim (or_cases (r == n) (list_any (λ x. x == n) roots) e) [
      | inl here ↦ subst P (eqb-true r n here) (All-head P r roots h)
      | inr rest ↦ found P roots (All-tail P r roots h) n rest
    ]

pub held_to : (set : List Bool) (roots : List ℕ) → HoldsAll set roots → All (IsIn set) roots
held_to set [] h = All-nil (IsIn set)
held_to set (r ∷ roots) h =
    All-cons (IsIn set) r roots (h r (or_left (r == r) _ (eq-eqb r r refl))) (held_to set roots (λ n e. h n (or_right (r == n) _ e)))

pub all_left : (P : ℕ → Type 0) (xs ys : List ℕ) → All P (xs ++ ys) → All P xs
all_left P [] ys h = All-nil P
all_left P (x ∷ xs) ys h = All-cons P x xs (All-head P x _ h) (all_left P xs ys (All-tail P x _ h))

pub all_right : (P : ℕ → Type 0) (xs ys : List ℕ) → All P (xs ++ ys) → All P ys
all_right P [] ys h = h
all_right P (x ∷ xs) ys h = all_right P xs ys (All-tail P x _ h)

-- ---- between a valid state and a sound one

pub kinds_at : (setup : Setup) (nodes : List Node) → All (IsTyped setup (length nodes)) nodes → (m : ℕ)
    → HaveKinds (length nodes) (node_at nodes m).object.kinds (node_at nodes m).object.values
kinds_at setup nodes typed m =
    elim (cases_lt m (length nodes)) [
      | inl l ↦ (typed m no_node l).values_are
      | inr p ↦
          subst (λ node. HaveKinds (length nodes) node.object.kinds node.object.values) (sym (get_or_past nodes m no_node p)) (All-nil IsPlainWord)
    ]

roots_in : (phase : Phase) (s : State) → HasMay phase s → All (MayHas phase s.may) (roots_of s)
roots_in Idle s h = λ k d l. tt
roots_in Marking s h = held_to s.may (roots_of s) h.roots
roots_in Sweeping s h = λ k d l. tt

follows_in : (phase : Phase) (setup : Setup) (s : State) → All (IsTyped setup (length s.nodes)) s.nodes → HasMay phase s → MayFollows phase s.nodes s.may
follows_in Idle setup s typed h = tt
follows_in Marking setup s typed h =
    record { follows = follow_from s.nodes s.may (λ m. (length s.nodes, kinds_at setup s.nodes typed m)) h.closed; live = h.live; whole = h.whole }
follows_in Sweeping setup s typed h = tt

may_from : (phase : Phase) (s : State) → All (MayHas phase s.may) (roots_of s) → MayFollows phase s.nodes s.may → HasMay phase s
may_from Idle s r h = tt
may_from Marking s r h = record { closed = closed_from s.nodes s.may h.follows; roots = found (IsIn s.may) (roots_of s) r; live = h.live; whole = h.whole }
may_from Sweeping s r h = tt

both_root : (nodes : List Node) (phase : Phase) (may : List Bool) (targets : List ℕ) → All (IsLive nodes) targets → All (MayHas phase may) targets
    → All (IsRoot nodes phase may) targets
both_root nodes phase may targets h g k d l = record { live = h k d l; in_may = g k d l }

pub sound_from : (setup : Setup) (s : State) → IsValid setup s → IsSound setup s
sound_from setup s v =
    let roots : All (MayHas s.phase s.may) (roots_of s) = roots_in s.phase s v.may_kept in
    let front : All (MayHas s.phase s.may) (slot_targets s.slots ++ stack_targets s.stack) =
    all_left (MayHas s.phase s.may) _ (strong_region_targets s.region) roots in
    record {
      heap = record { typed = v.typed; named = v.named; apart = v.apart; within = v.within; pure = v.pure };
      slots = slots_from (IsRoot s.nodes s.phase s.may) s.slots
          (both_root s.nodes s.phase s.may _ v.slots (all_left (MayHas s.phase s.may) (slot_targets s.slots) _ front));
      weak = slots_from (IsLive s.nodes) s.weak v.weak;
      stack = words_from (IsRoot s.nodes s.phase s.may) s.stack
          (both_root s.nodes s.phase s.may _ v.stack (all_right (MayHas s.phase s.may) (slot_targets s.slots) _ front));
      region = λ k d l.
          region_weaker (λ n. IsLive s.nodes n × MayHas s.phase s.may n) (IsLive s.nodes) (IsRoot s.nodes s.phase s.may) (IsLive s.nodes)
          (λ n h. record { live = h.0; in_may = h.1 }) (λ n h. h) _
          (region_from (MayHas s.phase s.may) (IsLive s.nodes) s.region v.region
          (all_right (MayHas s.phase s.may) (slot_targets s.slots ++ stack_targets s.stack) (strong_region_targets s.region) roots) k d l);
      registered = v.registered;
      settled = v.settled;
      may = follows_in s.phase setup s v.typed v.may_kept;
    }

pub valid_from : (setup : Setup) (s : State) → IsSound setup s → IsValid setup s
valid_from setup s g =
    let root = IsRoot s.nodes s.phase s.may in
    let slots : All root (slot_targets s.slots) = slots_to root s.slots g.slots in
    let stack : All root (stack_targets s.stack) = words_to root s.stack g.stack in
    let strong : All root (strong_region_targets s.region) = strong_to root (IsLive s.nodes) s.region g.region in
    record {
      typed = g.heap.typed;
      named = g.heap.named;
      apart = g.heap.apart;
      within = g.heap.within;
      pure = g.heap.pure;
      slots = λ k d l. (slots k d l).live;
      weak = slots_to (IsLive s.nodes) s.weak g.weak;
      stack = λ k d l. (stack k d l).live;
      region = region_to (IsLive s.nodes) s.region
          (λ k d l. region_weaker root (IsLive s.nodes) (IsLive s.nodes) (IsLive s.nodes) (λ n h. h.live) (λ n h. h) _ (g.region k d l));
      registered = g.registered;
      settled = g.settled;
      may_kept = may_from s.phase s
          (All-append (MayHas s.phase s.may) (slot_targets s.slots ++ stack_targets s.stack) _
          (All-append (MayHas s.phase s.may) (slot_targets s.slots) _ (λ k d l. (slots k d l).in_may) (λ k d l. (stack k d l).in_may))
          (λ k d l. (strong k d l).in_may))
          g.may;
    }
