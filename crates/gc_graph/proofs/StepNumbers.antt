-- The numbers of each command's lines, and what the state counts after it.
use Rattle.std.proofs.Common.{◌≡◌, ℕ, ◌+◌, ◌*◌, ◌<◌, ◌≤◌, Bool, true, false, List, [], ◌∷◌, length, All, Option, Some, None, refl, sym, ap, ◌∙◌, subst, inl, inr, arith, if◌then◌else◌}
use mathlib.Core.Logic.{◌⊎◌}
use Rattle.std.specs.List.{Contains}
use Rattle.std.proofs.lemmas.Bool.{cond_both}
use Rattle.std.proofs.lemmas.List.{length-set, length_push}
use Rattle.std.proofs.lemmas.List.Elements.{All-nil, All-cons, All-push, All-append, All-map, All-from_get_or}
use Rattle.std.proofs.lemmas.List.Sums.{count_by-le-length, sum_by-le}
use Rattle.gc_graph.specs.declared.command.Command.{Command}
use Rattle.gc_graph.specs.declared.command.Command.TheVariants as C
use Rattle.gc_graph.specs.declared.kind.Value.TheVariants.{Word}
use Rattle.gc_graph.specs.declared.line.Line.{Line}
use Rattle.gc_graph.specs.declared.line.Line.TheVariants as L
use Rattle.gc_graph.specs.declared.line.Refusal.{Refusal}
use Rattle.gc_graph.specs.declared.phase.Phase.{Phase}
use Rattle.gc_graph.specs.declared.phase.Phase.TheVariants.{Idle, Marking, Sweeping}
use Rattle.gc_graph.specs.State.{Setup, State, Node, Registration, no_node, node_at, is_there, IsLive, size_of, objects_of, used_of, type_at}
use Rattle.gc_graph.specs.Fields.{with_value, content_of, new_node, size_of_type}
use Rattle.gc_graph.specs.Placement.{extents_of, IsPlacement, IsPlaceFor, IsUsedPages}
use Rattle.gc_graph.specs.Sweep.{SweepsInPhase}
use Rattle.gc_graph.specs.Outcomes.{answered, IsRefused, IsMemory, finalise_lines}
use Rattle.gc_graph.specs.ObjectSteps.{registrations_for, first_word, with_node, IsChanged, part_of, IsMade, IsFull, IsAllocation, StepNew}
use Rattle.gc_graph.specs.Valid.{word_count}
use Rattle.gc_graph.specs.ReadBack.{IsOf64Bits}
use Rattle.gc_graph.specs.NumbersLaw.{IsWithinLimits}
use Rattle.gc_graph.proofs.NewObjects.{nulls_all}
use Rattle.gc_graph.proofs.FreePlaces.{IsFreeAt, place_free}
use Rattle.gc_graph.proofs.Sound.{IsHeap, IsSound}
use Rattle.gc_graph.proofs.ValidCases.{option_is}
use Rattle.gc_graph.specs.Lawful.{IsAllowed}
use Rattle.gc_graph.proofs.Effects.{Effect, line_of_effect, with_effect, Fits}
use Rattle.gc_graph.proofs.Effects.Effect.{Refuses, Tells, Empties, Gets, Sets, Puts, Pairs}
use Rattle.gc_graph.proofs.SmallWords.{IsSmall, HasSmall, small_at, value_small, with_small, set_small}
use Rattle.gc_graph.proofs.Few.{Small, small_none, small_one, small_two, small_three, IsFew, few_more, live_small, words_within, IsFewSwept, sweep_few, finalise_numbers}

-- after so many commands
abbrev pub IsCounted : ℕ → State → Type 0
IsCounted k s = IsFew k k (16777216 * k) s

-- what a command may leave before it is counted
abbrev pub IsNearly : ℕ → State → Type 0
IsNearly k s = IsFew (k + 1) k (16777216 * k + 16777216) s

-- the line tells totals to a thread that runs
abbrev pub TellsTotalsTo : List ℕ → Line → Type 0
TellsTotalsTo running (L.ReplyTotals j o n u f) = Contains running j × Small j
TellsTotalsTo running other = ⊥

-- the lines have numbers of 64 bits, but for the totals that a join tells
abbrev pub HasNumbers : Command → State → List Line → Type 0
HasNumbers command old lines =
    All IsOf64Bits lines ⊎ ((command ≡ C.ThreadsJoin) × All (λ line. IsOf64Bits line ⊎ TellsTotalsTo old.running line) lines)

-- the same threads run, or none, or they were told to go
abbrev pub RunsOn : Command → State → State → Type 0
RunsOn command old new = (command ≡ C.ThreadsGo) ⊎ ((new.running ≡ old.running) ⊎ (new.running ≡ []))

pub record IsGood (k : ℕ) (command : Command) (old : State) (lines : List Line) (new : State) : Type 0 where
  pub few : IsCounted (k + 1) new
  pub numbers : HasNumbers command old lines
  pub runs : RunsOn command old new

pub answered_few : (k : ℕ) (x : State) → IsNearly k x → IsCounted (k + 1) (answered x)
answered_few k x h = record {
  nodes_few = h.nodes_few;
  commands_few = (let l = h.commands_few in omega arith);
  finalised_few = (let l = h.finalised_few in omega arith);
  words = h.words;
  callbacks = h.callbacks;
  shared = h.shared;
}

pub nearly : (k : ℕ) (x : State) → IsCounted k x → IsNearly k x
nearly k x h = few_more k k (16777216 * k) (k + 1) k (16777216 * k + 16777216) x (omega arith) (omega arith) (omega arith) h

pub good : (k : ℕ) (command : Command) (old new x : State) (lines : List Line) → x.running ≡ old.running → IsNearly k x → new ≡ answered x
    → All IsOf64Bits lines → IsGood k command old lines new
good k command old new x lines r h e l = record {
  few = subst (λ (s : State). IsCounted (k + 1) s) (sym e) (answered_few k x h);
  numbers = inl l;
  runs = inr (inl (ap (λ (s : State). s.running) e ∙ r));
}

pub swept_running : (setup : Setup) (phase : Phase) (old new : State) (pages : ℕ) (numbers : List ℕ) → SweepsInPhase phase setup.shape old pages numbers new
    → new.running ≡ old.running
swept_running setup Idle old new pages numbers h = ap (λ (s : State). s.running) h.1
swept_running setup Marking old new pages numbers h = ap (λ (s : State). s.running) h.1
swept_running setup Sweeping old new pages numbers h = ap (λ (s : State). s.running) h.after

-- ---- totals

module _ (setup : Setup) (limits : IsWithinLimits setup) (nodes : List Node) (heap : IsHeap setup nodes) where
  size_within : (i : ℕ) → (if is_there (node_at nodes i).life then size_of (node_at nodes i) else 0) ≤ 16777216
  size_within i =
      cond_both (is_there (node_at nodes i).life) (size_of (node_at nodes i)) 0 (λ n. n ≤ 16777216)
      (λ there. (let inside = heap.within i there in let most = words_within setup setup.shape.pages limits (omega arith) in omega arith))
      (λ gone. omega arith)

  pub used_within : used_of nodes ≤ length nodes * 16777216
  used_within =
      sum_by-le (λ (n : Node). if is_there n.life then size_of n else 0) 16777216 nodes
      (All-from_get_or (λ (n : Node). (if is_there n.life then size_of n else 0) ≤ 16777216) nodes no_node (λ i l. size_within i))

  pub totals_small : (pages : ℕ) → length nodes ≤ 1000001 → IsUsedPages setup.shape (extents_of nodes) pages
      → All Small (objects_of nodes ∷ used_of nodes ∷ pages ∷ [])
  totals_small pages few used =
      small_three (objects_of nodes) (used_of nodes) pages
      (let l = count_by-le-length (λ (n : Node). is_there n.life) nodes in omega arith)
      (let l = used_within in omega arith)
      (let l = count_by-le-length (λ (flag : Bool). flag) used.flags in let w = used.whole in let c = used.count in let p = limits.pages in omega arith)

-- ---- the commands on objects, slots and the stack

pub content_small : (content : Option ℕ) → IsSmall (content_of content)
content_small None = tt
content_small (Some n) = tt

part_small : (one other : Option ℕ) → IsSmall (part_of one other)
part_small None other = tt
part_small (Some n) None = tt
part_small (Some n) (Some m) = tt

module _ (setup : Setup) (limits : IsWithinLimits setup) (k : ℕ) (low : k < 1000000) (old new : State) (command : Command) (lines : List Line)
    (h : IsCounted k old) (g : IsSound setup old) where
  abbrev Good : Type 0
  Good = IsGood k command old lines new

  pub one : (line : Line) → lines ≡ line ∷ [] → IsOf64Bits line → All IsOf64Bits lines
  one line e l = subst (All IsOf64Bits) (sym e) (All-cons IsOf64Bits line [] l (All-nil IsOf64Bits))

  pub still : (x : State) (line : Line) → x.running ≡ old.running → IsCounted k x → new ≡ answered x → lines ≡ line ∷ [] → IsOf64Bits line → Good
  still x line r few e l small = good k command old new x lines r (nearly k x few) e (one line l small)

  pub refused : (why : Refusal) → IsRefused why old lines new → Good
  refused why r = still old (L.Refused why) refl h r.1 r.0 small_none

  pub memory : IsMemory old lines new → Good
  memory m = still old L.Memory refl h m.1 m.0 small_none

  -- ---- plain commands

  written : (n : ℕ) (node : Node) → HasSmall node → IsChanged old n node lines new → Good
  written n node small d =
      still (with_node old n node) L.Fine refl
      (record {
        nodes_few = (let l = h.nodes_few in let e = length-set old.nodes n node in omega arith);
        commands_few = h.commands_few;
        finalised_few = h.finalised_few;
        words = set_small old.nodes n node small h.words;
        callbacks = h.callbacks;
        shared = h.shared;
      })
      d.1 d.0 small_none

  named : (n : ℕ) → IsLive old.nodes n → Small n
  named n live = live_small setup k k (16777216 * k) (omega arith) old n h live

  pub effect_good : (types : ℕ) → IsAllowed types command → (effect : Effect) → Fits old command lines effect → lines ≡ line_of_effect effect ∷ []
      → new ≡ answered (with_effect old effect) → Good
  effect_good types a (Refuses why) fits is e = refused why (is, e)
  effect_good types a (Tells w) fits is e =
      still old (L.Word w) refl h e is
      (small_one w (subst IsSmall fits.2 (value_small (node_at old.nodes fits.0) fits.1 (small_at old.nodes fits.0 h.words))))
  effect_good types a (Empties q) fits is e = still _ L.Null refl h e is small_none
  effect_good types a (Gets true q n) fits is e = still _ (L.Node n) refl h e is (small_one n (named n (fits.node setup g)))
  effect_good types a (Gets false q n) fits is e = still _ (L.Node n) refl h e is (small_one n (named n (fits.node setup g).live))
  effect_good types a (Sets n f content) fits is e =
      written n _ (with_small (node_at old.nodes n) (first_word old n f) (content_of content) (content_small content) (small_at old.nodes n h.words)) (is, e)
  effect_good types a (Puts n f w) fits is e =
      written n _ (with_small (node_at old.nodes n) (first_word old n f) (Word w) (fits.1 types a) (small_at old.nodes n h.words)) (is, e)
  effect_good types a (Pairs n f key value) fits is e =
      written n _
      (with_small (with_value (node_at old.nodes n) (first_word old n f) (part_of key value)) (first_word old n f + 1) (part_of value key) (part_small value key)
      (with_small (node_at old.nodes n) (first_word old n f) (part_of key value) (part_small key value) (small_at old.nodes n h.words))) (is, e)
  effect_good types a effect fits is e = still (with_effect old effect) L.Fine refl h e is small_none

  -- ---- a new object

  made_good : (t : ℕ) → t < length setup.types → (extra p : ℕ) (numbers : List ℕ) (mid : State) (a : ℕ) → mid.running ≡ old.running
      → IsFewSwept k k (16777216 * k) mid numbers → a < 16777217 → IsMade setup mid p t extra numbers lines new a → Good
  made_good t ty extra p numbers mid a running swept inside made =
      let f = swept.few in
      let few : length mid.nodes ≤ k = f.nodes_few in
      good k command old new _ lines running
      (record {
        nodes_few = (let e = length_push mid.nodes (new_node setup t extra a) in omega arith);
        commands_few = f.commands_few;
        finalised_few = f.finalised_few;
        words = All-push HasSmall mid.nodes (new_node setup t extra a) f.words (nulls_all IsSmall tt (omega arith) (type_at setup t).kinds extra);
        callbacks =
            All-append (λ (r : Registration). Small r.callback) mid.registrations (registrations_for setup t (length mid.nodes)) f.callbacks
            (All-map (λ (r : Registration). Small r.callback) (λ c. record { node = length mid.nodes; callback = c }) (type_at setup t).prefinalizers
            (limits.callbacks t _ ty));
        shared = f.shared;
      })
      made.after
      (subst (All IsOf64Bits) (sym made.lines_are)
      (All-append IsOf64Bits (finalise_lines numbers) (L.Placed (length mid.nodes) a ∷ []) (finalise_numbers numbers swept.small)
      (All-cons IsOf64Bits (L.Placed (length mid.nodes) a) [] (small_two (length mid.nodes) a (omega arith) (omega arith)) (All-nil IsOf64Bits))))

  full_good : (numbers : List ℕ) (mid : State) → mid.running ≡ old.running → IsFewSwept k k (16777216 * k) mid numbers → IsFull mid numbers lines new → Good
  full_good numbers mid running swept full =
      good k command old new _ lines running
      (few_more k k (16777216 * k + 16777216) (k + 1) k (16777216 * k + 16777216) mid (omega arith) (omega arith) (omega arith) swept.few) full.after
      (subst (All IsOf64Bits) (sym full.lines_are)
      (All-append IsOf64Bits (finalise_lines numbers) (L.Full ∷ []) (finalise_numbers numbers swept.small)
      (All-cons IsOf64Bits L.Full [] small_none (All-nil IsOf64Bits))))

  allocated_good : (p t extra : ℕ) → t < length setup.types → IsAllocation setup old p t extra lines new → Good
  allocated_good p t extra ty made =
      let placed : IsPlacement setup.shape old (size_of_type setup t extra) made.numbers made.mid made.place = made.placed in
      let swept : IsFewSwept k k (16777216 * k) made.mid made.numbers =
      sweep_few setup limits k k (16777216 * k) (omega arith) old made.mid old.phase placed.pages made.numbers h placed.within placed.swept in
      let running : made.mid.running ≡ old.running = swept_running setup old.phase old made.mid placed.pages made.numbers placed.swept in
      option_is made.place _ _ Good (λ full. full_good made.numbers made.mid running swept full)
      (λ a is done.
      (let free : IsFreeAt setup.shape (extents_of made.mid.nodes) (size_of_type setup t extra) a =
      place_free setup.shape placed.pages (extents_of made.mid.nodes) (size_of_type setup t extra) a placed.within
      (subst (IsPlaceFor setup.shape placed.pages (extents_of made.mid.nodes) (size_of_type setup t extra)) is placed.placed) in
      let inside : a + size_of_type setup t extra ≤ word_count setup.shape = free.inside in
      let most = words_within setup setup.shape.pages limits (omega arith) in
      made_good t ty extra p made.numbers made.mid a running swept (omega arith) done))
      made.done

  pub new_good : (p t extra : ℕ) → t < length setup.types → StepNew setup old p t extra lines new → Good
  new_good p t extra ty step = elim step [ inl m ↦ memory m.1 | inr made ↦ allocated_good p t extra ty made ]
