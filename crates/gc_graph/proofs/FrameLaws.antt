-- What each command leaves alone.
use Rattle.std.proofs.Common.{◌≡◌, ℕ, zero, suc, ◌+◌, Bool, List, [], ◌∷◌, length, get_or, set, Option, Some, None, refl, sym, ap, ◌∙◌, subst, inl, inr, arith}
use Rattle.std.proofs.lemmas.Bool.{cases_eq}
use Rattle.std.proofs.lemmas.List.{get_or-set_same, get_or-set_other, get_or_append_left, length-set, length-map}
use Rattle.gc_graph.specs.declared.command.Command.{Command}
use Rattle.gc_graph.specs.declared.command.Command.TheVariants as C
use Rattle.gc_graph.specs.declared.command.Want.{Want}
use Rattle.gc_graph.specs.declared.kind.Kind.{Kind}
use Rattle.gc_graph.specs.declared.kind.Kind.TheVariants.{Strong, Weak, Pair, Plain}
use Rattle.gc_graph.specs.declared.kind.Value.{Value}
use Rattle.gc_graph.specs.declared.kind.Value.TheVariants.{Null, Word}
use Rattle.gc_graph.specs.declared.line.Line.{Line}
use Rattle.gc_graph.specs.declared.line.Refusal.{Refusal}
use Rattle.gc_graph.specs.declared.line.Refusal.TheVariants as R
use Rattle.gc_graph.specs.declared.region.Entry.{Entry}
use Rattle.gc_graph.specs.State.{Setup, State, StackWord, Node, no_node, node_at}
use Rattle.gc_graph.specs.Fields.{words_of_kind, kind_of_field, word_of_field, value_at, with_value, new_node, content_of, is_reference, is_pair, is_plain}
use Rattle.gc_graph.specs.May.{read_node}
use Rattle.gc_graph.specs.Outcomes.{answered, IsRefused, took, slot_at, with_slot}
use Rattle.gc_graph.specs.ObjectSteps.{first_word, with_node, with_new, part_of, StepNew}
use Rattle.gc_graph.specs.CycleSteps.{IsPause, is_marking, is_sweeping, is_stack_refused, StepGcStart, StepGcFinish, StepGcNow, StepSweepTo}
use Rattle.gc_graph.specs.RegionSteps.{StepExport, StepImport}
use Rattle.gc_graph.specs.Step.{Step}
use Rattle.gc_graph.specs.FrameLaw.{IsSameCycle, LeavesRest, StepsLeaveRest, FieldsTakeTurns}
use Rattle.gc_graph.specs.Commands.{WritesSlot, WritesWeakSlot, WritesStack, WritesRegistrations, WritesWord, MovesCycle}
use Rattle.gc_graph.proofs.StepCases.{match_option, match_bool}
use Rattle.gc_graph.proofs.Shapes.{word_at, word_at_is}
use Rattle.gc_graph.proofs.FieldWrites.{with_pair, with_values}
use Rattle.gc_graph.proofs.Effects.{Effect, with_effect, WritesField, Fits}
use Rattle.gc_graph.proofs.Effects.Effect.{Refuses, Tells, Fills, Empties, Gets, Weakens, Stacks, Sets, Puts, Pairs}
use Rattle.gc_graph.specs.Commands.Family.{Threads}
use Rattle.gc_graph.specs.Families.{StaysInFamily}
use Rattle.gc_graph.proofs.PlainSteps.{plain_step}
use Rattle.gc_graph.proofs.FamilyFrames.{steps_stay_in_their_family}
use Rattle.gc_graph.proofs.NodeWrites.{node_after}
use Rattle.gc_graph.proofs.AccessLaws.{one_or_more, two_in_pair}
use Rattle.gc_graph.proofs.StepFrames.{Keeps, keeps_same, keeps_more, keeps_read, keeps_took, keeps_start, keeps_sweep, cycle_same, cycle_read, cycle_took}

unchanged : (old : State) (x : State) → x.slots ≡ old.slots → x.weak ≡ old.weak → x.stack ≡ old.stack → x.registrations ≡ old.registrations
    → x.nodes ≡ old.nodes → Keeps old x
unchanged old x a b c d e = record {
  slots = a;
  weak = b;
  stack = c;
  registrations = d;
  count = ap length e;
  objects = λ n. ap (λ nodes. (node_at nodes n).object) e;
}

unmoved : (old : State) (x : State) → x.phase ≡ old.phase → x.cursor ≡ old.cursor → x.traced ≡ old.traced → x.nodes ≡ old.nodes → IsSameCycle old x
unmoved old x a b c d = record {
  phase = a;
  cursor = b;
  traced = c;
  count = ap length d;
  lives = λ n. ap (λ nodes. (node_at nodes n).life) d;
}

module _ (old new : State) (command : Command) where
  -- ---- one part is written

  cycle_after : (x : State) → IsSameCycle old x → IsSameCycle old (answered x)
  cycle_after x c = record { phase = c.phase; cursor = c.cursor; traced = c.traced; count = c.count; lives = c.lives }

  still : (x : State) → Keeps old x → ((MovesCycle command → ⊥) → IsSameCycle old x) → new ≡ answered x → LeavesRest old command new
  still x k c e = subst (LeavesRest old command) (sym e) (record {
    slots = λ z not. ap (λ slots. get_or slots z None) k.slots;
    weak = λ z not. ap (λ slots. get_or slots z None) k.weak;
    stack = λ not. k.stack;
    registrations = λ not. k.registrations;
    words = λ n w l not. ap (λ object. get_or object.values w Null) (k.objects n);
    cycle = λ not. cycle_after x (c not);
    slot_count = ap length k.slots;
    weak_count = ap length k.weak;
  })

  refused : (lines : List Line) (why : Refusal) → IsRefused why old lines new → LeavesRest old command new
  refused lines why r = still old (keeps_same old) (λ not. cycle_same old) r.1

  slotted : (x : State) (q : ℕ) (content : Option ℕ) → ((z : ℕ) → z ≡ q → WritesSlot command z) → Keeps old x
      → IsSameCycle old x → new ≡ answered (with_slot x q content) → LeavesRest old command new
  slotted x q content writes k c e = subst (LeavesRest old command) (sym e) (record {
    slots = λ z not. get_or-set_other x.slots q z content None (λ same. not (writes z same)) ∙ ap (λ slots. get_or slots z None) k.slots;
    weak = λ z not. ap (λ slots. get_or slots z None) k.weak;
    stack = λ not. k.stack;
    registrations = λ not. k.registrations;
    words = λ n w l not. ap (λ object. get_or object.values w Null) (k.objects n);
    cycle = λ not. record { phase = c.phase; cursor = c.cursor; traced = c.traced; count = c.count; lives = c.lives };
    slot_count = length-set x.slots q content ∙ ap length k.slots;
    weak_count = ap length k.weak;
  })

  weakly : (w : ℕ) (content : Option ℕ) → ((z : ℕ) → z ≡ w → WritesWeakSlot command z)
      → new ≡ answered (record old { weak = set old.weak w content }) → LeavesRest old command new
  weakly w content writes e = subst (LeavesRest old command) (sym e) (record {
    slots = λ z not. refl;
    weak = λ z not. get_or-set_other old.weak w z content None (λ same. not (writes z same));
    stack = λ not. refl;
    registrations = λ not. refl;
    words = λ n w l not. refl;
    cycle = λ not. record { phase = refl; cursor = refl; traced = refl; count = refl; lives = λ n. refl };
    slot_count = refl;
    weak_count = length-set old.weak w content;
  })

  stacked : (stack : List StackWord) → WritesStack command → new ≡ answered (record old { stack = stack }) → LeavesRest old command new
  stacked stack writes e = subst (LeavesRest old command) (sym e) (record {
    slots = λ z not. refl;
    weak = λ z not. refl;
    stack = λ not. absurd (not writes);
    registrations = λ not. refl;
    words = λ n w l not. refl;
    cycle = λ not. record { phase = refl; cursor = refl; traced = refl; count = refl; lives = λ n. refl };
    slot_count = refl;
    weak_count = refl;
  })

  written : (n : ℕ) (values : List Value)
      → ((w : ℕ) → (WritesWord old command n w → ⊥) → get_or values w Null ≡ value_at (node_at old.nodes n) w)
      → new ≡ answered (with_node old n (with_values (node_at old.nodes n) values)) → LeavesRest old command new
  written n values same e = subst (LeavesRest old command) (sym e) (record {
    slots = λ z not. refl;
    weak = λ z not. refl;
    stack = λ not. refl;
    registrations = λ not. refl;
    words = λ m w l not. elim (cases_eq m n) [
      | inl is ↦
          ap (λ k. value_at (node_at (set old.nodes n (with_values (node_at old.nodes n) values)) k) w) is
          ∙ ap (λ (x : Node). value_at x w) (get_or-set_same old.nodes n (with_values (node_at old.nodes n) values) no_node (omega (arith, is, l)))
          ∙ same w (λ writes. not (subst (λ k. WritesWord old command k w) (sym is) writes))
          ∙ ap (λ k. value_at (node_at old.nodes k) w) (sym is)
      | inr other ↦
          ap (λ (x : Node). value_at x w) (get_or-set_other old.nodes n m (with_values (node_at old.nodes n) values) no_node other)
    ];
    cycle = λ not. record {
      phase = refl;
      cursor = refl;
      traced = refl;
      count = length-set old.nodes n (with_values (node_at old.nodes n) values);
      lives = λ m.
          node_after (λ x. x.life ≡ (node_at old.nodes m).life) old.nodes n m (with_values (node_at old.nodes n) values)
          (λ is. ap (λ k. (node_at old.nodes k).life) (sym is)) refl;
    };
    slot_count = refl;
    weak_count = refl;
  })

  -- ---- plain commands

  one_word : (allowed : Kind → Bool) (n f : ℕ) (value : Value) → WritesField allowed old command n f
      → new ≡ answered (with_node old n (with_value (node_at old.nodes n) (first_word old n f) value)) → LeavesRest old command new
  one_word allowed n f value writes e =
      let some = one_or_more (kind_of_field (node_at old.nodes n).object f) in
      written n (set (node_at old.nodes n).object.values (first_word old n f) value)
      (λ w not. get_or-set_other (node_at old.nodes n).object.values (first_word old n f) w value Null
      (λ same. not (writes.words w (omega (arith, same), omega (arith, same, some))))) e

  two_words : (n f : ℕ) (key value : Value) → WritesField is_pair old command n f
      → new ≡ answered (with_node old n (with_pair (node_at old.nodes n) (first_word old n f) key value)) → LeavesRest old command new
  two_words n f key value writes e =
      let two = two_in_pair (kind_of_field (node_at old.nodes n).object f) writes.allows in
      let values : List Value = (node_at old.nodes n).object.values in
      written n (set (set values (first_word old n f) key) (first_word old n f + 1) value)
      (λ w not.
      get_or-set_other (set values (first_word old n f) key) (first_word old n f + 1) w value Null
      (λ same. not (writes.words w (omega (arith, same), omega (arith, same, two))))
      ∙ get_or-set_other values (first_word old n f) w key Null (λ same. not (writes.words w (omega (arith, same), omega (arith, same, two))))) e

  filled : (x : State) (q : ℕ) (content : Option ℕ) → WritesSlot command q → Keeps old x → IsSameCycle old x
      → new ≡ answered (with_slot x q content) → LeavesRest old command new
  filled x q content writes k c e = slotted x q content (λ z same. subst (WritesSlot command) (sym same) writes) k c e

  effect_leaves : (lines : List Line) (effect : Effect) → Fits old command lines effect → new ≡ answered (with_effect old effect) → LeavesRest old command new
  effect_leaves lines (Refuses why) fits e = still old (keeps_same old) (λ not. cycle_same old) e
  effect_leaves lines (Tells w) fits e = still old (keeps_same old) (λ not. cycle_same old) e
  effect_leaves lines (Fills q content) fits e = filled old q content fits.0 (keeps_same old) (cycle_same old) e
  effect_leaves lines (Empties q) fits e = filled old q None fits (keeps_same old) (cycle_same old) e
  effect_leaves lines (Gets weak q n) fits e = filled (read_node weak old n) q (Some n) fits.writes (keeps_read weak old n) (cycle_read weak old n) e
  effect_leaves lines (Weakens w content) fits e = weakly w content (λ z same. subst (WritesWeakSlot command) (sym same) fits.0) e
  effect_leaves lines (Stacks stack) fits e = stacked stack fits.0 e
  effect_leaves lines (Sets n f content) fits e = one_word is_reference n f (content_of content) fits.0 e
  effect_leaves lines (Puts n f w) fits e = one_word is_plain n f (Word w) fits.0 e
  effect_leaves lines (Pairs n f key value) fits e = two_words n f (part_of key value) (part_of value key) fits.0 e

  -- ---- sweeps, new objects and pauses

  sweep_to : (setup : Setup) (pages : ℕ) (lines : List Line) → MovesCycle command → StepSweepTo setup old pages lines new → LeavesRest old command new
  sweep_to setup pages lines moves h =
      match_bool (is_sweeping old.phase) _ _ _
      (λ s. still s.swept (keeps_sweep setup.shape old s.swept pages s.numbers s.goes) (λ not. absurd (not moves)) s.after) (λ r. refused lines R.Phase r) h

  made : (setup : Setup) (mid : State) (p t e a : ℕ) (content : Option ℕ) → ((z : ℕ) → z ≡ p → WritesSlot command z) → WritesRegistrations command
      → MovesCycle command → Keeps old mid → new ≡ answered (with_slot (with_new setup mid t e a) p content) → LeavesRest old command new
  made setup mid p t e a content writes registers moves k after = subst (LeavesRest old command) (sym after) (record {
    slots = λ z not. get_or-set_other mid.slots p z content None (λ same. not (writes z same)) ∙ ap (λ slots. get_or slots z None) k.slots;
    weak = λ z not. ap (λ slots. get_or slots z None) k.weak;
    stack = λ not. k.stack;
    registrations = λ not. absurd (not registers);
    words = λ n w l not.
        ap (λ (x : Node). value_at x w) (get_or_append_left mid.nodes (new_node setup t e a ∷ []) no_node n (omega (arith, l, k.count)))
        ∙ ap (λ object. get_or object.values w Null) (k.objects n);
    cycle = λ not. absurd (not moves);
    slot_count = length-set mid.slots p content ∙ ap length k.slots;
    weak_count = ap length k.weak;
  })

  paused_rest : (setup : Setup) (markers : ℕ) (want : Want) (mid after : State) (piece : List Entry) (lines : List Line) → ((z : ℕ) → WritesWeakSlot command z)
      → WritesRegistrations command → ((n w : ℕ) → WritesWord old command n w) → MovesCycle command → Keeps old mid → IsPause setup markers want mid piece lines after
      → new ≡ answered after → LeavesRest old command new
  paused_rest setup markers want mid after piece lines weak registers words moves k p e =
      let taken : Keeps mid (took mid p.before) = keeps_took mid p.before in
      subst (LeavesRest old command) (sym (e ∙ ap answered p.done.after)) (record {
        slots = λ z not. ap (λ slots. get_or slots z None) (taken.slots ∙ k.slots);
        weak = λ z not. absurd (not (weak z));
        stack = λ not. taken.stack ∙ k.stack;
        registrations = λ not. absurd (not registers);
        words = λ n w l not. absurd (not (words n w));
        cycle = λ not. absurd (not moves);
        slot_count = ap length (taken.slots ∙ k.slots);
        weak_count = length-map (took mid p.before).weak _ ∙ ap length (taken.weak ∙ k.weak);
      })

  -- a command on threads
  on_threads : (piece : List Entry) (lines : List Line) → StaysInFamily Threads old piece lines new → LeavesRest old command new
  on_threads piece lines h = still _ (unchanged old _ refl refl refl refl refl) (λ not. unmoved old _ refl refl refl refl) h.rest

-- ---- the longer commands

new_leaves : (setup : Setup) (old new : State) (p t e : ℕ) (lines : List Line) → StepNew setup old p t e lines new → LeavesRest old (C.New p t e) new
new_leaves setup old new p t e lines h = elim h [
  | inl m ↦ still old new (C.New p t e) old (keeps_same old) (λ not. cycle_same old) m.1.1
  | inr made_at ↦
      let k : Keeps old made_at.mid = keeps_sweep setup.shape old made_at.mid made_at.placed.pages made_at.numbers made_at.placed.swept in
      match_option made_at.place _ _ _
      (λ full. still old new (C.New p t e) _
      (record { slots = k.slots; weak = k.weak; stack = k.stack; registrations = k.registrations; count = k.count; objects = k.objects }) (λ not. absurd (not tt)) full.after)
      (λ a d. made old new (C.New p t e) setup made_at.mid p t e a _ (λ z same. same) tt tt k d.after) made_at.done
]

start_leaves : (setup : Setup) (old new : State) (piece : List Entry) (lines : List Line) → StepGcStart setup old piece lines new → LeavesRest old C.GcStart new
start_leaves setup old new piece lines h =
    match_bool (is_marking old.phase) _ _ _ (λ r. refused old new C.GcStart lines R.Phase r.1)
    (λ rest. elim rest [
      | inl m ↦ still old new C.GcStart old (keeps_same old) (λ not. cycle_same old) m.1.1
      | inr b ↦
          still old new C.GcStart b.started
          (keeps_more old b.swept b.started (keeps_sweep setup.shape old b.swept setup.shape.pages b.numbers b.ended)
          (keeps_start setup b.swept b.started piece b.start)) (λ not. absurd (not tt)) b.after
    ]) h

finish_leaves : (setup : Setup) (want : Want) (old new : State) (piece : List Entry) (lines : List Line) → StepGcFinish setup want old piece lines new
    → LeavesRest old (C.GcFinish want) new
finish_leaves setup want old new piece lines h =
    match_bool (is_marking old.phase) _ _ _
    (λ rest. match_bool (is_stack_refused want old.stack) _ _ _ (λ r. refused old new (C.GcFinish want) lines R.Stack r.1)
    (λ f. paused_rest old new (C.GcFinish want) setup setup.markers want old f.0 piece lines (λ z. tt) tt (λ n w. tt) tt (keeps_same old) f.1 f.2) rest)
    (λ r. refused old new (C.GcFinish want) lines R.Phase r.1) h

now_leaves : (setup : Setup) (want : Want) (old new : State) (piece : List Entry) (lines : List Line) → StepGcNow setup want old piece lines new
    → LeavesRest old (C.GcNow want) new
now_leaves setup want old new piece lines h =
    match_bool (is_marking old.phase) _ _ _ (λ r. refused old new (C.GcNow want) lines R.Phase r.1)
    (λ rest. match_bool (is_stack_refused want old.stack) _ _ _ (λ r. refused old new (C.GcNow want) lines R.Stack r.1)
    (λ more. elim more [
      | inl m ↦ still old new (C.GcNow want) old (keeps_same old) (λ not. cycle_same old) m.1.1
      | inr c ↦
          paused_rest old new (C.GcNow want) setup 0 want c.started c.paused c.second c.pause_lines (λ z. tt) tt (λ n w. tt) tt
          (keeps_more old c.swept c.started (keeps_sweep setup.shape old c.swept setup.shape.pages c.numbers c.ended)
          (keeps_start setup c.swept c.started c.first c.start)) c.pause c.after
    ]) rest) h

export_leaves : (old new : State) (p x : ℕ) (piece : List Entry) (lines : List Line) → StepExport old p x piece lines new → LeavesRest old (C.Export p x) new
export_leaves old new p x piece lines h =
    match_option (slot_at old p) _ _ _ (λ r. refused old new (C.Export p x) lines R.Null r.1)
    (λ n done. elim done [
      | inl m ↦ still old new (C.Export p x) old (keeps_same old) (λ not. cycle_same old) m.1.1
      | inr e ↦ still old new (C.Export p x) (took old piece) (keeps_took old piece) (λ not. cycle_took old piece) e.after
    ]) h

import_leaves : (old new : State) (x p : ℕ) (piece : List Entry) (lines : List Line) → StepImport old x p piece lines new → LeavesRest old (C.Import x p) new
import_leaves old new x p piece lines h = elim h [
  | inl m ↦ still old new (C.Import x p) old (keeps_same old) (λ not. cycle_same old) m.1.1
  | inr i ↦ slotted old new (C.Import x p) (took old piece) p _ (λ z same. same) (keeps_took old piece) (cycle_took old piece) i.after
]

-- ---- every command

leaves : (setup : Setup) (old new : State) (command : Command) (piece : List Entry) (lines : List Line) → Step setup old command piece lines new
    → LeavesRest old command new
leaves setup old new (C.New p t e) piece lines h = new_leaves setup old new p t e lines h.1
leaves setup old new C.GcStart piece lines h = start_leaves setup old new piece lines h
leaves setup old new (C.GcStep n) piece lines h =
    match_bool (is_marking old.phase) _ _ _ (λ t. still old new (C.GcStep n) _ (unchanged old _ refl refl refl refl refl) (λ not. absurd (not tt)) t.after)
    (λ r. refused old new (C.GcStep n) lines R.Phase r) h.1
leaves setup old new (C.GcFinish want) piece lines h = finish_leaves setup want old new piece lines h
leaves setup old new (C.GcNow want) piece lines h = now_leaves setup want old new piece lines h
leaves setup old new (C.Sweep n) piece lines h = sweep_to old new (C.Sweep n) setup _ lines tt h.1
leaves setup old new C.SweepAll piece lines h = sweep_to old new C.SweepAll setup _ lines tt h.1
leaves setup old new C.Stat piece lines h = still old new C.Stat old (keeps_same old) (λ not. cycle_same old) h.1.3
leaves setup old new (C.Export p x) piece lines h = export_leaves old new p x piece lines h
leaves setup old new (C.Import x p) piece lines h = import_leaves old new x p piece lines h
leaves setup old new (C.At j order) piece lines h =
    on_threads old new (C.At j order) piece lines (steps_stay_in_their_family setup old (C.At j order) piece lines new h)
leaves setup old new C.ThreadsGo piece lines h =
    on_threads old new C.ThreadsGo piece lines (steps_stay_in_their_family setup old C.ThreadsGo piece lines new h)
leaves setup old new C.ThreadsJoin piece lines h =
    on_threads old new C.ThreadsJoin piece lines (steps_stay_in_their_family setup old C.ThreadsJoin piece lines new h)
leaves setup old new command piece lines h =
    let c = plain_step setup old new command piece lines refl h in effect_leaves old new command lines c.effect c.fits c.after

pub steps_leave_rest : StepsLeaveRest
steps_leave_rest setup old command piece lines new h = leaves setup old new command piece lines h

-- ---- the fields of an object

next_word : (kinds : List Kind) (f : ℕ) → word_at kinds (suc f) ≡ word_at kinds f + words_of_kind (get_or kinds f Plain)
next_word [] f = omega arith
next_word (Strong ∷ []) zero = omega arith
next_word (Weak ∷ []) zero = omega arith
next_word (Pair ∷ []) zero = omega arith
next_word (Plain ∷ []) zero = omega arith
next_word (Strong ∷ kind ∷ kinds) zero = omega arith
next_word (Weak ∷ kind ∷ kinds) zero = omega arith
next_word (Pair ∷ kind ∷ kinds) zero = omega arith
next_word (Plain ∷ kind ∷ kinds) zero = omega arith
next_word (Strong ∷ kinds) (suc f) = omega (arith, next_word kinds f)
next_word (Weak ∷ kinds) (suc f) = omega (arith, next_word kinds f)
next_word (Pair ∷ kinds) (suc f) = omega (arith, next_word kinds f)
next_word (Plain ∷ kinds) (suc f) = omega (arith, next_word kinds f)

first_is_none : (kinds : List Kind) → word_at kinds 0 ≡ 0
first_is_none [] = refl
first_is_none (kind ∷ kinds) = refl

pub fields_take_turns : FieldsTakeTurns
fields_take_turns object = (
  word_at_is object.kinds 0 ∙ first_is_none object.kinds,
  λ f.
      let next : f + 1 ≡ suc f = omega arith in
      ap (word_of_field object) next ∙ word_at_is object.kinds (suc f) ∙ next_word object.kinds f
      ∙ ap (λ k. k + words_of_kind (kind_of_field object f)) (sym (word_at_is object.kinds f)),
)
