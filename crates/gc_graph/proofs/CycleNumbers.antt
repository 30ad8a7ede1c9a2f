-- The numbers of the lines of a collection, and of the region's and the threads' commands.
use Rattle.std.proofs.Common.{◌≡◌, ℕ, zero, suc, ◌+◌, ◌-◌, ◌*◌, ◌^◌, ◌<◌, ◌≤◌, Bool, true, false, not, List, [], ◌∷◌, length, map, get_or, All, Some, refl, sym, ap, ◌∙◌, subst, inl, inr, arith, nat_lt, if◌then◌else◌}
use Rattle.std.specs.Prelude.{reverse}
use Rattle.std.specs.List.{filter}
use Rattle.std.proofs.lemmas.Bool.{cases_lt}
use Rattle.std.proofs.lemmas.List.{length-map, length-reverse, get_or-reverse, get_or_past}
use Rattle.std.proofs.lemmas.List.Elements.{All-nil, All-cons, All-append, All-map, All-filter}
use Rattle.std.proofs.lemmas.List.Sums.{count_by-le-length}
use Rattle.gc_graph.specs.declared.command.Command.{Command}
use Rattle.gc_graph.specs.declared.command.Want.{Want}
use Rattle.gc_graph.specs.declared.line.Line.{Line}
use Rattle.gc_graph.specs.declared.line.Line.TheVariants as L
use Rattle.gc_graph.specs.declared.line.Refusal.{Refusal}
use Rattle.gc_graph.specs.declared.line.Refusal.TheVariants as R
use Rattle.gc_graph.specs.declared.region.Entry.{Entry}
use Rattle.gc_graph.specs.declared.region.Op.{Op}
use Rattle.gc_graph.specs.declared.region.Op.TheVariants as O
use Rattle.gc_graph.specs.State.{Setup, State, ObjectType, Node, RegionSlot, Registration, no_type, is_live, is_dead}
use Rattle.gc_graph.specs.State.RegionSlot.{Vacant, StrongTo, WeakTo}
use Rattle.gc_graph.specs.Sweep.{SweepsToEnd}
use Rattle.gc_graph.specs.History.{IsLegalFrom, region_slot, node_of, weak_target}
use Rattle.gc_graph.specs.Pause.{condemn, live_count, dead_count, is_dead_at, names_dead_node, mask_of, dying_slots, dies, run_order, prefinalise_lines}
use Rattle.gc_graph.specs.WeakCalls.{WeakCall, weak_calls, weakcall_lines}
use Rattle.gc_graph.specs.Paused.{entry_of_pause, paused}
use Rattle.gc_graph.specs.Outcomes.{answered, IsRefused, with_entry, took, finalise_lines, slot_at, with_slot, owner_entry}
use Rattle.gc_graph.specs.CycleSteps.{is_marking, is_sweeping, is_stack_refused, WantsMemory, IsStart, IsBegun, IsPause, IsCollection, StepGcStart, StepGcStep, StepGcFinish, StepGcNow, StepSweepTo, StepStat}
use Rattle.gc_graph.specs.RegionSteps.{TakesOwn, IsExported, IsImported, StepExport, StepImport, line_of_content}
use Rattle.gc_graph.specs.ReadBack.{numbers_of_op, IsOf64Bits}
use Rattle.gc_graph.specs.NumbersLaw.{IsWithinLimits}
use Rattle.gc_graph.specs.Condemning.{length-condemn}
use Rattle.gc_graph.proofs.Called.{each_call}
use Rattle.gc_graph.proofs.Sound.{IsSound}
use Rattle.gc_graph.proofs.ValidCases.{option_is, bool_is}
use Rattle.gc_graph.proofs.ValidHandles.{slot_is_root}
use Rattle.gc_graph.proofs.ValidRegion.{Shares, shared_at, others_sound}
use Rattle.gc_graph.proofs.ValidSweeps.{ended_phase}
use Rattle.gc_graph.proofs.ValidCycles.{start_sound, ended_sound}
use Rattle.gc_graph.proofs.Collections.{paused_look, took_running}
use Rattle.gc_graph.proofs.SmallWords.{paused_small}
use Rattle.gc_graph.proofs.Few.{Small, small_none, small_one, small_two, small_four, IsFew, few_more, live_small, entered_few, taken_few, took_few, IsFewSwept, sweep_few, finalise_numbers}
use Rattle.gc_graph.proofs.StepNumbers.{IsCounted, nearly, IsGood, good, swept_running, still, refused, memory, totals_small}

-- ---- the slots that a pause clears

-- as many numbers as flags can stand for
abbrev room : ℕ → ℕ
room zero = 1
room (suc n) = 2 * room n

flag_bound : (flag : Bool) (rest most : ℕ) → rest < most → (if flag then 1 else 0) + 2 * rest < 2 * most
flag_bound true rest most l = omega arith
flag_bound false rest most l = omega arith

mask_bound : (flags : List Bool) → mask_of flags < room (length flags)
mask_bound [] = omega arith
mask_bound (flag ∷ flags) = flag_bound flag (mask_of flags) (room (length flags)) (mask_bound flags)

dying_small : (nodes : List Node) (region : List RegionSlot) → length region ≡ 32 → Small (dying_slots nodes region)
dying_small nodes region e =
    let flag : RegionSlot → Bool = (λ slot. names_dead_node (is_dead_at nodes) (weak_target slot)) in
    let flags : List Bool = map flag region in
    let long : length flags ≡ 32 = length-map region flag ∙ e in
    let bound : mask_of flags < room 32 = subst (λ n. mask_of flags < room n) long (mask_bound flags) in
    omega arith

-- ---- the callbacks' lines

all_reversed : {X : Type 0} (P : X → Type 0) (xs : List X) → All P xs → All P (reverse xs)
all_reversed P xs h k d l =
    let inside : k < length xs = omega (arith, length-reverse xs) in
    subst P (sym (get_or-reverse xs k d inside)) (h (length xs - 1 - k) d (omega arith))

-- ---- the pause

pub record IsFewPaused (a b c : ℕ) (new : State) (lines : List Line) : Type 0 where
  pub few : IsFew a b c new
  pub numbers : All IsOf64Bits lines

module _ (setup : Setup) (limits : IsWithinLimits setup) (a b c : ℕ) (small : a ≤ 1000001) (markers : ℕ) (want : Want) (old new : State) (piece : List Entry) (lines : List Line)
    (h : IsFew a b c old) (g : IsSound setup old) (p : IsPause setup markers want old piece lines new) where
  abbrev Ready : State
  Ready = took old p.before

  abbrev Judged : List Node
  Judged = condemn p.kept Ready.nodes

  sound_ready : IsSound setup Ready
  sound_ready = others_sound setup old p.before p.others g

  few_ready : IsFew a b c Ready
  few_ready = took_few setup a b c small old p.before (entry_of_pause Ready Judged ∷ []) true h g p.others (subst (IsLegalFrom old.region true) p.piece_is p.legal)

  entered : IsFew a b c (with_entry Ready (entry_of_pause Ready Judged))
  entered =
      entered_few setup a b c small old p.before piece (O.Pause (dying_slots Judged Ready.region)) true h g sound_ready p.others p.piece_is p.legal
      (λ few. small_one (dying_slots Judged Ready.region) (dying_small Judged Ready.region few.shared.slots))

  long : length new.nodes ≤ a
  long =
      let look = (paused_look setup markers want old new piece lines g p).whole in
      let e = length-condemn p.kept old.nodes in
      let l = h.nodes_few in
      omega arith

  few_after : IsFew a b c new
  few_after =
      let most : length (paused setup Ready Judged).nodes ≤ a = subst (λ (s : State). length s.nodes ≤ a) p.done.after long in
      subst (λ (s : State). IsFew a b c s) (sym p.done.after)
      (record {
        nodes_few = most;
        commands_few = entered.commands_few;
        finalised_few = entered.finalised_few;
        words = paused_small setup.callbacks (weak_calls setup.types Judged) (run_order Judged Ready.registrations) p.kept Ready.nodes few_ready.words;
        callbacks = All-filter (λ r. not (dies Judged r)) (λ (r : Registration). Small r.callback) Ready.registrations few_ready.callbacks;
        shared = entered.shared;
      })

  abbrev RunSmall : Registration → Type 0
  RunSmall r = IsOf64Bits (L.Prefinalise r.node r.callback)

  runs : All IsOf64Bits (prefinalise_lines (run_order Judged Ready.registrations))
  runs =
      All-map IsOf64Bits (λ (r : Registration). L.Prefinalise r.node r.callback) (run_order Judged Ready.registrations)
      (all_reversed RunSmall (filter (dies Judged) Ready.registrations)
      (All-filter (dies Judged) RunSmall Ready.registrations
      (λ k d l. small_two _ _ (live_small setup a b c small Ready _ few_ready (sound_ready.registered k d l)) (few_ready.callbacks k d l))))

  abbrev CallSmall : WeakCall → Type 0
  CallSmall call = IsOf64Bits (L.WeakCall call.node call.callback)

  listed_small : (t : ℕ) → All Small (get_or setup.types t no_type).weak_callbacks
  listed_small t = elim (cases_lt t (length setup.types)) [
    | inl low ↦ limits.weak_callbacks t no_type low
    | inr past ↦ subst (λ (type : ObjectType). All Small type.weak_callbacks) (sym (get_or_past setup.types t no_type past)) small_none
  ]

  calls : All IsOf64Bits (weakcall_lines (weak_calls setup.types Judged))
  calls =
      All-map IsOf64Bits (λ (call : WeakCall). L.WeakCall call.node call.callback) (weak_calls setup.types Judged)
      (each_call CallSmall setup.types Judged
      (λ n low on k d l. small_two n _ (omega (arith, low, length-condemn p.kept Ready.nodes, few_ready.nodes_few, small)) (listed_small _ k d l)))

  pub pause_few : IsFewPaused a b c new lines
  pause_few = record {
    few = few_after;
    numbers =
        subst (All IsOf64Bits) (sym p.done.lines_are)
        (All-cons IsOf64Bits (L.Pause (live_count Judged) (dead_count Judged) p.done.crew p.done.traced p.done.walked) _
        (let all = length-condemn p.kept Ready.nodes in
        let most = few_ready.nodes_few in
        let live = count_by-le-length (λ (n : Node). is_live n.life) Judged in
        let dead = count_by-le-length (λ (n : Node). is_dead n.life) Judged in
        let counted = p.done.counted in
        small_four (live_count Judged) (dead_count Judged) p.done.crew p.done.traced (omega arith) (omega arith) (omega arith) (omega arith))
        (All-append IsOf64Bits (weakcall_lines (weak_calls setup.types Judged)) (prefinalise_lines (run_order Judged Ready.registrations)) calls runs));
  }

-- ---- the start

start_few : (setup : Setup) (a b c : ℕ) → a ≤ 1000001 → (swept new : State) (piece : List Entry) → IsFew a b c swept → IsSound setup swept
    → IsStart setup swept piece new → IsFew a b c new
start_few setup a b c small swept new piece h g s =
    let taken : IsFew a b c (took swept piece) =
    taken_few setup a b c small swept s.before piece O.Start false h g (others_sound setup swept s.before s.others g) s.others s.piece_is s.legal
    (λ few. small_none) in
    subst (λ (t : State). IsFew a b c t) (sym s.after)
    (record {
      nodes_few = taken.nodes_few;
      commands_few = taken.commands_few;
      finalised_few = taken.finalised_few;
      words = taken.words;
      callbacks = taken.callbacks;
      shared = taken.shared;
    })

-- ---- which threads run

started_running : (setup : Setup) (swept new : State) (piece : List Entry) → IsStart setup swept piece new → new.running ≡ swept.running
started_running setup swept new piece s = ap (λ (t : State). t.running) s.after ∙ took_running swept piece

paused_running : (setup : Setup) (markers : ℕ) (want : Want) (old new : State) (piece : List Entry) (lines : List Line)
    → IsPause setup markers want old piece lines new → new.running ≡ old.running
paused_running setup markers want old new piece lines p = ap (λ (t : State). t.running) p.done.after ∙ took_running old p.before

-- ---- the commands

module _ (setup : Setup) (limits : IsWithinLimits setup) (k : ℕ) (low : k < 1000000) (old new : State) (command : Command) (piece : List Entry)
    (lines : List Line) (h : IsCounted k old) (g : IsSound setup old) where
  abbrev Good : Type 0
  Good = IsGood k command old lines new

  no : (why : Refusal) → (piece ≡ []) × IsRefused why old lines new → Good
  no why r = refused setup limits k low old new command lines h g why r.1

  wanting : WantsMemory old piece lines new → Good
  wanting m = memory setup limits k low old new command lines h g m.1

  abbrev Most : ℕ
  Most = 16777216 * k + 16777216

  ended_few : (swept : State) (numbers : List ℕ) → SweepsToEnd setup.shape old numbers swept → IsFewSwept k k (16777216 * k) swept numbers
  ended_few swept numbers ended =
      sweep_few setup limits k k (16777216 * k) (omega arith) old swept old.phase setup.shape.pages numbers h (omega arith) ended

  then_answered : (x : State) → x.running ≡ old.running → IsFew k k Most x → new ≡ answered x → All IsOf64Bits lines → Good
  then_answered x r few e numbers =
      good k command old new x lines r (few_more k k Most (k + 1) k Most x (omega arith) (omega arith) (omega arith) few) e numbers

  begun_good : IsBegun setup old piece lines new → Good
  begun_good begun =
      let swept : IsFewSwept k k (16777216 * k) begun.swept begun.numbers = ended_few begun.swept begun.numbers begun.ended in
      then_answered begun.started
      (started_running setup begun.swept begun.started piece begun.start ∙ swept_running setup old.phase old begun.swept setup.shape.pages begun.numbers begun.ended)
      (start_few setup k k Most (omega arith) begun.swept begun.started piece swept.few (ended_sound setup old begun.swept begun.numbers g begun.ended) begun.start)
      begun.after
      (subst (All IsOf64Bits) (sym begun.lines_are)
      (All-append IsOf64Bits (finalise_lines begun.numbers) (L.Started ∷ []) (finalise_numbers begun.numbers swept.small)
      (All-cons IsOf64Bits L.Started [] small_none (All-nil IsOf64Bits))))

  pub start_good : StepGcStart setup old piece lines new → Good
  start_good step =
      bool_is (is_marking old.phase) _ _ Good (λ e r. no R.Phase r) (λ e d. elim d [ inl m ↦ wanting m | inr begun ↦ begun_good begun ]) step

  pub step_good : (n : ℕ) → n < 2 ^ 32 → StepGcStep old n lines new → Good
  step_good n most step =
      bool_is (is_marking old.phase) _ _ Good
      (λ e d. still setup limits k low old new command lines h g (record old { traced = old.traced + d.count }) (L.Step d.count (nat_lt d.count n)) refl h d.after d.lines_are
      (small_one d.count (let m = d.most in omega arith)))
      (λ e r. refused setup limits k low old new command lines h g R.Phase r) step

  pub finish_good : (want : Want) → StepGcFinish setup want old piece lines new → Good
  finish_good want step =
      bool_is (is_marking old.phase) _ _ Good
      (λ e d. bool_is (is_stack_refused want old.stack) _ _ Good (λ e r. no R.Stack r)
      (λ e f.
      (let paused : IsFewPaused k k (16777216 * k) f.0 lines =
      pause_few setup limits k k (16777216 * k) (omega arith) setup.markers want old f.0 piece lines h g f.1 in
      good k command old new f.0 lines (paused_running setup setup.markers want old f.0 piece lines f.1) (nearly k f.0 paused.few) f.2 paused.numbers)) d)
      (λ e r. no R.Phase r) step

  collected_good : (want : Want) → is_marking old.phase ≡ false → IsCollection setup want old piece lines new → Good
  collected_good want e d =
      let swept : IsFewSwept k k (16777216 * k) d.swept d.numbers = ended_few d.swept d.numbers d.ended in
      let sound : IsSound setup d.swept = ended_sound setup old d.swept d.numbers g d.ended in
      let begun : IsFew k k Most d.started = start_few setup k k Most (omega arith) d.swept d.started d.first swept.few sound d.start in
      let paused : IsFewPaused k k Most d.paused d.pause_lines =
      pause_few setup limits k k Most (omega arith) 0 want d.started d.paused d.second d.pause_lines begun
      (start_sound setup d.swept d.started d.first sound (ended_phase setup.shape old d.swept old.phase d.numbers refl e d.ended) d.start) d.pause in
      then_answered d.paused
      (paused_running setup 0 want d.started d.paused d.second d.pause_lines d.pause ∙ started_running setup d.swept d.started d.first d.start
      ∙ swept_running setup old.phase old d.swept setup.shape.pages d.numbers d.ended)
      paused.few d.after
      (subst (All IsOf64Bits) (sym d.lines_are)
      (All-append IsOf64Bits (finalise_lines d.numbers) d.pause_lines (finalise_numbers d.numbers swept.small) paused.numbers))

  pub now_good : (want : Want) → StepGcNow setup want old piece lines new → Good
  now_good want step =
      bool_is (is_marking old.phase) _ _ Good (λ e r. no R.Phase r)
      (λ e d. bool_is (is_stack_refused want old.stack) _ _ Good (λ _ r. no R.Stack r)
      (λ _ c. elim c [ inl m ↦ wanting m | inr done ↦ collected_good want e done ]) d) step

  -- ---- sweeps and counts

  pub sweep_good : (pages : ℕ) → pages ≤ setup.shape.pages → StepSweepTo setup old pages lines new → Good
  sweep_good pages most step =
      bool_is (is_sweeping old.phase) _ _ Good
      (λ e d.
      (let swept : IsFewSwept k k (16777216 * k) d.swept d.numbers =
      sweep_few setup limits k k (16777216 * k) (omega arith) old d.swept old.phase pages d.numbers h most d.goes in
      then_answered d.swept (swept_running setup old.phase old d.swept pages d.numbers d.goes) swept.few d.after
      (subst (All IsOf64Bits) (sym d.lines_are)
      (All-append IsOf64Bits (finalise_lines d.numbers) (L.Swept pages ∷ []) (finalise_numbers d.numbers swept.small)
      (All-cons IsOf64Bits (L.Swept pages) [] (small_one pages (let p = limits.pages in omega arith)) (All-nil IsOf64Bits))))))
      (λ e r. refused setup limits k low old new command lines h g R.Phase r) step

  pub stat_good : StepStat setup old lines new → Good
  stat_good step =
      still setup limits k low old new command lines h g old (L.Objects _ _ step.0) refl h step.3 step.2
      (totals_small setup limits old.nodes g.heap step.0 (let l = h.nodes_few in omega arith) step.1)

  -- ---- the region

  own_few : (op : Op) (before : List Entry) → TakesOwn old op piece before
      → (IsCounted k (took old before) → All Small (numbers_of_op op)) → IsCounted k (took old piece)
  own_few op before takes op_small =
      taken_few setup k k (16777216 * k) (omega arith) old before piece op (is_marking old.phase) h g (others_sound setup old before takes.others g)
      takes.others takes.piece_is takes.legal op_small

  exported_good : (n p x : ℕ) → slot_at old p ≡ Some n → x < 32 → IsExported old n x piece lines new → Good
  exported_good n p x slot low_slot d =
      still setup limits k low old new command lines h g (took old piece) L.Fine (took_running old piece)
      (own_few (O.Export x n) d.before d.takes
      (λ few. small_two x n (omega arith) (live_small setup k k (16777216 * k) (omega arith) old n h (slot_is_root setup old p n g slot).live)))
      d.after d.lines_are small_none

  pub export_good : (p x : ℕ) → x < 32 → StepExport old p x piece lines new → Good
  export_good p x low_slot step =
      option_is (slot_at old p) _ _ Good (λ r. no R.Null r)
      (λ n slot d. elim d [ inl m ↦ wanting m | inr done ↦ exported_good n p x slot low_slot done ]) step

  content_line : (s : State) (slot : RegionSlot) → IsCounted k s → Shares s slot → IsOf64Bits (line_of_content (node_of slot))
  content_line s Vacant few names = small_none
  content_line s (StrongTo n) few names = small_one n (live_small setup k k (16777216 * k) (omega arith) s n few names.live)
  content_line s (WeakTo n) few names = small_one n (live_small setup k k (16777216 * k) (omega arith) s n few names)

  imported_good : (x p : ℕ) → x < 32 → IsImported old x p piece lines new → Good
  imported_good x p low_slot d =
      let mid : State = took old d.before in
      let sound : IsSound setup mid = others_sound setup old d.before d.takes.others g in
      let few : IsCounted k mid =
      took_few setup k k (16777216 * k) (omega arith) old d.before (owner_entry mid (O.Import x) ∷ []) (is_marking old.phase) h g d.takes.others
      (subst (IsLegalFrom old.region (is_marking old.phase)) d.takes.piece_is d.takes.legal) in
      still setup limits k low old new command lines h g (with_slot (took old piece) p (node_of (region_slot mid.region x)))
      (line_of_content (node_of (region_slot mid.region x))) (took_running old piece)
      (own_few (O.Import x) d.before d.takes (λ f. small_one x (omega arith))) d.after d.lines_are
      (content_line mid (region_slot mid.region x) few (shared_at mid mid.region x sound.region))

  pub import_good : (x p : ℕ) → x < 32 → StepImport old x p piece lines new → Good
  import_good x p low_slot step = elim step [ inl m ↦ wanting m | inr done ↦ imported_good x p low_slot done ]
