-- Each command stays in the frame of its family: the one place where this is proved of each.
use Rattle.std.proofs.Common.{◌≡◌, ℕ, ◌+◌, ◌||◌, true, List, [], ◌∷◌, ◌++◌, length, map, All, Contains, Option, Some, None, refl, sym, ap, ◌∙◌, subst, inl, inr}
use Rattle.std.specs.List.{flat_map}
use Rattle.std.proofs.lemmas.List.{append-nil, append_assoc}
use Rattle.std.proofs.lemmas.List.Elements.{All-append, All-map}
use Rattle.gc_graph.specs.declared.command.Command.{Command}
use Rattle.gc_graph.specs.declared.command.Command.TheVariants as C
use Rattle.gc_graph.specs.declared.command.Want.{Want}
use Rattle.gc_graph.specs.declared.line.Line.{Line}
use Rattle.gc_graph.specs.declared.line.Line.TheVariants as L
use Rattle.gc_graph.specs.declared.line.Refusal.TheVariants as R
use Rattle.gc_graph.specs.declared.phase.Phase.{Phase}
use Rattle.gc_graph.specs.declared.phase.Phase.TheVariants.{Idle, Marking, Sweeping}
use Rattle.gc_graph.specs.declared.region.Entry.{Entry}
use Rattle.gc_graph.specs.State.{Setup, Shape, State, RegionSlot, Node}
use Rattle.gc_graph.specs.May.{marking}
use Rattle.gc_graph.specs.History.{node_of, region_slot, replayed}
use Rattle.gc_graph.specs.Replays.{replayed-append}
use Rattle.gc_graph.specs.Sweep.{SweepsInPhase, SweepsTo}
use Rattle.gc_graph.specs.Pause.{condemn, live_count, dead_count, run_order}
use Rattle.gc_graph.specs.WeakCalls.{weak_calls}
use Rattle.gc_graph.specs.Paused.{paused, callback_lines}
use Rattle.gc_graph.specs.Outcomes.{answered, IsThreadOp, finalise_lines, with_entry, took, AreOthers, slot_at, with_slot}
use Rattle.gc_graph.specs.ObjectSteps.{with_new, StepNew}
use Rattle.gc_graph.specs.CycleSteps.{IsStart, IsPause, is_marking, is_sweeping, is_stack_refused, StepGcStart, StepGcFinish, StepGcNow, StepSweepTo}
use Rattle.gc_graph.specs.RegionSteps.{Answer, reply_line, line_of_content, joined, StepExport, StepImport, StepThreadsJoin}
use Rattle.gc_graph.specs.RegionSteps.Answer.{Replied, Told}
use Rattle.gc_graph.specs.Step.{Step}
use Rattle.gc_graph.specs.Commands.{told, Family, family_of}
use Rattle.gc_graph.specs.LineKinds.{tells_that_nothing_was_done, tells_of_orders}
use Rattle.gc_graph.specs.Families.{StaysElse, EndsWithOwners, TakesPiece, answers, TellsBefore, StaysInFamily, StepsStayInTheirFamily}
use Rattle.gc_graph.specs.Commands.Family.{Objects, Cycle, Sweeps, Region, Threads}
use Rattle.gc_graph.proofs.StepCases.{match_option, match_bool}
use Rattle.gc_graph.proofs.PlainSteps.{plain_step}
use Rattle.gc_graph.proofs.HistoryLaws.{sweep_follows}
use Rattle.gc_graph.proofs.ValidRegion.{took_own}
use Rattle.gc_graph.proofs.ThreadNumbers.{all_flat}
use Rattle.gc_graph.proofs.PlainFrames.{nothing_after, IsAnswer, one, quiet, same, refused, memory, plain_stays}

-- ---- what is done on the way

pub took_else : (s : State) (entries : List Entry)
    → took s entries ≡ record s { region = replayed s.region entries; may = (took s entries).may; unprinted = s.unprinted ++ entries }
took_else s [] = ap (λ es. record s { unprinted = es }) (sym (append-nil s.unprinted))
took_else s (entry ∷ entries) =
    took_else (with_entry s entry) entries
    ∙ ap (λ es. record s { region = replayed s.region (entry ∷ entries); may = (took s (entry ∷ entries)).may; unprinted = es })
    (append_assoc s.unprinted (entry ∷ []) entries)

abbrev SweepElse : State → State → Type 0
SweepElse old mid = mid ≡ record old { nodes = mid.nodes; phase = mid.phase; cursor = mid.cursor; finalised = mid.finalised }

swept_else : (phase : Phase) (shape : Shape) (old mid : State) (pages : ℕ) (numbers : List ℕ) → SweepsInPhase phase shape old pages numbers mid → SweepElse old mid
swept_else Idle shape old mid pages numbers h = subst (SweepElse old) (sym h.1) refl
swept_else Marking shape old mid pages numbers h = subst (SweepElse old) (sym h.1) refl
swept_else Sweeping shape old mid pages numbers h = subst (SweepElse old) (sym h.after) refl

swept_marks : (shape : Shape) (old mid : State) (pages : ℕ) (numbers : List ℕ) → SweepsTo shape old pages numbers mid → is_marking mid.phase ≡ is_marking old.phase
swept_marks shape old mid pages numbers h = (sweep_follows old.phase shape old pages numbers mid h).1 refl

-- the frame of the cycle, before the command is counted
abbrev CycleElse : State → List Entry → State → Type 0
CycleElse old piece new =
    new ≡ record old {
      nodes = new.nodes;
      weak = new.weak;
      region = replayed old.region piece;
      registrations = new.registrations;
      phase = new.phase;
      cursor = new.cursor;
      may = new.may;
      traced = new.traced;
      unprinted = old.unprinted ++ piece;
      pauses = new.pauses;
      finalised = new.finalised;
    }

counted : (old x new : State) (piece : List Entry) → new ≡ answered x → CycleElse old piece x → StaysElse Cycle old piece new
counted old x new piece e rest = subst (StaysElse Cycle old piece) (sym e) (ap answered rest)

-- a sweep before it
swept_cycle : (old mid new : State) (piece : List Entry) → SweepElse old mid → CycleElse mid piece new → CycleElse old piece new
swept_cycle old mid new piece swept rest =
    subst (λ (s : State). new ≡ record s {
      nodes = new.nodes;
      weak = new.weak;
      region = replayed s.region piece;
      registrations = new.registrations;
      phase = new.phase;
      cursor = new.cursor;
      may = new.may;
      traced = new.traced;
      unprinted = s.unprinted ++ piece;
      pauses = new.pauses;
      finalised = new.finalised;
    }) swept rest

start_cycle : (setup : Setup) (swept new : State) (piece : List Entry) → IsStart setup swept piece new → CycleElse swept piece new
start_cycle setup swept new piece h =
    subst (CycleElse swept piece) (sym h.after) (subst (λ s. CycleElse swept piece (marking s)) (sym (took_else swept piece)) refl)

-- the same threads run after a sweep, and after a start
pub swept_runs : (shape : Shape) (old mid : State) (pages : ℕ) (numbers : List ℕ) → SweepsTo shape old pages numbers mid → mid.running ≡ old.running
swept_runs shape old mid pages numbers h = ap (λ (s : State). s.running) (swept_else old.phase shape old mid pages numbers h)

pub start_runs : (setup : Setup) (swept new : State) (piece : List Entry) → IsStart setup swept piece new → new.running ≡ swept.running
start_runs setup swept new piece h = ap (λ (s : State). s.running) (start_cycle setup swept new piece h)

pause_cycle : (setup : Setup) (markers : ℕ) (want : Want) (old new : State) (piece : List Entry) (lines : List Line)
    → IsPause setup markers want old piece lines new → CycleElse old piece new
pause_cycle setup markers want old new piece lines h =
    let after : State = paused setup (took old h.before) (condemn h.kept (took old h.before).nodes) in
    let Ends : State → Type 0 = λ s. CycleElse old piece (record s {
      nodes = after.nodes;
      weak = after.weak;
      registrations = after.registrations;
      phase = after.phase;
      cursor = after.cursor;
      pauses = after.pauses;
    }) in
    subst (CycleElse old piece) (sym h.done.after)
    (subst Ends (took_own old h.before piece _ h.piece_is) (subst Ends (sym (took_else old piece)) refl))

-- a start, and then a pause
both_cycle : (old mid new : State) (xs ys : List Entry) → CycleElse old xs mid → CycleElse mid ys new → CycleElse old (xs ++ ys) new
both_cycle old mid new xs ys a b =
    let After : List RegionSlot → List Entry → State = λ region unprinted. record old {
      nodes = new.nodes;
      weak = new.weak;
      region = region;
      registrations = new.registrations;
      phase = new.phase;
      cursor = new.cursor;
      may = new.may;
      traced = new.traced;
      unprinted = unprinted;
      pauses = new.pauses;
      finalised = new.finalised;
    } in
    subst (λ (s : State). new ≡ record s {
      nodes = new.nodes;
      weak = new.weak;
      region = replayed s.region ys;
      registrations = new.registrations;
      phase = new.phase;
      cursor = new.cursor;
      may = new.may;
      traced = new.traced;
      unprinted = s.unprinted ++ ys;
      pauses = new.pauses;
      finalised = new.finalised;
    }) a b
    ∙ ap (λ region. After region ((old.unprinted ++ xs) ++ ys)) (sym (replayed-append old.region xs ys))
    ∙ ap (After (replayed old.region (xs ++ ys))) (append_assoc old.unprinted xs ys)

owners : (old s : State) (piece before : List Entry) (own : Entry) → s.running ≡ old.running → AreOthers s before → piece ≡ before ++ own ∷ [] → own.thread ≡ 0
    → (IsThreadOp own.op → ⊥) → EndsWithOwners old piece
owners old s piece before own same others is owner does = record {
  before = before;
  own = own;
  others = subst (λ (running : List ℕ). All (λ (entry : Entry). Contains running entry.thread × IsThreadOp entry.op) before) same others;
  piece_is = is;
  owner = owner;
  does = does;
}

-- ---- commands that sweep

-- nodes that were finalised, and then one line
after_sweep : (family : Family) (old : State) (piece : List Entry) (lines : List Line) (new : State) (numbers : List ℕ) (answer : Line)
    → TellsBefore family (finalise_lines numbers) → IsAnswer family old piece lines new answer → StaysElse family old piece new → TakesPiece family old piece
    → lines ≡ finalise_lines numbers ++ answer ∷ [] → StaysInFamily family old piece lines new
after_sweep family old piece lines new numbers answer before fits rest takes is = record {
  rest = rest;
  takes = takes;
  told = record {
    before = finalise_lines numbers;
    answer = answer;
    after = [];
    lines_are = is;
    first = before;
    fits = fits;
    then = nothing_after family;
  };
}

abbrev ObjectsElse : State → State → Type 0
ObjectsElse old new =
    new ≡ record old {
      nodes = new.nodes;
      slots = new.slots;
      registrations = new.registrations;
      phase = new.phase;
      cursor = new.cursor;
      may = new.may;
      ordinal = old.ordinal + 1;
      finalised = new.finalised;
      full = new.full;
    }

new_stays : (setup : Setup) (old new : State) (p t e : ℕ) (piece : List Entry) (lines : List Line) → piece ≡ [] → StepNew setup old p t e lines new
    → StaysInFamily Objects old piece lines new
new_stays setup old new p t e piece lines none h = elim h [
  | inl m ↦ memory Objects old piece lines new (none, m.1)
  | inr made ↦
      (let swept = swept_else old.phase setup.shape old made.mid made.placed.pages made.numbers made.placed.swept in
      let marks = swept_marks setup.shape old made.mid made.placed.pages made.numbers made.placed.swept in
      match_option made.place _ _ (StaysInFamily Objects old piece lines new)
      (λ full. after_sweep Objects old piece lines new made.numbers L.Full (made.numbers, refl) refl (
        ap (λ (s : State). is_marking s.phase) full.after ∙ marks,
        subst (ObjectsElse old) (sym full.after) (subst (λ s. ObjectsElse old (answered (record s { full = s.full + 1 }))) (sym swept) refl),
      ) none full.lines_are)
      (λ a done. after_sweep Objects old piece lines new made.numbers (L.Placed (length made.mid.nodes) a) (made.numbers, refl) refl (
        ap (λ (s : State). is_marking s.phase) done.after ∙ marks,
        subst (ObjectsElse old) (sym done.after)
            (subst (λ s. ObjectsElse old (answered (with_slot (with_new setup s t e a) p (Some (length s.nodes))))) (sym swept) refl),
      ) none done.lines_are) made.done)
]

sweep_to_stays : (setup : Setup) (old new : State) (pages : ℕ) (piece : List Entry) (lines : List Line) → piece ≡ [] → StepSweepTo setup old pages lines new
    → StaysInFamily Sweeps old piece lines new
sweep_to_stays setup old new pages piece lines none h =
    match_bool (is_sweeping old.phase) _ _ (StaysInFamily Sweeps old piece lines new)
    (λ s. after_sweep Sweeps old piece lines new s.numbers (L.Swept pages) (s.numbers, refl) refl (
      ap (λ (x : State). is_marking x.phase) s.after ∙ swept_marks setup.shape old s.swept pages s.numbers s.goes,
      subst (λ (x : State). x ≡ record old { nodes = x.nodes; phase = x.phase; cursor = x.cursor; ordinal = old.ordinal + 1; finalised = x.finalised }) (sym s.after)
          (ap answered (swept_else old.phase setup.shape old s.swept pages s.numbers s.goes)),
    ) none s.lines_are)
    (refused Sweeps old piece lines new R.Phase none) h

-- ---- the cycle

start_stays : (setup : Setup) (old new : State) (piece : List Entry) (lines : List Line) → StepGcStart setup old piece lines new → StaysInFamily Cycle old piece lines new
start_stays setup old new piece lines h =
    match_bool (is_marking old.phase) _ _ (StaysInFamily Cycle old piece lines new) (λ r. refused Cycle old piece lines new R.Phase r.0 r.1)
    (λ rest. elim rest [
      | inl m ↦ memory Cycle old piece lines new m
      | inr b ↦
          (let swept : SweepElse old b.swept = swept_else old.phase setup.shape old b.swept setup.shape.pages b.numbers b.ended in
          after_sweep Cycle old piece lines new b.numbers L.Started (b.numbers, refl) refl
          (counted old b.started new piece b.after (swept_cycle old b.swept b.started piece swept (start_cycle setup b.swept b.started piece b.start)))
          (inr (inl (owners old b.swept piece b.start.before _ (ap (λ (s : State). s.running) swept) b.start.others b.start.piece_is refl (λ t. t)))) b.lines_are)
    ]) h

-- a pause, after nodes that were finalised
paused_stays : (setup : Setup) (markers : ℕ) (want : Want) (old mid after new : State) (piece second : List Entry) (numbers : List ℕ) (lines told : List Line)
    → CycleElse old piece after → IsPause setup markers want mid second told after → new ≡ answered after → lines ≡ finalise_lines numbers ++ told
    → TakesPiece Cycle old piece → StaysInFamily Cycle old piece lines new
paused_stays setup markers want old mid after new piece second numbers lines told rest pause e is takes =
    let judged_nodes : List Node = condemn pause.kept (took mid pause.before).nodes in
    record {
      rest = counted old after new piece e rest;
      takes = takes;
      told = record {
        before = finalise_lines numbers;
        answer = L.Pause (live_count judged_nodes) (dead_count judged_nodes) pause.done.crew pause.done.traced pause.done.walked;
        after = callback_lines (weak_calls setup.types judged_nodes) (run_order judged_nodes (took mid pause.before).registrations);
        lines_are = is ∙ ap (λ ls. finalise_lines numbers ++ ls) pause.done.lines_are;
        first = (numbers, refl);
        fits = refl;
        then = (weak_calls setup.types judged_nodes, run_order judged_nodes (took mid pause.before).registrations, refl);
      };
    }

finish_stays : (setup : Setup) (want : Want) (old new : State) (piece : List Entry) (lines : List Line) → StepGcFinish setup want old piece lines new
    → StaysInFamily Cycle old piece lines new
finish_stays setup want old new piece lines h =
    match_bool (is_marking old.phase) _ _ (StaysInFamily Cycle old piece lines new)
    (λ rest. match_bool (is_stack_refused want old.stack) _ _ (StaysInFamily Cycle old piece lines new) (λ r. refused Cycle old piece lines new R.Stack r.0 r.1)
    (λ f. paused_stays setup setup.markers want old old f.0 new piece piece [] lines lines (pause_cycle setup setup.markers want old f.0 piece lines f.1) f.1 f.2 refl
    (inr (inl (owners old old piece f.1.before _ refl f.1.others f.1.piece_is refl (λ t. t))))) rest)
    (λ r. refused Cycle old piece lines new R.Phase r.0 r.1) h

now_stays : (setup : Setup) (want : Want) (old new : State) (piece : List Entry) (lines : List Line) → StepGcNow setup want old piece lines new
    → StaysInFamily Cycle old piece lines new
now_stays setup want old new piece lines h =
    match_bool (is_marking old.phase) _ _ (StaysInFamily Cycle old piece lines new) (λ r. refused Cycle old piece lines new R.Phase r.0 r.1)
    (λ rest. match_bool (is_stack_refused want old.stack) _ _ (StaysInFamily Cycle old piece lines new) (λ r. refused Cycle old piece lines new R.Stack r.0 r.1)
    (λ more. elim more [
      | inl m ↦ memory Cycle old piece lines new m
      | inr c ↦
          (let swept : SweepElse old c.swept = swept_else old.phase setup.shape old c.swept setup.shape.pages c.numbers c.ended in
          let started : CycleElse old c.first c.started =
          swept_cycle old c.swept c.started c.first swept (start_cycle setup c.swept c.started c.first c.start) in
          let both : CycleElse old (c.first ++ c.second) c.paused =
          both_cycle old c.started c.paused c.first c.second started (pause_cycle setup 0 want c.started c.paused c.second c.pause_lines c.pause) in
          paused_stays setup 0 want old c.started c.paused new piece c.second c.numbers lines c.pause_lines
          (subst (λ es. CycleElse old es c.paused) (sym c.piece_is) both) c.pause c.after c.lines_are
          (inr (inr (
            c.first,
            c.second,
            c.piece_is,
            owners old c.swept c.first c.start.before _ (ap (λ (s : State). s.running) swept) c.start.others c.start.piece_is refl (λ t. t),
            owners old c.started c.second c.pause.before _ (ap (λ (s : State). s.running) started) c.pause.others c.pause.piece_is refl (λ t. t),
          ))))
    ]) rest) h

-- ---- the region and threads

export_stays : (old new : State) (p x : ℕ) (piece : List Entry) (lines : List Line) → StepExport old p x piece lines new → StaysInFamily Region old piece lines new
export_stays old new p x piece lines h =
    match_option (slot_at old p) _ _ (StaysInFamily Region old piece lines new) (λ r. refused Region old piece lines new R.Null r.0 r.1)
    (λ n done. elim done [
      | inl m ↦ memory Region old piece lines new m
      | inr e ↦
          one Region old piece lines new L.Fine refl
          (subst (StaysElse Region old piece) (sym e.after) (subst (λ s. StaysElse Region old piece (answered s)) (sym (took_else old piece)) refl))
          (inr (owners old old piece e.before _ refl e.takes.others e.takes.piece_is refl (λ t. t))) e.lines_are
    ]) h

content_answers : (content : Option ℕ) → (tells_that_nothing_was_done (line_of_content content) || answers Region (line_of_content content)) ≡ true
content_answers None = refl
content_answers (Some n) = refl

import_stays : (old new : State) (x p : ℕ) (piece : List Entry) (lines : List Line) → StepImport old x p piece lines new → StaysInFamily Region old piece lines new
import_stays old new x p piece lines h = elim h [
  | inl m ↦ memory Region old piece lines new m
  | inr i ↦
      (let content : Option ℕ = node_of (region_slot (took old i.before).region x) in
      one Region old piece lines new (line_of_content content) (content_answers content)
      (subst (StaysElse Region old piece) (sym i.after) (subst (λ s. StaysElse Region old piece (answered (with_slot s p content))) (sym (took_else old piece)) refl))
      (inr (owners old old piece i.before _ refl i.takes.others i.takes.piece_is refl (λ t. t))) i.lines_are)
]

reply_told : (j : ℕ) (answer : Answer) → tells_of_orders (reply_line j answer) ≡ true
reply_told j (Replied reply) = refl
reply_told j (Told o n u f) = refl

join_stays : (old new : State) (piece : List Entry) (lines : List Line) → StepThreadsJoin old piece lines new → StaysInFamily Threads old piece lines new
join_stays old new piece lines h =
    let IsTold : Line → Type 0 = λ line. tells_of_orders line ≡ true in
    let entries : List Line = map (λ entry. L.Entry entry) (took old piece).unprinted in
    let replies = all_flat IsTold (λ j. map (reply_line j) (h.answers j)) old.running
    (λ i d low. All-map IsTold (reply_line _) (h.answers _) (λ k e below. reply_told _ _)) in
    record {
      rest = subst (StaysElse Threads old piece) (sym h.after) (subst (λ s. StaysElse Threads old piece (answered (joined s))) (sym (took_else old piece)) refl);
      takes = h.others;
      told = record {
        before = flat_map (λ j. map (reply_line j) (h.answers j)) old.running ++ entries;
        answer = L.Joined (length old.running);
        after = [];
        lines_are = h.lines_are;
        first = All-append IsTold _ entries replies (All-map IsTold (λ entry. L.Entry entry) (took old piece).unprinted (λ i d low. refl));
        fits = refl;
        then = refl;
      };
    }

-- ---- every command

step_stays : (setup : Setup) (old new : State) (command : Command) (piece : List Entry) (lines : List Line) → Step setup old command piece lines new
    → StaysInFamily (family_of command) old piece lines new
step_stays setup old new (C.New p t e) piece lines h = new_stays setup old new p t e piece lines h.0 h.1
step_stays setup old new C.GcStart piece lines h = start_stays setup old new piece lines h
step_stays setup old new (C.GcStep n) piece lines h =
    match_bool (is_marking old.phase) _ _ (StaysInFamily Cycle old piece lines new)
    (λ t. quiet Cycle old piece lines new _ refl h.0 (subst (StaysElse Cycle old []) (sym t.after) (ap (λ es. record old { traced = old.traced + t.count; unprinted = es; ordinal = old.ordinal + 1 }) (sym (append-nil old.unprinted)))) t.lines_are) (refused Cycle old piece lines new R.Phase h.0) h.1
step_stays setup old new (C.GcFinish want) piece lines h = finish_stays setup want old new piece lines h
step_stays setup old new (C.GcNow want) piece lines h = now_stays setup want old new piece lines h
step_stays setup old new (C.Sweep n) piece lines h = sweep_to_stays setup old new _ piece lines h.0 h.1
step_stays setup old new C.SweepAll piece lines h = sweep_to_stays setup old new _ piece lines h.0 h.1
step_stays setup old new C.Stat piece lines h = same Sweeps old piece lines new _ refl h.0 (h.1.2, h.1.3)
step_stays setup old new (C.Export p x) piece lines h = export_stays old new p x piece lines h
step_stays setup old new (C.Import x p) piece lines h = import_stays old new x p piece lines h
step_stays setup old new (C.At j order) piece lines h = elim h.1 [
  | inl m ↦ memory Threads old piece lines new (h.0, m)
  | inr d ↦ quiet Threads old piece lines new L.Queued refl h.0 (subst (StaysElse Threads old []) (sym d.1) refl) d.0
]
step_stays setup old new C.ThreadsGo piece lines h = elim h.1 [
  | inl d ↦ quiet Threads old piece lines new L.Memory refl h.0 (subst (StaysElse Threads old []) (sym d.1) refl) d.0
  | inr d ↦ quiet Threads old piece lines new _ refl h.0 (subst (StaysElse Threads old []) (sym d.1) refl) d.0
]
step_stays setup old new C.ThreadsJoin piece lines h = join_stays old new piece lines h
step_stays setup old new command piece lines h = plain_stays old new command piece lines refl (plain_step setup old new command piece lines refl h)

pub steps_stay_in_their_family : StepsStayInTheirFamily
steps_stay_in_their_family setup old command piece lines new h = step_stays setup old new command piece lines h
