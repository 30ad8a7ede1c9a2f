-- How each command is answered.
use Rattle.std.proofs.Common.{◌≡◌, ◌≢◌, ℕ, List, [], ◌∷◌, ◌++◌, length, map, Option, Some, None, refl, sym, ap, ◌∙◌, subst, inl, inr, arith, All, Contains}
use Rattle.std.specs.List.{flat_map}
use Rattle.std.proofs.lemmas.List.{length-append}
use Rattle.std.proofs.lemmas.List.Elements.{All-nil, All-cons, All-append, All-contains}
use Rattle.gc_graph.specs.declared.command.Command.{Command}
use Rattle.gc_graph.specs.declared.command.Command.TheVariants as C
use Rattle.gc_graph.specs.declared.command.Want.{Want}
use Rattle.gc_graph.specs.declared.line.Line.{Line}
use Rattle.gc_graph.specs.declared.line.Line.TheVariants as L
use Rattle.gc_graph.specs.declared.line.Refusal.{Refusal}
use Rattle.gc_graph.specs.declared.line.Refusal.TheVariants as R
use Rattle.gc_graph.specs.declared.region.Entry.{Entry}
use Rattle.gc_graph.specs.State.{Setup, State}
use Rattle.gc_graph.specs.History.{node_of, region_slot}
use Rattle.gc_graph.specs.Outcomes.{IsRefused, finalise_lines, took, slot_at}
use Rattle.gc_graph.specs.ObjectSteps.{StepNew}
use Rattle.gc_graph.specs.CycleSteps.{is_marking, is_sweeping, is_stack_refused, StepGcStart, StepGcFinish, StepGcNow, StepSweepTo}
use Rattle.gc_graph.specs.RegionSteps.{Answer, reply_line, line_of_content, StepThreadsJoin}
use Rattle.gc_graph.specs.RegionSteps.Answer.{Replied, Told}
use Rattle.gc_graph.specs.Step.{Step}
use Rattle.gc_graph.specs.AnswersLaw.{IsAnsweredInKind, CommandsAreAnsweredInKind}
use Rattle.gc_graph.proofs.Called.{each_callback_line}
use Rattle.gc_graph.proofs.StepCases.{match_option, match_bool}
use Rattle.gc_graph.proofs.Effects.{line_of_effect, IsInKind}
use Rattle.gc_graph.proofs.PlainSteps.{plain_step}

-- ---- lines of a command's kind

module _ (command : Command) (lines : List Line) where
  none_is_less : (before : List Line) (told : Line) (rest : List Line) → before ++ told ∷ rest ≢ []
  none_is_less before told rest e =
      (let long : length (before ++ told ∷ rest) ≡ 0 = ap length e in omega (arith, long, length-append before (told ∷ rest)))

  in_kind : (before : List Line) (told : Line) (rest : List Line) → lines ≡ before ++ told ∷ rest → All (IsInKind command) before → IsInKind command told
      → All (IsInKind command) rest → IsAnsweredInKind command lines
  in_kind before told rest e first here last = record {
    some = λ none. none_is_less before told rest (sym e ∙ none);
    kind = λ x c.
        All-contains (IsInKind command) (before ++ told ∷ rest) x
        (All-append (IsInKind command) before (told ∷ rest) first (All-cons (IsInKind command) told rest here last)) (subst (λ ls. Contains ls x) e c);
  }

  one : (told : Line) → IsInKind command told → lines ≡ told ∷ [] → IsAnsweredInKind command lines
  one told fits e = in_kind [] told [] e (All-nil (IsInKind command)) fits (All-nil (IsInKind command))

  refused : (old new : State) (why : Refusal) → IsRefused why old lines new → IsAnsweredInKind command lines
  refused old new why r = one (L.Refused why) refl r.0

  memory : lines ≡ L.Memory ∷ [] → IsAnsweredInKind command lines
  memory e = one L.Memory refl e

  all_finalised : ((n : ℕ) → IsInKind command (L.Finalise n)) → (numbers : List ℕ) → All (IsInKind command) (finalise_lines numbers)
  all_finalised fits [] = All-nil (IsInKind command)
  all_finalised fits (n ∷ numbers) = All-cons (IsInKind command) (L.Finalise n) (finalise_lines numbers) (fits n) (all_finalised fits numbers)

  after_sweep : ((n : ℕ) → IsInKind command (L.Finalise n)) → (numbers : List ℕ) (told : Line) → IsInKind command told → lines ≡ finalise_lines numbers ++ told ∷ []
      → IsAnsweredInKind command lines
  after_sweep fits numbers told here e = in_kind (finalise_lines numbers) told [] e (all_finalised fits numbers) here (All-nil (IsInKind command))

  sweep_to : ((n : ℕ) → IsInKind command (L.Finalise n)) → ((c : ℕ) → IsInKind command (L.Swept c)) → (setup : Setup) (old new : State) (pages : ℕ)
      → StepSweepTo setup old pages lines new → IsAnsweredInKind command lines
  sweep_to gone swept setup old new pages h =
      match_bool (is_sweeping old.phase) _ _ _ (λ s. after_sweep gone s.numbers (L.Swept pages) (swept pages) s.lines_are)
      (λ r. refused old new R.Phase r) h

-- ---- the longer answers

content_fits : (command : Command) → ((n : ℕ) → IsInKind command (L.Node n)) → IsInKind command L.Null → (content : Option ℕ) → IsInKind command (line_of_content content)
content_fits command node null None = null
content_fits command node null (Some n) = node n

new_answer : (setup : Setup) (old new : State) (p t e : ℕ) (lines : List Line) → StepNew setup old p t e lines new → IsAnsweredInKind (C.New p t e) lines
new_answer setup old new p t e lines h = elim h [
  | inl m ↦ memory (C.New p t e) lines m.1.0
  | inr made ↦
      match_option made.place _ _ _ (λ full. after_sweep (C.New p t e) lines (λ n. refl) made.numbers L.Full refl full.lines_are)
      (λ a d. after_sweep (C.New p t e) lines (λ n. refl) made.numbers (L.Placed (length made.mid.nodes) a) refl d.lines_are) made.done
]

start_answer : (setup : Setup) (old new : State) (piece : List Entry) (lines : List Line) → StepGcStart setup old piece lines new
    → IsAnsweredInKind C.GcStart lines
start_answer setup old new piece lines h =
    match_bool (is_marking old.phase) _ _ _ (λ r. refused C.GcStart lines old new R.Phase r.1)
    (λ rest. elim rest [
      | inl m ↦ memory C.GcStart lines m.1.0
      | inr b ↦ after_sweep C.GcStart lines (λ n. refl) b.numbers L.Started refl b.lines_are
    ]) h

finish_answer : (setup : Setup) (want : Want) (old new : State) (piece : List Entry) (lines : List Line) → StepGcFinish setup want old piece lines new
    → IsAnsweredInKind (C.GcFinish want) lines
finish_answer setup want old new piece lines h =
    match_bool (is_marking old.phase) _ _ _
    (λ rest. match_bool (is_stack_refused want old.stack) _ _ _ (λ r. refused (C.GcFinish want) lines old new R.Stack r.1)
    (λ f. in_kind (C.GcFinish want) lines [] _ _ f.1.done.lines_are (All-nil (IsInKind (C.GcFinish want))) refl
    (each_callback_line (IsInKind (C.GcFinish want)) (λ n d. refl) (λ n c. refl) _ _)) rest)
    (λ r. refused (C.GcFinish want) lines old new R.Phase r.1) h

now_answer : (setup : Setup) (want : Want) (old new : State) (piece : List Entry) (lines : List Line) → StepGcNow setup want old piece lines new
    → IsAnsweredInKind (C.GcNow want) lines
now_answer setup want old new piece lines h =
    match_bool (is_marking old.phase) _ _ _ (λ r. refused (C.GcNow want) lines old new R.Phase r.1)
    (λ rest. match_bool (is_stack_refused want old.stack) _ _ _ (λ r. refused (C.GcNow want) lines old new R.Stack r.1)
    (λ more. elim more [
      | inl m ↦ memory (C.GcNow want) lines m.1.0
      | inr c ↦
          in_kind (C.GcNow want) lines (finalise_lines c.numbers) _ _
          (c.lines_are ∙ ap (λ ls. finalise_lines c.numbers ++ ls) c.pause.done.lines_are)
          (all_finalised (C.GcNow want) lines (λ n. refl) c.numbers) refl (each_callback_line (IsInKind (C.GcNow want)) (λ n d. refl) (λ n c. refl) _ _)
    ]) rest) h

-- ---- a join

all_replies : (j : ℕ) (answers : List Answer) → All (IsInKind C.ThreadsJoin) (map (reply_line j) answers)
all_replies j [] = All-nil (IsInKind C.ThreadsJoin)
all_replies j (Replied reply ∷ answers) = All-cons (IsInKind C.ThreadsJoin) (L.Reply j reply) (map (reply_line j) answers) refl (all_replies j answers)
all_replies j (Told o n u f ∷ answers) = All-cons (IsInKind C.ThreadsJoin) (L.ReplyTotals j o n u f) (map (reply_line j) answers) refl (all_replies j answers)

all_answers : (answers : ℕ → List Answer) (threads : List ℕ) → All (IsInKind C.ThreadsJoin) (flat_map (λ j. map (reply_line j) (answers j)) threads)
all_answers answers [] = All-nil (IsInKind C.ThreadsJoin)
all_answers answers (j ∷ threads) =
    All-append (IsInKind C.ThreadsJoin) (map (reply_line j) (answers j)) (flat_map (λ j. map (reply_line j) (answers j)) threads) (all_replies j (answers j))
    (all_answers answers threads)

all_entries : (entries : List Entry) → All (IsInKind C.ThreadsJoin) (map (λ entry. L.Entry entry) entries)
all_entries [] = All-nil (IsInKind C.ThreadsJoin)
all_entries (entry ∷ entries) = All-cons (IsInKind C.ThreadsJoin) (L.Entry entry) (map (λ entry. L.Entry entry) entries) refl (all_entries entries)

join_answer : (old new : State) (piece : List Entry) (lines : List Line) → StepThreadsJoin old piece lines new → IsAnsweredInKind C.ThreadsJoin lines
join_answer old new piece lines h =
    in_kind C.ThreadsJoin lines _ (L.Joined (length old.running)) [] h.lines_are
    (All-append (IsInKind C.ThreadsJoin) _ _ (all_answers h.answers old.running) (all_entries (took old piece).unprinted)) refl (All-nil (IsInKind C.ThreadsJoin))

-- ---- every command

answered : (setup : Setup) (old new : State) (command : Command) (piece : List Entry) (lines : List Line) → Step setup old command piece lines new
    → IsAnsweredInKind command lines
answered setup old new (C.New p t e) piece lines h = new_answer setup old new p t e lines h.1
answered setup old new C.GcStart piece lines h = start_answer setup old new piece lines h
answered setup old new (C.GcStep n) piece lines h =
    match_bool (is_marking old.phase) _ _ _ (λ t. one (C.GcStep n) lines _ refl t.lines_are) (λ r. refused (C.GcStep n) lines old new R.Phase r) h.1
answered setup old new (C.GcFinish want) piece lines h = finish_answer setup want old new piece lines h
answered setup old new (C.GcNow want) piece lines h = now_answer setup want old new piece lines h
answered setup old new (C.Sweep n) piece lines h = sweep_to (C.Sweep n) lines (λ k. refl) (λ c. refl) setup old new _ h.1
answered setup old new C.SweepAll piece lines h = sweep_to C.SweepAll lines (λ k. refl) (λ c. refl) setup old new _ h.1
answered setup old new C.Stat piece lines h = one C.Stat lines _ refl h.1.2
answered setup old new (C.Export p x) piece lines h =
    match_option (slot_at old p) _ _ _ (λ r. refused (C.Export p x) lines old new R.Null r.1)
    (λ n done. elim done [
      | inl m ↦ memory (C.Export p x) lines m.1.0
      | inr e ↦ one (C.Export p x) lines L.Fine refl e.lines_are
    ]) h
answered setup old new (C.Import x p) piece lines h = elim h [
  | inl m ↦ memory (C.Import x p) lines m.1.0
  | inr i ↦ one (C.Import x p) lines _ (content_fits (C.Import x p) (λ n. refl) refl (node_of (region_slot (took old i.before).region x))) i.lines_are
]
answered setup old new (C.At j order) piece lines h = elim h.1 [
  | inl m ↦ memory (C.At j order) lines m.0
  | inr d ↦ one (C.At j order) lines L.Queued refl d.0
]
answered setup old new C.ThreadsGo piece lines h = elim h.1 [
  | inl d ↦ memory C.ThreadsGo lines d.0
  | inr d ↦ one C.ThreadsGo lines _ refl d.0
]
answered setup old new C.ThreadsJoin piece lines h = join_answer old new piece lines h
answered setup old new command piece lines h =
    let c = plain_step setup old new command piece lines refl h in one command lines (line_of_effect c.effect) c.kind c.lines_are

pub commands_are_answered_in_kind : CommandsAreAnsweredInKind
commands_are_answered_in_kind setup old new command piece lines h = answered setup old new command piece lines h
