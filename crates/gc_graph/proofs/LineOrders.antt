-- The lines of each command, in order: nodes that were finalised, and then the answer.
use Rattle.std.proofs.Common.{◌≡◌, ℕ, true, false, true≢false, List, [], ◌∷◌, ◌++◌, length, refl, sym, ap, ◌∙◌, ◌||◌, subst, inl, inr, All}
use Rattle.std.proofs.lemmas.List.Elements.{All-nil, All-cons, All-append}
use Rattle.gc_graph.specs.declared.command.Command.{Command}
use Rattle.gc_graph.specs.declared.command.Command.TheVariants as C
use Rattle.gc_graph.specs.declared.command.Want.{Want}
use Rattle.gc_graph.specs.declared.line.Line.{Line}
use Rattle.gc_graph.specs.declared.line.Line.TheVariants as L
use Rattle.gc_graph.specs.declared.line.Refusal.{Refusal}
use Rattle.gc_graph.specs.declared.region.Entry.{Entry}
use Rattle.gc_graph.specs.State.{Setup, State}
use Rattle.gc_graph.specs.Outcomes.{IsRefused, finalise_lines}
use Rattle.gc_graph.specs.CycleSteps.{is_marking, is_stack_refused, StepGcStart, StepGcFinish}
use Rattle.gc_graph.specs.Step.{Step}
use Rattle.gc_graph.specs.LineOrderLaw.{tells_finalised, AreFinalisedFirst, FinalisedAreToldFirst}
use Rattle.gc_graph.specs.Commands.{may_sweep, may_tell_more, Family, family_of}
use Rattle.gc_graph.specs.LineKinds.{tells_that_nothing_was_done, tells_of_orders}
use Rattle.gc_graph.proofs.Called.{each_callback_line}
use Rattle.gc_graph.proofs.StepCases.{match_bool}
use Rattle.gc_graph.specs.declared.line.Refusal.TheVariants as R
use Rattle.gc_graph.specs.Families.{answers, AreFinalised, TellsAfter, IsAnsweredOnce}
use Rattle.gc_graph.specs.Commands.Family.{Objects, Cycle, Sweeps, Threads}
use Rattle.gc_graph.specs.FamilyLines.{tells_one, all_told}
use Rattle.gc_graph.proofs.FamilyFrames.{steps_stay_in_their_family}
use Rattle.gc_graph.proofs.FamilyRests.{none_after}

abbrev IsOther : Line → Type 0
IsOther line = tells_finalised line ≡ false

-- ---- forms of lines

one : (answer : Line) → IsOther answer → All IsOther (answer ∷ [])
one answer other = All-cons IsOther answer [] other (All-nil IsOther)

-- one line, of no finalised node
said : (command : Command) (lines : List Line) (answer : Line) → IsOther answer → lines ≡ answer ∷ [] → AreFinalisedFirst command lines
said command lines answer other is = record {
  numbers = [];
  answer = answer ∷ [];
  lines_are = is;
  none_later = one answer other;
  none_without_sweep = λ none. refl;
  one_answer = λ few. refl;
}

refused : (command : Command) (old new : State) (lines : List Line) (why : Refusal) → IsRefused why old lines new → AreFinalisedFirst command lines
refused command old new lines why r = said command lines (L.Refused why) refl r.0

-- nodes that were finalised, and then other lines: one, where the command tells no more
swept : (command : Command) (lines before after : List Line) (answer : Line) → may_sweep command ≡ true → AreFinalised before → IsOther answer
    → All IsOther after → (may_tell_more command ≡ false → after ≡ []) → lines ≡ before ++ answer ∷ after → AreFinalisedFirst command lines
swept command lines before after answer sweeps first other then few is = record {
  numbers = first.0;
  answer = answer ∷ after;
  lines_are = is ∙ ap (λ told. told ++ answer ∷ after) first.1;
  none_later = All-cons IsOther answer after other then;
  none_without_sweep = λ none. absurd (true≢false (sym sweeps ∙ none));
  one_answer = λ alone. ap (λ told. length (answer ∷ told)) (few alone);
}

-- lines of no finalised node, of a command that may tell more
others : (command : Command) (lines : List Line) → may_tell_more command ≡ true → All IsOther lines → AreFinalisedFirst command lines
others command lines more all = record {
  numbers = [];
  answer = lines;
  lines_are = refl;
  none_later = all;
  none_without_sweep = λ none. refl;
  one_answer = λ few. absurd (true≢false (sym more ∙ few));
}

-- ---- by families

answers_other : (family : Family) (n : ℕ) → answers family (L.Finalise n) ≡ false
answers_other Objects n = refl
answers_other family n = refl

-- no answer tells a finalised node
answer_other : (family : Family) (answer : Line) → (tells_that_nothing_was_done answer || answers family answer) ≡ true → IsOther answer
answer_other family (L.Finalise n) fits = absurd (true≢false (sym fits ∙ answers_other family n))
answer_other family answer fits = refl

order_other : (line : Line) → tells_of_orders line ≡ true → IsOther line
order_other (L.Finalise n) is = absurd (true≢false (sym is))
order_other other is = refl

after_other : (family : Family) (told : List Line) → TellsAfter family told → All IsOther told
after_other family told h = none_after tells_finalised (λ n d. refl) (λ n c. refl) family told h

-- a command whose family tells one line
tells_alone : (command : Command) (lines : List Line) → tells_one (family_of command) ≡ true → IsAnsweredOnce (family_of command) lines → AreFinalisedFirst command lines
tells_alone command lines its h = said command lines h.answer (answer_other (family_of command) h.answer h.fits) (all_told (family_of command) lines its h)

-- ---- commands of the cycle, and a join

start_lines : (setup : Setup) (old new : State) (piece : List Entry) (lines : List Line) → StepGcStart setup old piece lines new → AreFinalisedFirst C.GcStart lines
start_lines setup old new piece lines h =
    match_bool (is_marking old.phase) _ _ _ (λ r. refused C.GcStart old new lines R.Phase r.1)
    (λ rest. elim rest [
      | inl memory ↦ said C.GcStart lines L.Memory refl memory.1.0
      | inr b ↦ swept C.GcStart lines (finalise_lines b.numbers) [] L.Started refl (b.numbers, refl) refl (All-nil IsOther) (λ few. refl) b.lines_are
    ]) h

finish_lines : (setup : Setup) (want : Want) (old new : State) (piece : List Entry) (lines : List Line) → StepGcFinish setup want old piece lines new
    → AreFinalisedFirst (C.GcFinish want) lines
finish_lines setup want old new piece lines h =
    match_bool (is_marking old.phase) _ _ _
    (λ rest. match_bool (is_stack_refused want old.stack) _ _ _ (λ r. refused (C.GcFinish want) old new lines R.Stack r.1)
    (λ f. others (C.GcFinish want) lines refl (subst (All IsOther) (sym f.1.done.lines_are)
    (All-cons IsOther _ _ refl (each_callback_line IsOther (λ n d. refl) (λ n c. refl) _ _)))) rest)
    (λ r. refused (C.GcFinish want) old new lines R.Phase r.1) h

join_lines : (lines : List Line) → IsAnsweredOnce Threads lines → AreFinalisedFirst C.ThreadsJoin lines
join_lines lines h =
    others C.ThreadsJoin lines refl (subst (All IsOther) (sym h.lines_are)
    (All-append IsOther h.before (h.answer ∷ h.after) (λ i d low. order_other _ (h.first i d low))
    (All-cons IsOther h.answer h.after (answer_other Threads h.answer h.fits) (after_other Threads h.after h.then))))

-- ---- every command

first_told : (setup : Setup) (old new : State) (command : Command) (piece : List Entry) (lines : List Line) → Step setup old command piece lines new
    → IsAnsweredOnce (family_of command) lines → AreFinalisedFirst command lines
first_told setup old new (C.New p t e) piece lines h told =
    swept (C.New p t e) lines told.before told.after told.answer refl told.first (answer_other Objects told.answer told.fits) (after_other Objects told.after told.then)
    (λ few. told.then) told.lines_are
first_told setup old new (C.Sweep n) piece lines h told =
    swept (C.Sweep n) lines told.before told.after told.answer refl told.first (answer_other Sweeps told.answer told.fits) (after_other Sweeps told.after told.then)
    (λ few. told.then) told.lines_are
first_told setup old new C.SweepAll piece lines h told =
    swept C.SweepAll lines told.before told.after told.answer refl told.first (answer_other Sweeps told.answer told.fits) (after_other Sweeps told.after told.then)
    (λ few. told.then) told.lines_are
first_told setup old new (C.GcNow want) piece lines h told =
    swept (C.GcNow want) lines told.before told.after told.answer refl told.first (answer_other Cycle told.answer told.fits) (after_other Cycle told.after told.then)
    (λ few. absurd (true≢false few)) told.lines_are
first_told setup old new C.Stat piece lines h told = said C.Stat lines _ refl h.1.2
first_told setup old new C.GcStart piece lines h told = start_lines setup old new piece lines h
first_told setup old new (C.GcStep n) piece lines h told =
    match_bool (is_marking old.phase) _ _ _ (λ t. said (C.GcStep n) lines _ refl t.lines_are) (refused (C.GcStep n) old new lines R.Phase) h.1
first_told setup old new (C.GcFinish want) piece lines h told = finish_lines setup want old new piece lines h
first_told setup old new (C.At j order) piece lines h told =
    elim h.1 [ inl memory ↦ said (C.At j order) lines L.Memory refl memory.0 | inr d ↦ said (C.At j order) lines L.Queued refl d.0 ]
first_told setup old new C.ThreadsGo piece lines h told =
    elim h.1 [ inl memory ↦ said C.ThreadsGo lines L.Memory refl memory.0 | inr d ↦ said C.ThreadsGo lines _ refl d.0 ]
first_told setup old new C.ThreadsJoin piece lines h told = join_lines lines told
first_told setup old new command piece lines h told = tells_alone command lines refl told

pub finalised_are_told_first : FinalisedAreToldFirst
finalised_are_told_first setup old new command piece lines h =
    first_told setup old new command piece lines h (steps_stay_in_their_family setup old command piece lines new h).told
