-- What a run answers, where its bytes were read.
use Rattle.std.proofs.Common.{◌≡◌, ℕ, ◌==◌, Bool, true, false, true≢false, cond, List, [], length, Option, option_map, Some, None, refl, sym, ap, ◌∙◌, subst, inl, inr, arith}
use Rattle.std.specs.Prelude.{MatchOption, not, is_some}
use Rattle.std.proofs.lemmas.Bool.{eq-eqb, eqb-true}
use Rattle.text_devices.specs.Devices.{Grew, IsReadFrom}
use Rattle.heap_script.specs.declared.script.ScriptFault.{ScriptFault}
use Rattle.heap_script.specs.Scripts.{IsFaultOf}
use Rattle.heap_engine.specs.View.{View}
use Rattle.script_run.specs.declared.status.Status.{Status}
use Rattle.script_run.specs.declared.status.Status.TheVariants as S
use Rattle.command_line.specs.declared.options.Generated.{Generated}
use Rattle.command_line.specs.declared.options.Options.{Options}
use Rattle.command_line.specs.Options.{options_asked}
use Rattle.script_run.specs.Headline.{RunsBytes, RunsScript, status_of_fault, IsScriptInput, IsScriptRun, IsDone, IsStopped, IsFaultyInput, needs_input, reads_input, tells_of_input}
use Rattle.script_generator.specs.Generated.{generated}
use Rattle.script_run.proofs.Inputs.{read_whole_of}
use Rattle.gc_graph.specs.declared.action.ActionKind.{ActionKind}
use Rattle.gc_graph.specs.Script.{Script, IsScript}
use Rattle.script_run.specs.Setting.{Plan, plan_asked}

-- an answer to the script is one to its bytes
pub bytes_of_script : (kinds : List ActionKind) (options : Options) (bytes : List ℕ) (script : Script) (w z : Option (List ℕ)) (kept : Option View) (status : Status)
    → IsScript (length kinds) bytes script → RunsScript kinds options.summary (plan_asked options) script w z kept status → RunsBytes kinds options bytes w z kept status
bytes_of_script kinds options bytes script w z kept S.Done is answer = (script, is, answer)
bytes_of_script kinds options bytes script w z kept S.WriteFault is answer = (script, is, answer)
bytes_of_script kinds options bytes script w z kept S.NoMemory is answer = answer
bytes_of_script kinds options bytes script w z kept S.TooLong is answer = absurd answer
bytes_of_script kinds options bytes script w z kept (S.Script line reason) is answer = absurd answer
bytes_of_script kinds options bytes script w z kept S.ReadFault is answer = absurd answer
bytes_of_script kinds options bytes script w z kept S.Usage is answer = absurd answer

-- a fault of the bytes is told as it is
pub bytes_of_fault : (kinds : List ActionKind) (options : Options) (bytes : List ℕ) (w z : Option (List ℕ)) (kept : Option View) (fault : ScriptFault)
    → (kept ≡ None) × Grew w z [] → IsFaultOf (length kinds) bytes fault → RunsBytes kinds options bytes w z kept (status_of_fault fault)
bytes_of_fault kinds options bytes w z kept fault silent is = by_tests (fault.reason == 0) (fault.line == 0) refl refl is where
  by_tests : (none long : Bool) → (fault.reason == 0) ≡ none → (fault.line == 0) ≡ long → IsFaultOf (length kinds) bytes fault
      → RunsBytes kinds options bytes w z kept (cond none S.NoMemory (cond long S.TooLong (S.Script fault.line fault.reason)))
  by_tests true long r l is = silent
  by_tests false long r l (inl none) = absurd (true≢false (sym (eq-eqb fault.reason 0 none) ∙ r))
  by_tests false true r l (inr (inl over)) = (silent.0, silent.1, over.0)
  by_tests false true r l (inr (inr (limits, found))) = absurd (omega (arith, found.2, eqb-true fault.line 0 l))
  by_tests false false r l (inr (inl over)) = absurd (true≢false (sym (eq-eqb fault.line 0 over.1) ∙ l))
  by_tests false false r l (inr (inr found)) = (silent.0, silent.1, found.0, inr found)

-- the bytes with which a run was answered were read
pub record Answers (kinds : List ActionKind) (options : Options) (lo ln w z : Option (List ℕ)) (kept : Option View) (status : Status) : Type 0 where
  pub bytes : List ℕ
  pub read : IsReadFrom lo ln 16777216 bytes
  pub answer : RunsBytes kinds options bytes w z kept status

-- words that ask for these options, and for the input
pub record AskInput (words : List (List ℕ)) (options : Options) : Type 0 where
  pub asked : options_asked words ≡ Some options
  pub none : options.generated ≡ None

pub none_of : (made : Option Generated) → ((one : Generated) → made ≡ Some one → ⊥) → made ≡ None
none_of None never = refl
none_of (Some one) never = absurd (never one refl)

-- the script of an input
input_of : (options : Options) (callbacks : ℕ) (lo ln : Option (List ℕ)) (script : Script) → options.generated ≡ None → IsScriptInput callbacks lo ln script
    → IsScriptRun options.generated callbacks lo ln script
input_of options callbacks lo ln script none input = subst (λ (made : Option Generated). IsScriptRun made callbacks lo ln script) (sym none) input

done_of : (kinds : List ActionKind) (words : List (List ℕ)) (options : Options) → AskInput words options → (lo ln w z : Option (List ℕ)) (kept : Option View) (bytes : List ℕ) → IsReadFrom lo ln 16777216 bytes
    → RunsBytes kinds options bytes w z kept S.Done → MatchOption kept ⊥ (λ heap. IsDone kinds words lo ln w z heap)
done_of kinds words options ask lo ln w z None bytes read answer = answer.2
done_of kinds words options ask lo ln w z (Some heap) bytes read answer = record {
  options = options;
  asked = ask.asked;
  script = answer.0;
  input = input_of options (length kinds) lo ln answer.0 ask.none (record { bytes = bytes; whole = read_whole_of lo ln bytes read answer.1.limits; grammar = answer.1 });
  run = answer.2;
}

pub answers_done : (kinds : List ActionKind) (words : List (List ℕ)) (options : Options) → AskInput words options → (lo ln w z : Option (List ℕ)) (kept : Option View) (status : Status) → Answers kinds options lo ln w z kept status → status ≡ S.Done
    → MatchOption kept ⊥ (λ heap. IsDone kinds words lo ln w z heap)
answers_done kinds words options ask lo ln w z kept status a is = done_of kinds words options ask lo ln w z kept a.bytes a.read (subst (RunsBytes kinds options a.bytes w z kept) is a.answer)

pub answers_stopped : (kinds : List ActionKind) (words : List (List ℕ)) (options : Options) → AskInput words options → (lo ln w z : Option (List ℕ)) (kept : Option View) (status : Status) → Answers kinds options lo ln w z kept status → status ≡ S.WriteFault
    → IsStopped kinds words lo ln w z
answers_stopped kinds words options ask lo ln w z kept status a is =
    let answer = subst (RunsBytes kinds options a.bytes w z kept) is a.answer in
    record {
      options = options;
      asked = ask.asked;
      script = answer.0;
      input = input_of options (length kinds) lo ln answer.0 ask.none (record { bytes = a.bytes; whole = read_whole_of lo ln a.bytes a.read answer.1.limits; grammar = answer.1 });
      run = answer.2.1;
    }

pub answers_script : (kinds : List ActionKind) (options : Options) (lo ln w z : Option (List ℕ)) (kept : Option View) (status : Status) → Answers kinds options lo ln w z kept status
    → (line reason : ℕ) → status ≡ S.Script line reason → IsFaultyInput (length kinds) lo ln line reason
answers_script kinds options lo ln w z kept status a line reason is =
    let answer = subst (RunsBytes kinds options a.bytes w z kept) is a.answer in
    record { bytes = a.bytes; whole = read_whole_of lo ln a.bytes a.read answer.2; limits = answer.2; fault = answer.3 }

-- ---- a generated script

-- words that ask for these options, and for a script of this seed
pub record AskGenerated (words : List (List ℕ)) (options : Options) (made : Generated) : Type 0 where
  pub asked : options_asked words ≡ Some options
  pub some : options.generated ≡ Some made

-- the input was let alone
made_of : (options : Options) (made : Generated) (callbacks : ℕ) (left : Option (List ℕ)) → options.generated ≡ Some made
    → IsScriptRun options.generated callbacks left left (generated made.seed made.count)
made_of options made callbacks left some =
    subst (λ (asked : Option Generated). IsScriptRun asked callbacks left left (generated made.seed made.count)) (sym some) (refl, refl)

made_done_of : (kinds : List ActionKind) (words : List (List ℕ)) (options : Options) (made : Generated) → AskGenerated words options made → (left w z : Option (List ℕ)) (kept : Option View)
    → RunsScript kinds options.summary (plan_asked options) (generated made.seed made.count) w z kept S.Done → MatchOption kept ⊥ (λ heap. IsDone kinds words left left w z heap)
made_done_of kinds words options made ask left w z None answer = answer
made_done_of kinds words options made ask left w z (Some heap) answer = record {
  options = options;
  asked = ask.asked;
  script = generated made.seed made.count;
  input = made_of options made (length kinds) left ask.some;
  run = answer;
}

pub made_done : (kinds : List ActionKind) (words : List (List ℕ)) (options : Options) (made : Generated) → AskGenerated words options made → (left w z : Option (List ℕ)) (kept : Option View) (status : Status)
    → RunsScript kinds options.summary (plan_asked options) (generated made.seed made.count) w z kept status → status ≡ S.Done
    → MatchOption kept ⊥ (λ heap. IsDone kinds words left left w z heap)
made_done kinds words options made ask left w z kept status answer is =
    made_done_of kinds words options made ask left w z kept
    (subst (RunsScript kinds options.summary (plan_asked options) (generated made.seed made.count) w z kept) is answer)

pub made_stopped : (kinds : List ActionKind) (words : List (List ℕ)) (options : Options) (made : Generated) → AskGenerated words options made → (left w z : Option (List ℕ)) (kept : Option View) (status : Status)
    → RunsScript kinds options.summary (plan_asked options) (generated made.seed made.count) w z kept status → status ≡ S.WriteFault
    → IsStopped kinds words left left w z
made_stopped kinds words options made ask left w z kept status answer is =
    let stopped = subst (RunsScript kinds options.summary (plan_asked options) (generated made.seed made.count) w z kept) is answer in
    record {
      options = options;
      asked = ask.asked;
      script = generated made.seed made.count;
      input = made_of options made (length kinds) left ask.some;
      run = stopped.1;
    }

-- a script that was there from the start has no answer that tells of the input
pub script_tells_no_input : (kinds : List ActionKind) (summary : Bool) (plan : Plan) (script : Script) (w z : Option (List ℕ)) (kept : Option View) (status : Status)
    → RunsScript kinds summary plan script w z kept status → tells_of_input status ≡ true → ⊥
script_tells_no_input kinds summary plan script w z kept S.Done answer tells = true≢false (sym tells)
script_tells_no_input kinds summary plan script w z kept S.WriteFault answer tells = true≢false (sym tells)
script_tells_no_input kinds summary plan script w z kept S.NoMemory answer tells = true≢false (sym tells)
script_tells_no_input kinds summary plan script w z kept S.TooLong answer tells = answer
script_tells_no_input kinds summary plan script w z kept (S.Script line reason) answer tells = answer
script_tells_no_input kinds summary plan script w z kept S.ReadFault answer tells = answer
script_tells_no_input kinds summary plan script w z kept S.Usage answer tells = answer

-- ---- what words ask

pub asks_input : (words : List (List ℕ)) (options : Options) → AskInput words options → reads_input words ≡ true
asks_input words options ask = ap needs_input ask.asked ∙ ap (λ (made : Option Generated). not (is_some made)) ask.none

-- ---- a heap is seen by its core

-- what is so of what is seen of a heap, where one is kept
pub of_kept : {A B : Type 0} (seen : A → B) (P : B → Type 0) (kept : Option A) → MatchOption (option_map seen kept) ⊥ P → MatchOption kept ⊥ (λ heap. P (seen heap))
of_kept seen P None is = is
of_kept seen P (Some heap) is = is
