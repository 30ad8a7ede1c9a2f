-- What the program answers, and what it has read and written by then. What it runs is the script of its input or a generated one, and
-- what it prints of the run is the report or the summary.
use Rattle.std.specs.Prelude.{◌≡◌, ℕ, ◌≤◌, ◌==◌, not, is_some, if◌then◌else◌, Bool, true, false, List, [], ◌++◌, length, take, Option, Some, None, MatchOption, Result, Ok, Err}
use Rattle.gc_graph.specs.declared.action.ActionKind.{ActionKind}
use Rattle.gc_graph.specs.declared.line.Line.{Line}
use Rattle.gc_graph.specs.declared.region.Entry.{Entry}
use Rattle.gc_graph.specs.State.{Setup, empty_state}
use Rattle.gc_graph.specs.Lawful.{Outcome, IsLawful, IsEndLine, last_state, summary_line}
use Rattle.gc_graph.specs.Report.{type_lines, line_bytes, lines_bytes, outcomes_bytes, report_of}
use Rattle.gc_graph.specs.Script.{Script, IsScript, IsTooLong, IsInLimits, IsFault}
use Rattle.text_devices.specs.Devices.{Grew, GrewByFront, IsReadFrom}
use Rattle.heap_script.specs.declared.script.ScriptFault.{ScriptFault}
use Rattle.heap_engine.specs.View.{View}
use Rattle.script_run.specs.declared.status.Status.{Status}
use Rattle.script_run.specs.declared.status.Status.TheVariants as S
use Rattle.command_line.specs.declared.options.Generated.{Generated}
use Rattle.command_line.specs.declared.options.Options.{Options}
use Rattle.command_line.specs.declared.options.OptionsFault.{OptionsFault}
use Rattle.command_line.specs.declared.options.OptionsFault.TheVariants as O
use Rattle.command_line.specs.Options.{options_asked}
use Rattle.script_generator.specs.Generated.{generated}
use Rattle.script_run.specs.Setting.{Plan, plan_asked, setup_of_plan}
use Rattle.script_run.specs.Printed.{IsEnding, printed_lines}

-- ---- what is printed of a run

-- the report of a script's run with these outcomes: the types, the outcomes, and the line that counts what the last state has
pub record IsReport (setup : Setup) (script : Script) (outcomes : List Outcome) (text : List ℕ) : Type 0 where
  pub end : Line
  pub counted : IsEndLine setup (last_state empty_state outcomes) end
  pub report : text ≡ report_of script.types (printed_lines outcomes) end

-- its report, or where a summary is asked for the one line of that, which counts what the last state has
abbrev pub IsPrinted : Bool → Setup → Script → List Outcome → List ℕ → Type 0
IsPrinted false setup script outcomes text = IsReport setup script outcomes text
IsPrinted true setup script outcomes text = text ≡ line_bytes (summary_line (last_state empty_state outcomes))

-- ---- one script

-- a lawful run of the whole script led to this heap, which is closed, with all markers joined, and has taken the history of that
-- run; no pass of a thread is out, so that there is nothing that was not taken, and what is printed of the run was written
pub record IsWholeRun (summary : Bool) (kinds : List ActionKind) (plan : Plan) (script : Script) (before after : Option (List ℕ)) (heap : View) : Type 0 where
  pub outcomes : List Outcome
  pub history : List Entry
  pub text : List ℕ
  pub lawful : IsLawful (setup_of_plan kinds plan script.types) script.commands outcomes history
  pub state : heap.state ≡ last_state empty_state outcomes
  pub taken : heap.history ≡ history
  pub out : heap.out ≡ []
  pub printed : IsPrinted summary (setup_of_plan kinds plan script.types) script outcomes text
  pub written : Grew before after text
  pub setup : heap.setup ≡ setup_of_plan kinds plan script.types
  pub closed : heap.closed ≡ true
  pub joined : heap.lent ≡ 0
  pub count : heap.state.ordinal ≡ length script.commands

-- a beginning of the report of a lawful run of the first commands was written
pub record IsReportCut (kinds : List ActionKind) (plan : Plan) (script : Script) (before after : Option (List ℕ)) : Type 0 where
  pub number : ℕ
  pub within : number ≤ length script.commands
  pub outcomes : List Outcome
  pub history : List Entry
  pub lawful : IsLawful (setup_of_plan kinds plan script.types) (take number script.commands) outcomes history
  pub ending : List ℕ
  pub ends : IsEnding (setup_of_plan kinds plan script.types) script.commands number (last_state empty_state outcomes) ending
  pub written :
      GrewByFront before after (lines_bytes (type_lines 0 script.types) ++ outcomes_bytes (printed_lines outcomes) ++ ending)

-- a beginning of the summary of a lawful run of the whole script was written
pub record IsSummaryCut (kinds : List ActionKind) (plan : Plan) (script : Script) (before after : Option (List ℕ)) : Type 0 where
  pub outcomes : List Outcome
  pub history : List Entry
  pub lawful : IsLawful (setup_of_plan kinds plan script.types) script.commands outcomes history
  pub written : GrewByFront before after (line_bytes (summary_line (last_state empty_state outcomes)))

-- a beginning of what is printed of a lawful run was written
abbrev pub IsCutShort : Bool → List ActionKind → Plan → Script → Option (List ℕ) → Option (List ℕ) → Type 0
IsCutShort false kinds plan script before after = IsReportCut kinds plan script before after
IsCutShort true kinds plan script before after = IsSummaryCut kinds plan script before after

-- ---- the script that is run

-- all that was left was read, and nothing is left
abbrev pub IsReadWhole : Option (List ℕ) → Option (List ℕ) → List ℕ → Type 0
IsReadWhole None new bytes = new ≡ None
IsReadWhole (Some old) new bytes = (bytes ≡ old) × (new ≡ Some [])

-- the input was read to its end, and it is a script
pub record IsScriptInput (callbacks : ℕ) (old new : Option (List ℕ)) (script : Script) : Type 0 where
  pub bytes : List ℕ
  pub whole : IsReadWhole old new bytes
  pub grammar : IsScript callbacks bytes script

-- the generated one, where one is asked for, and then the input is let alone; else that of the input
abbrev pub IsScriptRun : Option Generated → ℕ → Option (List ℕ) → Option (List ℕ) → Script → Type 0
IsScriptRun None callbacks old new script = IsScriptInput callbacks old new script
IsScriptRun (Some asked) callbacks old new script = (new ≡ old) × (script ≡ generated asked.seed asked.count)

-- ---- the whole of a run

-- the words asked for options; the script was run, and this heap and what is printed of the run came of it
pub record IsDone (kinds : List ActionKind) (words : List (List ℕ)) (left_before left_after before after : Option (List ℕ)) (heap : View) : Type 0 where
  pub options : Options
  pub asked : options_asked words ≡ Some options
  pub script : Script
  pub input : IsScriptRun options.generated (length kinds) left_before left_after script
  pub run : IsWholeRun options.summary kinds (plan_asked options) script before after heap

-- the words asked for options; the script was run, and of what is printed of the run only a beginning was written
pub record IsStopped (kinds : List ActionKind) (words : List (List ℕ)) (left_before left_after before after : Option (List ℕ)) : Type 0 where
  pub options : Options
  pub asked : options_asked words ≡ Some options
  pub script : Script
  pub input : IsScriptRun options.generated (length kinds) left_before left_after script
  pub run : IsCutShort options.summary kinds (plan_asked options) script before after

-- ---- the input

-- whether what the words ask for needs the input: they ask for options, and not for a generated script
abbrev pub needs_input : Option Options → Bool
needs_input None = false
needs_input (Some options) = not (is_some options.generated)

-- the same, of the words
abbrev pub reads_input : List (List ℕ) → Bool
reads_input words = needs_input (options_asked words)

-- whether an answer tells of the input, that it is too long, or faulty, or can't be read
abbrev pub tells_of_input : Status → Bool
tells_of_input S.TooLong = true
tells_of_input (S.Script line reason) = true
tells_of_input S.ReadFault = true
tells_of_input S.Done = false
tells_of_input S.WriteFault = false
tells_of_input S.NoMemory = false
tells_of_input S.Usage = false

-- the input, read up to the first byte past the limit, has too many bytes or lines
pub record IsTooLongInput (old new : Option (List ℕ)) : Type 0 where
  pub bytes : List ℕ
  pub read : IsReadFrom old new 16777216 bytes
  pub long : IsTooLong bytes

-- the input was read to its end and is within the limits; of its lines this is the first that has a fault, and this the
-- lowest reason that it has
pub record IsFaultyInput (callbacks : ℕ) (old new : Option (List ℕ)) (line reason : ℕ) : Type 0 where
  pub bytes : List ℕ
  pub whole : IsReadWhole old new bytes
  pub limits : IsInLimits bytes
  pub fault : IsFault callbacks bytes line reason

-- the words ask for options, and the input, where these need it, is a script
pub record AskForScript (callbacks : ℕ) (words : List (List ℕ)) (left : Option (List ℕ)) : Type 0 where
  pub options : Options
  pub asked : options_asked words ≡ Some options
  pub input : options.generated ≡ None → (bytes : List ℕ) × (script : Script) × (left ≡ Some bytes) × IsScript callbacks bytes script

-- ---- a device that was let alone

-- what it tells, and its count of faults, are as before
pub record IsUntouched (told_before told_after : Option (List ℕ)) (faults_before faults_after : ℕ) : Type 0 where
  pub told : told_after ≡ told_before
  pub faults : faults_after ≡ faults_before

-- ---- what the parts of the program answer

-- all that is printed was written of a run that led to this heap, or after a failure a beginning of it
abbrev pub IsTold : {T E : Type 0} → Bool → List ActionKind → Plan → Script → Option (List ℕ) → Option (List ℕ) → View → Result T E → Type 0
IsTold summary kinds plan script before after heap (Ok u) = IsWholeRun summary kinds plan script before after heap
IsTold summary kinds plan script before after heap (Err e) = IsCutShort summary kinds plan script before after

-- what comes of a script, where the callbacks are of these kinds
abbrev pub RunsScript : List ActionKind → Bool → Plan → Script → Option (List ℕ) → Option (List ℕ) → Option View → Status → Type 0
RunsScript kinds summary plan script before after kept S.Done =
    MatchOption kept ⊥ (λ heap. IsWholeRun summary kinds plan script before after heap)
RunsScript kinds summary plan script before after kept S.WriteFault = (kept ≡ None) × IsCutShort summary kinds plan script before after
RunsScript kinds summary plan script before after kept S.NoMemory = (kept ≡ None) × Grew before after []
RunsScript kinds summary plan script before after kept S.TooLong = ⊥
RunsScript kinds summary plan script before after kept (S.Script line reason) = ⊥
RunsScript kinds summary plan script before after kept S.ReadFault = ⊥
RunsScript kinds summary plan script before after kept S.Usage = ⊥

-- what comes of bytes that were read up to the first past the limit
abbrev pub RunsBytes : List ActionKind → Options → List ℕ → Option (List ℕ) → Option (List ℕ) → Option View → Status → Type 0
RunsBytes kinds options bytes before after kept S.Done =
    (script : Script) × IsScript (length kinds) bytes script
    × RunsScript kinds options.summary (plan_asked options) script before after kept S.Done
RunsBytes kinds options bytes before after kept S.WriteFault =
    (script : Script) × IsScript (length kinds) bytes script
    × RunsScript kinds options.summary (plan_asked options) script before after kept S.WriteFault
RunsBytes kinds options bytes before after kept S.NoMemory = (kept ≡ None) × Grew before after []
RunsBytes kinds options bytes before after kept S.TooLong = (kept ≡ None) × Grew before after [] × IsTooLong bytes
RunsBytes kinds options bytes before after kept (S.Script line reason) =
    (kept ≡ None) × Grew before after [] × IsInLimits bytes × IsFault (length kinds) bytes line reason
RunsBytes kinds options bytes before after kept S.ReadFault = ⊥
RunsBytes kinds options bytes before after kept S.Usage = ⊥

-- refused words, or want of memory where they were read
abbrev pub status_of_words : OptionsFault → Status
status_of_words O.Usage = S.Usage
status_of_words O.NoMemory = S.NoMemory

-- want of memory, an input over its limits, of which line 0 is told, or the line that is refused
abbrev pub status_of_fault : ScriptFault → Status
status_of_fault fault =
    if fault.reason == 0 then S.NoMemory else if fault.line == 0 then S.TooLong else S.Script fault.line fault.reason
