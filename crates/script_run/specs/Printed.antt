-- Runs of commands whose outcomes are written one after the other.
use Rattle.std.specs.Prelude.{◌≡◌, ◌⊎◌, ℕ, zero, replicate, ◌<◌, ◌≤◌, List, [], length, map, take, Option, Some, slice_get, Contains}
use Rattle.gc_graph.specs.declared.command.Command.{Command}
use Rattle.gc_graph.specs.declared.command.Command.TheVariants as C
use Rattle.gc_graph.specs.declared.line.Line.{Line}
use Rattle.gc_graph.specs.declared.region.Entry.{Entry}
use Rattle.gc_graph.specs.State.{Setup, State, empty_state}
use Rattle.gc_graph.specs.History.{IsLegal}
use Rattle.gc_graph.specs.Lawful.{Outcome, Run, AreJoined, IsEndLine, TotalsWerePublished, TotalsNeverFall, history_of, last_state, state_after}
use Rattle.gc_graph.specs.Report.{outcomes_bytes, line_bytes, type_lines}
use Rattle.text_devices.specs.Devices.{Grew, GrewByFront}
use Rattle.heap_engine.specs.View.{View}

-- the lines of each outcome
abbrev pub printed_lines : List Outcome → List (List Line)
printed_lines outcomes = map (λ (o : Outcome). o.lines) outcomes

-- threads were last told to go by command g
pub record IsLastGo (commands : List Command) (g : ℕ) : Type 0 where
  pub go : slice_get commands g ≡ Some C.ThreadsGo
  pub last : (k : ℕ) → g < k → slice_get commands k ≡ Some C.ThreadsGo → ⊥

-- a run is lawful, but for what closing its heap shows of threads that were not joined
pub record IsLawfulUnclosed (setup : Setup) (commands : List Command) (outcomes : List Outcome) (history : List Entry) : Type 0 where
  pub run : Run setup empty_state commands outcomes
  pub pieces : history ≡ history_of outcomes
  pub legal : IsLegal history
  pub published :
      (g i : ℕ) (outcome : Outcome) → AreJoined commands g i → slice_get outcomes i ≡ Some outcome
      → TotalsWerePublished outcomes g i outcome.lines × TotalsNeverFall outcome.lines

-- the state is that just before command g, or before one of the commands after it
abbrev pub IsBeforeOneSince : List Command → List Outcome → ℕ → State → Type 0
IsBeforeOneSince commands outcomes g s = (k : ℕ) × (g ≤ k) × (k < length commands) × (s ≡ state_after outcomes k)

-- a run of the commands, with these outcomes, led to this heap, which has taken the history of the run and knows the states since
-- threads were last told to go
pub record HasRun (setup : Setup) (commands : List Command) (outcomes : List Outcome) (heap : View) : Type 0 where
  pub unclosed : IsLawfulUnclosed setup commands outcomes heap.history
  pub last : heap.state ≡ last_state empty_state outcomes
  pub since : (g : ℕ) → IsLastGo commands g → (s : State) → Contains heap.since s → IsBeforeOneSince commands outcomes g s

-- some run of the commands led to this heap
abbrev pub HasRunAll : Setup → List Command → View → Type 0
HasRunAll setup commands heap = (outcomes : List Outcome) × HasRun setup commands outcomes heap

-- a run of the commands led to this heap, and its outcomes were written
pub record IsPrintedRun (setup : Setup) (commands : List Command) (before after : Option (List ℕ)) (heap : View) : Type 0 where
  pub outcomes : List Outcome
  pub ran : HasRun setup commands outcomes heap
  pub written : Grew before after (outcomes_bytes (printed_lines outcomes))

-- a run of the first commands led to this heap, and a beginning of its outcomes was written
pub record IsPartRun (setup : Setup) (commands : List Command) (before after : Option (List ℕ)) (heap : View) : Type 0 where
  pub number : ℕ
  pub within : number ≤ length commands
  pub outcomes : List Outcome
  pub ran : HasRun setup (take number commands) outcomes heap
  pub written : GrewByFront before after (outcomes_bytes (printed_lines outcomes))

-- nothing, or the end line, which only follows the whole of the commands
abbrev pub IsEnding : Setup → List Command → ℕ → State → List ℕ → Type 0
IsEnding setup commands number state ending =
    (ending ≡ []) ⊎ ((number ≡ length commands) × ((line : Line) × IsEndLine setup state line × (ending ≡ line_bytes line)))

-- a line for each of so many types
abbrev pub counted_lines : ℕ → List Line
counted_lines count = type_lines {T = ℕ} 0 (replicate count zero)
