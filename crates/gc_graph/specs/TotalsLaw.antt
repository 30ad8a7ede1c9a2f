-- The laws of the totals that threads are told: of which state they are, and that no thread is told older ones later.
use Rattle.std.specs.Prelude.{◌≡◌, ℕ, ◌==◌, ◌<◌, ◌≤◌, Bool, false, List, length, filter, take, Some, slice_get, Contains}
use Rattle.std.specs.List.Sorted.{IsNonDecreasingBy}
use Rattle.gc_graph.specs.declared.command.Command.{Command}
use Rattle.gc_graph.specs.declared.command.Command.TheVariants as C
use Rattle.gc_graph.specs.declared.line.Line.{Line}
use Rattle.gc_graph.specs.declared.line.Line.TheVariants as L
use Rattle.gc_graph.specs.declared.region.Entry.{Entry}
use Rattle.gc_graph.specs.State.{Setup, empty_state, objects_of, used_of}
use Rattle.gc_graph.specs.Lawful.{Outcome, Run, last_state, IsLawful}

-- a run counts its commands
abbrev pub RunsCountCommands : Type 0
RunsCountCommands =
    (setup : Setup) (commands : List Command) (outcomes : List Outcome) → Run setup empty_state commands outcomes
    → (last_state empty_state outcomes).ordinal ≡ length commands

-- the line tells thread j totals
abbrev pub tells_totals_to : ℕ → Line → Bool
tells_totals_to j (L.ReplyTotals k o n u f) = k == j
tells_totals_to j other = false

-- how many commands had been done, by the totals that a line tells
abbrev pub commands_told : Line → ℕ
commands_told (L.ReplyTotals j o n u f) = o
commands_told other = 0

-- the totals are those after as many commands as they tell: no fewer than came before the start of the threads, and no more
-- than came before their join
pub record AreOfTheirTime (outcomes : List Outcome) (start join o n u f : ℕ) : Type 0 where
  pub no_older : start ≤ o
  pub no_later : o ≤ join
  pub objects : n ≡ objects_of (last_state empty_state (take o outcomes)).nodes
  pub words : u ≡ used_of (last_state empty_state (take o outcomes)).nodes
  pub finalised : f ≡ (last_state empty_state (take o outcomes)).finalised

-- so are all that the lines tell, and what one thread is told later is no older
pub record TellTheirTime (outcomes : List Outcome) (start join : ℕ) (lines : List Line) : Type 0 where
  pub each : (j o n u f : ℕ) → Contains lines (L.ReplyTotals j o n u f) → AreOfTheirTime outcomes start join o n u f
  pub in_order : (j : ℕ) → IsNonDecreasingBy commands_told (filter (tells_totals_to j) lines)

-- so do the lines of each join of a lawful run, by each start of threads before it
abbrev pub JoinsTellTheirTime : Type 0
JoinsTellTheirTime =
    (setup : Setup) (commands : List Command) (outcomes : List Outcome) (history : List Entry) (start join : ℕ) (outcome : Outcome)
    → IsLawful setup commands outcomes history → start < join → slice_get commands start ≡ Some C.ThreadsGo
    → slice_get commands join ≡ Some C.ThreadsJoin → slice_get outcomes join ≡ Some outcome
    → TellTheirTime outcomes start join outcome.lines
