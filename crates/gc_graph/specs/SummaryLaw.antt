-- The law of a summary.
use Rattle.std.specs.Prelude.{◌≡◌, ◌≤◌, List, [], ◌∷◌, length, Some, All}
use Rattle.gc_graph.specs.declared.command.Command.{Command}
use Rattle.gc_graph.specs.declared.region.Entry.{Entry}
use Rattle.gc_graph.specs.State.{Setup, State, empty_state}
use Rattle.gc_graph.specs.Lawful.{Outcome, IsLawful, IsAllowed, last_state, summary_line}
use Rattle.gc_graph.specs.Report.{line_bytes}
use Rattle.gc_graph.specs.ReadBack.{read_report, IsOf64Bits}
use Rattle.gc_graph.specs.NumbersLaw.{IsWithinLimits}

-- the numbers of the summary have 64 bits, and its line is read back
pub record IsSummaryRead (s : State) : Type 0 where
  pub numbers : IsOf64Bits (summary_line s)
  pub read : read_report (line_bytes (summary_line s)) ≡ Some (summary_line s ∷ [])

-- so it is after a lawful run of commands in their ranges, of which there are no more than a script can have
abbrev pub SummaryReadsBack : Type 0
SummaryReadsBack =
    (setup : Setup) (commands : List Command) (outcomes : List Outcome) (history : List Entry) → IsWithinLimits setup
    → length commands ≤ 1000000 → All (IsAllowed (length setup.types)) commands → IsLawful setup commands outcomes history
    → IsSummaryRead (last_state empty_state outcomes)
