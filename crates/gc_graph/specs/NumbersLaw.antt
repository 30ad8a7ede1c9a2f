-- The law of the numbers in a report.
use Rattle.std.specs.Prelude.{◌≡◌, ◌^◌, ◌<◌, ◌≤◌, List, [], ◌∷◌, ◌++◌, length, map, Some, All}
use Rattle.std.specs.List.{flat_map}
use Rattle.gc_graph.specs.declared.command.Command.{Command}
use Rattle.gc_graph.specs.declared.line.Line.{Line}
use Rattle.gc_graph.specs.declared.region.Entry.{Entry}
use Rattle.gc_graph.specs.State.{Setup, ObjectType, empty_state}
use Rattle.gc_graph.specs.Lawful.{Outcome, IsLawful, IsAllowed, IsEndLine, last_state}
use Rattle.gc_graph.specs.Report.{type_lines, report_of}
use Rattle.gc_graph.specs.ReadBack.{read_report, IsOf64Bits}

-- the heap has 1 to 1,024 pages of 16,384 words at most, and the numbers of the types' callbacks have 64 bits
pub record IsWithinLimits (setup : Setup) : Type 0 where
  pub some : 0 < setup.shape.pages
  pub pages : setup.shape.pages ≤ 1024
  pub page_words : setup.shape.page_words ≤ 16384
  pub callbacks : All (λ (type : ObjectType). All (λ c. c < 2 ^ 64) type.prefinalizers) setup.types
  pub weak_callbacks : All (λ (type : ObjectType). All (λ c. c < 2 ^ 64) type.weak_callbacks) setup.types

-- a lawful run of commands in their ranges, of which there are no more than a script can have, and the end line after it
pub record IsReported (setup : Setup) (commands : List Command) (outcomes : List Outcome) (history : List Entry) (end : Line) : Type 0 where
  pub limits : IsWithinLimits setup
  pub few : length commands ≤ 1000000
  pub allowed : All (IsAllowed (length setup.types)) commands
  pub lawful : IsLawful setup commands outcomes history
  pub ended : IsEndLine setup (last_state empty_state outcomes) end

-- the lines of each outcome
abbrev pub lines_of_outcomes : List Outcome → List (List Line)
lines_of_outcomes outcomes = map (λ (o : Outcome). o.lines) outcomes

-- all lines of such a run have numbers of 64 bits
pub record HaveNumbers (outcomes : List Outcome) (end : Line) : Type 0 where
  pub lines : All (λ lines. All IsOf64Bits lines) (lines_of_outcomes outcomes)
  pub last : IsOf64Bits end

-- so it is of each such run
abbrev pub LinesHaveNumbers : Type 0
LinesHaveNumbers =
    (setup : Setup) (commands : List Command) (outcomes : List Outcome) (history : List Entry) (end : Line)
    → IsReported setup commands outcomes history end → HaveNumbers outcomes end

-- so its report is read back, whatever list of types is reported, if it is no longer than a script can have it
abbrev pub RunReadsBack : Type 0 → Type 0
RunReadsBack T =
    (setup : Setup) (types : List T) (commands : List Command) (outcomes : List Outcome) (history : List Entry) (end : Line)
    → length types ≤ 16383 → IsReported setup commands outcomes history end
    → read_report (report_of types (lines_of_outcomes outcomes) end)
    ≡ Some (type_lines 0 types ++ flat_map (λ lines. lines) (lines_of_outcomes outcomes) ++ end ∷ [])
