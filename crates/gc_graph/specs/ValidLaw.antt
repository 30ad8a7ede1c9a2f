-- The laws of valid states.
use Rattle.std.specs.Prelude.{◌<◌, List, length}
use Rattle.gc_graph.specs.declared.command.Command.{Command}
use Rattle.gc_graph.specs.declared.line.Line.{Line}
use Rattle.gc_graph.specs.declared.region.Entry.{Entry}
use Rattle.gc_graph.specs.State.{Setup, State, empty_state}
use Rattle.gc_graph.specs.Step.{Step}
use Rattle.gc_graph.specs.Valid.{IsValid}
use Rattle.gc_graph.specs.Lawful.{IsAllowed}
use Rattle.gc_graph.specs.Outcomes.{AreOthers, took}

-- a step of a command whose numbers are in their ranges keeps a state valid
abbrev pub StepKeepsValid : Type 0
StepKeepsValid =
    (setup : Setup) (old new : State) (command : Command) (piece : List Entry) (lines : List Line) → 0 < setup.shape.pages
    → IsAllowed (length setup.types) command → IsValid setup old → Step setup old command piece lines new → IsValid setup new

-- so do entries of threads that run, once they are taken: the region's slots go on to name live nodes, and what may be kept stays closed
abbrev pub OrdersKeepValid : Type 0
OrdersKeepValid = (setup : Setup) (s : State) (entries : List Entry) → AreOthers s entries → IsValid setup s → IsValid setup (took s entries)

-- a heap without objects is valid
abbrev pub EmptyIsValid : Type 0
EmptyIsValid = (setup : Setup) → IsValid setup empty_state
