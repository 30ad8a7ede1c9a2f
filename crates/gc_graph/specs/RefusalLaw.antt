-- The laws of refusals, of want of memory and of a full heap: what they leave as it was.
use Rattle.std.specs.Prelude.{◌≡◌, ℕ, ◌+◌, true, List, [], ◌∷◌, ◌++◌, Contains}
use Rattle.gc_graph.specs.declared.command.Command.{Command}
use Rattle.gc_graph.specs.declared.command.Command.TheVariants as C
use Rattle.gc_graph.specs.declared.line.Line.{Line}
use Rattle.gc_graph.specs.declared.line.Line.TheVariants as L
use Rattle.gc_graph.specs.declared.line.Refusal.{Refusal}
use Rattle.gc_graph.specs.declared.region.Entry.{Entry}
use Rattle.gc_graph.specs.State.{Setup, State}
use Rattle.gc_graph.specs.Outcomes.{answered, finalise_lines}
use Rattle.gc_graph.specs.Sweep.{SweepsToEnd}
use Rattle.gc_graph.specs.Step.{Step}
use Rattle.gc_graph.specs.Commands.{MayWantMemory}

-- a refused command takes nothing of the history, and changes nothing but the count of commands
abbrev pub RefusedLeavesAll : Type 0
RefusedLeavesAll =
    (setup : Setup) (old new : State) (command : Command) (piece : List Entry) (lines : List Line) (why : Refusal)
    → Step setup old command piece lines new → lines ≡ L.Refused why ∷ [] → (piece ≡ []) × (new ≡ answered old)

-- after `threads go` the threads are awaited, though none was started
abbrev pub told_to_go : Command → State → State
told_to_go C.ThreadsGo s = record s { awaiting = true }
told_to_go command s = s

-- memory is wanted by these commands alone, and then nothing but the count of commands has changed
pub record IsLeftAlone (setup : Setup) (command : Command) (old : State) (piece : List Entry) (new : State) : Type 0 where
  pub wanted : MayWantMemory setup command
  pub taken : piece ≡ []
  pub after : new ≡ answered (told_to_go command old)

-- so it is of each step that answers `memory`
abbrev pub MemoryLeavesAll : Type 0
MemoryLeavesAll =
    (setup : Setup) (old new : State) (command : Command) (piece : List Entry) (lines : List Line)
    → Step setup old command piece lines new → lines ≡ L.Memory ∷ [] → IsLeftAlone setup command old piece new

-- no object was made: an open sweep was ended, which finalised these, and one more answer was `full`
pub record IsLeftFull (setup : Setup) (old : State) (piece : List Entry) (lines : List Line) (new : State) : Type 0 where
  pub numbers : List ℕ
  pub swept : State
  pub ended : SweepsToEnd setup.shape old numbers swept
  pub lines_are : lines ≡ finalise_lines numbers ++ L.Full ∷ []
  pub taken : piece ≡ []
  pub after : new ≡ answered (record swept { full = swept.full + 1 })

-- so it is of each `new` that answers `full`
abbrev pub FullLeavesRest : Type 0
FullLeavesRest =
    (setup : Setup) (old new : State) (p t e : ℕ) (piece : List Entry) (lines : List Line)
    → Step setup old (C.New p t e) piece lines new → Contains lines L.Full → IsLeftFull setup old piece lines new
