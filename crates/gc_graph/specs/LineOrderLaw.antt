-- The law of the order of a command's lines: first the nodes that were finalised, then one answer, but for pauses and joins.
use Rattle.std.specs.Prelude.{◌≡◌, ℕ, Bool, true, false, List, [], ◌++◌, length, map, All}
use Rattle.gc_graph.specs.declared.command.Command.{Command}
use Rattle.gc_graph.specs.declared.line.Line.{Line}
use Rattle.gc_graph.specs.declared.line.Line.TheVariants as L
use Rattle.gc_graph.specs.declared.region.Entry.{Entry}
use Rattle.gc_graph.specs.State.{Setup, State}
use Rattle.gc_graph.specs.Step.{Step}
use Rattle.gc_graph.specs.Commands.{may_sweep, may_tell_more}

-- the line tells that a node was finalised
abbrev pub tells_finalised : Line → Bool
tells_finalised (L.Finalise n) = true
tells_finalised other = false

-- the nodes that were finalised come first, where the command may sweep, and no others come later; one more line answers the
-- command, or more of them where it may tell more
pub record AreFinalisedFirst (command : Command) (lines : List Line) : Type 0 where
  pub numbers : List ℕ
  pub answer : List Line
  pub lines_are : lines ≡ map (λ n. L.Finalise n) numbers ++ answer
  pub none_later : All (λ line. tells_finalised line ≡ false) answer
  pub none_without_sweep : may_sweep command ≡ false → numbers ≡ []
  pub one_answer : may_tell_more command ≡ false → length answer ≡ 1

-- so are the lines of each step
abbrev pub FinalisedAreToldFirst : Type 0
FinalisedAreToldFirst =
    (setup : Setup) (old new : State) (command : Command) (piece : List Entry) (lines : List Line)
    → Step setup old command piece lines new → AreFinalisedFirst command lines
