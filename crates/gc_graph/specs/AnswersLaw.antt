-- The law of how a command is answered: by lines of its own kind, and by one at least.
use Rattle.std.specs.Prelude.{◌≡◌, ◌≢◌, ◌||◌, true, List, [], Contains}
use Rattle.gc_graph.specs.declared.command.Command.{Command}
use Rattle.gc_graph.specs.declared.line.Line.{Line}
use Rattle.gc_graph.specs.declared.region.Entry.{Entry}
use Rattle.gc_graph.specs.State.{Setup, State}
use Rattle.gc_graph.specs.Step.{Step}
use Rattle.gc_graph.specs.Commands.{is_of_kind}
use Rattle.gc_graph.specs.LineKinds.{tells_that_nothing_was_done}

-- there is a line, and each is of the command's kind, or says that nothing was done
pub record IsAnsweredInKind (command : Command) (lines : List Line) : Type 0 where
  pub some : lines ≢ []
  pub kind : (told : Line) → Contains lines told → (tells_that_nothing_was_done told || is_of_kind command told) ≡ true

-- so is each command
abbrev pub CommandsAreAnsweredInKind : Type 0
CommandsAreAnsweredInKind =
    (setup : Setup) (old new : State) (command : Command) (piece : List Entry) (lines : List Line) → Step setup old command piece lines new
    → IsAnsweredInKind command lines
