-- The laws of what commands make of the script's threads, and of what is counted.
use Rattle.std.specs.Prelude.{◌≡◌, ◌≢◌, ◌+◌, ◌≤◌, Bool, true, false, List, ◌++◌, length}
use Rattle.gc_graph.specs.declared.command.Command.{Command}
use Rattle.gc_graph.specs.declared.command.Command.TheVariants as C
use Rattle.gc_graph.specs.declared.line.Line.{Line}
use Rattle.gc_graph.specs.declared.region.Entry.{Entry}
use Rattle.gc_graph.specs.State.{Setup, State, objects_of}
use Rattle.gc_graph.specs.Sections.{awaiting_after}
use Rattle.gc_graph.specs.Step.{Step}

-- whether a command is one on threads
abbrev pub is_of_threads : Command → Bool
is_of_threads (C.At j order) = true
is_of_threads C.ThreadsGo = true
is_of_threads C.ThreadsJoin = true
is_of_threads _ = false

-- a join is awaited from each start of threads to the next join; no other command than those on threads changes a queue or which
-- threads run; and each entry that is taken is to be printed until the next join
pub record LeavesThreads (old : State) (command : Command) (piece : List Entry) (new : State) : Type 0 where
  pub awaiting : new.awaiting ≡ awaiting_after old.awaiting command
  pub queues : is_of_threads command ≡ false → new.queues ≡ old.queues
  pub running : is_of_threads command ≡ false → new.running ≡ old.running
  pub unprinted : command ≢ C.ThreadsJoin → new.unprinted ≡ old.unprinted ++ piece

-- so does each step
abbrev pub StepsLeaveThreads : Type 0
StepsLeaveThreads =
    (setup : Setup) (old : State) (command : Command) (piece : List Entry) (lines : List Line) (new : State)
    → Step setup old command piece lines new → LeavesThreads old command piece new

-- no more pauses and full outcomes are counted than commands, and each node that was made is there or counted as finalised
pub record IsCounted (s : State) : Type 0 where
  pub pauses : s.pauses ≤ s.ordinal
  pub full : s.full ≤ s.ordinal
  pub finalised : s.finalised + objects_of s.nodes ≡ length s.nodes

-- each step keeps this
abbrev pub StepsCount : Type 0
StepsCount =
    (setup : Setup) (old : State) (command : Command) (piece : List Entry) (lines : List Line) (new : State)
    → Step setup old command piece lines new → IsCounted old → IsCounted new
