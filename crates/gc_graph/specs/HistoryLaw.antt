-- The laws of the region's history.
use Rattle.std.specs.Prelude.{◌≡◌, ℕ, List, take, Some, slice_get}
use Rattle.gc_graph.specs.declared.command.Command.{Command}
use Rattle.gc_graph.specs.declared.line.Line.{Line}
use Rattle.gc_graph.specs.declared.region.Entry.{Entry}
use Rattle.gc_graph.specs.State.{Setup, State, empty_state}
use Rattle.gc_graph.specs.History.{IsLegal, IsLegalFrom, replay, replayed, reply_of, started_through}
use Rattle.gc_graph.specs.CycleSteps.{is_marking}
use Rattle.gc_graph.specs.Step.{Step}
use Rattle.gc_graph.specs.Lawful.{Outcome, Run, last_state, history_of}

-- the replies of a legal history are those that one thread would be given
abbrev pub RepliesAreOfOneThread : Type 0
RepliesAreOfOneThread =
    (history : List Entry) (i : ℕ) (entry : Entry) → IsLegal history → slice_get history i ≡ Some entry
    → entry.reply ≡ reply_of (replay (take i history)) entry.op

-- the pieces of a run make a legal history, and replaying it gives the region's slots
pub record IsReplayed (outcomes : List Outcome) : Type 0 where
  pub legal : IsLegal (history_of outcomes)
  pub slots : replay (history_of outcomes) ≡ (last_state empty_state outcomes).region

-- so do those of each run from the empty heap
abbrev pub RunsAreReplayed : Type 0
RunsAreReplayed =
    (setup : Setup) (commands : List Command) (outcomes : List Outcome) → Run setup empty_state commands outcomes
    → IsReplayed outcomes

-- a piece of the history is legal after the one state, and leads to the slots of the other and to whether it marks
pub record Follows (old : State) (piece : List Entry) (new : State) : Type 0 where
  pub legal : IsLegalFrom old.region (is_marking old.phase) piece
  pub slots : new.region ≡ replayed old.region piece
  pub started : is_marking new.phase ≡ started_through (is_marking old.phase) piece

-- so does the piece of each step
abbrev pub StepsFollow : Type 0
StepsFollow =
    (setup : Setup) (old : State) (command : Command) (piece : List Entry) (lines : List Line) (new : State)
    → Step setup old command piece lines new → Follows old piece new
