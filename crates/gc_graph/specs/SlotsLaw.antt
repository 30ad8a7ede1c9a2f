-- The law of the numbers of slots and of queues, and of which threads can run: they are the same in each state of a run.
use Rattle.std.specs.Prelude.{◌≡◌, ℕ, List, length, take}
use Rattle.gc_graph.specs.declared.command.Command.{Command}
use Rattle.gc_graph.specs.State.{Setup, State, empty_state}
use Rattle.gc_graph.specs.Lawful.{Outcome, Run, last_state}
use Rattle.gc_graph.specs.JoinLaw.{AreThreads}

-- there are 256 strong slots, 64 weak ones and 32 of the region, and 8 queues; the threads that run are of these 8, in order
pub record HasAllSlots (s : State) : Type 0 where
  pub strong : length s.slots ≡ 256
  pub weak : length s.weak ≡ 64
  pub region : length s.region ≡ 32
  pub queues : length s.queues ≡ 8
  pub threads : AreThreads s.running

-- so it is in each state of a run, from the first on
abbrev pub RunsKeepSlots : Type 0
RunsKeepSlots =
    (setup : Setup) (commands : List Command) (outcomes : List Outcome) (k : ℕ) → Run setup empty_state commands outcomes
    → HasAllSlots (last_state empty_state (take k outcomes))
