-- The laws of what a pause keeps and condemns.
use Rattle.std.specs.Prelude.{◌≡◌, ◌⊎◌, ◌↔◌, ◌≢◌, ℕ, ◌<◌, nat_le, ◌||◌, Bool, List, [], ◌++◌, length, All}
use Rattle.gc_graph.specs.declared.command.Command.{Command}
use Rattle.gc_graph.specs.declared.command.Want.{Want}
use Rattle.gc_graph.specs.declared.command.Want.TheVariants.{Precise}
use Rattle.gc_graph.specs.declared.line.Line.{Line}
use Rattle.gc_graph.specs.declared.phase.Phase.TheVariants.{Marking}
use Rattle.gc_graph.specs.declared.region.Entry.{Entry}
use Rattle.gc_graph.specs.Graph.{has, IsIn}
use Rattle.gc_graph.specs.Reach.{set_of, Reach}
use Rattle.gc_graph.specs.State.{Setup, State, IsLive, IsDead, graph_of, roots_of}
use Rattle.gc_graph.specs.May.{members, hits_for}
use Rattle.gc_graph.specs.Outcomes.{took}
use Rattle.gc_graph.specs.CycleSteps.{IsPause, IsCollection}
use Rattle.gc_graph.specs.Valid.{IsValid}
use Rattle.gc_graph.specs.Lawful.{Outcome, Run, last_state, IsAllowed}
use Rattle.gc_graph.specs.MayLaw.{HasStarted, reads_until, reached_since, IsNewOrReached}

-- ---- a whole precise collection

-- the roots reach the node
abbrev pub IsReached : State → ℕ → Type 0
IsReached s n = IsIn (Reach (graph_of s.nodes) (roots_of s)) n

-- dead are just the live nodes that the roots didn't reach, and those that they reached live on
pub record CondemnsUnreached (old new : State) : Type 0 where
  pub condemned : (n : ℕ) → IsDead new.nodes n ↔ (IsLive old.nodes n × (IsReached old n → ⊥))
  pub spared : (n : ℕ) → IsLive new.nodes n ↔ (IsLive old.nodes n × IsReached old n)

-- so does `gc now precise`, where no thread runs
abbrev pub CollectsUnreached : Type 0
CollectsUnreached =
    (setup : Setup) (old new : State) (piece : List Entry) (lines : List Line) → IsValid setup old → old.phase ≢ Marking
    → old.running ≡ [] → IsCollection setup Precise old piece lines new → CondemnsUnreached old new

-- ---- a pause at any time

-- the nodes of the state that are new since the start, or were reached since
abbrev pub new_or_reached : State → List ℕ → State → List Bool
new_or_reached start reads s = set_of (λ n. nat_le (length start.nodes) n || has (reached_since start reads) n) (length s.nodes)

-- the node is new since the start, or the start's graph reached it from the start's roots and the nodes that were read
-- weakly since, or the graph of the state reaches it from these and the hits; without hits, it is one of the first two
pub record IsAccountedFor (start : State) (reads : List ℕ) (s : State) (hits : List ℕ) (n : ℕ) : Type 0 where
  pub whole : IsNewOrReached start reads n ⊎ IsIn (Reach (graph_of s.nodes) (members (new_or_reached start reads s) ++ hits)) n
  pub without_hits : hits ≡ [] → IsNewOrReached start reads n

-- so is each node that a pause keeps, in a collection that was started, after any commands that went on with marking
abbrev pub KeptIsAccountedFor : Type 0
KeptIsAccountedFor =
    (setup : Setup) (start new : State) (commands : List Command) (outcomes : List Outcome) (markers : ℕ) (want : Want) (piece : List Entry)
    (lines : List Line) → 0 < setup.shape.pages → HasStarted setup start → All (IsAllowed (length setup.types)) commands
    → Run setup start commands outcomes → All (λ (o : Outcome). o.state.phase ≡ Marking) outcomes
    → (pause : IsPause setup markers want (last_state start outcomes) piece lines new) → (n : ℕ) → IsIn pause.kept n
    → IsAccountedFor start (reads_until start commands outcomes pause.before) (took (last_state start outcomes) pause.before)
    (hits_for want (took (last_state start outcomes) pause.before)) n
