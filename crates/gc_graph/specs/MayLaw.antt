-- The laws of what may be kept.
use Rattle.std.specs.Prelude.{◌≡◌, ◌⊎◌, ℕ, ◌<◌, ◌≤◌, nat_lt, Bool, List, [], ◌∷◌, ◌++◌, length, filter, All}
use Rattle.std.specs.Option.{option_to_list}
use Rattle.gc_graph.specs.declared.command.Command.{Command}
use Rattle.gc_graph.specs.declared.command.Command.TheVariants as C
use Rattle.gc_graph.specs.declared.command.Want.{Want}
use Rattle.gc_graph.specs.declared.line.Line.{Line}
use Rattle.gc_graph.specs.declared.line.Refusal.TheVariants as R
use Rattle.gc_graph.specs.declared.phase.Phase.TheVariants.{Marking}
use Rattle.gc_graph.specs.declared.region.Entry.{Entry}
use Rattle.gc_graph.specs.Graph.{IsIn, IsWithin}
use Rattle.gc_graph.specs.Reach.{Reach}
use Rattle.gc_graph.specs.State.{Setup, State, RegionSlot, graph_of, roots_of}
use Rattle.gc_graph.specs.May.{hits_for}
use Rattle.gc_graph.specs.History.{region_after, read_by}
use Rattle.gc_graph.specs.Pause.{least_kept, most_kept}
use Rattle.gc_graph.specs.Outcomes.{IsRefused, IsMemory, took, AreOthers}
use Rattle.gc_graph.specs.CycleSteps.{IsCollection}
use Rattle.gc_graph.specs.Step.{Step}
use Rattle.gc_graph.specs.Valid.{IsMay, IsValid}
use Rattle.gc_graph.specs.Lawful.{Outcome, Run, last_state, IsAllowed}
use Rattle.gc_graph.specs.Commands.{own_reads}

-- what may be kept is closed, holds the roots and has live nodes alone; the least that a pause keeps lies within the most
-- that it keeps; and where the stack hits nothing, the most is just what may be kept
pub record BoundsMeet (s : State) (want : Want) : Type 0 where
  pub may : IsMay s
  pub meet : IsWithin (least_kept s (hits_for want s)) (most_kept s (hits_for want s))
  pub exact : hits_for want s ≡ [] → most_kept s (hits_for want s) ≡ s.may

-- so it is at each pause, after the entries of other threads that its piece has before the owner's
abbrev pub PauseBoundsMeet : Type 0
PauseBoundsMeet =
    (setup : Setup) (s : State) (before : List Entry) (want : Want) → IsValid setup s → s.phase ≡ Marking → AreOthers s before
    → BoundsMeet (took s before) want

-- ---- the nodes that were read weakly

-- through a weak slot of the region
abbrev pub entry_reads : List RegionSlot → List Entry → List ℕ
entry_reads region [] = []
entry_reads region (entry ∷ entries) = option_to_list (read_by region entry.op) ++ entry_reads (region_after region entry.op) entries

-- those of a run, command by command
abbrev pub run_reads : State → List Command → List Outcome → List ℕ
run_reads old [] outcomes = []
run_reads old (command ∷ commands) [] = []
run_reads old (command ∷ commands) (outcome ∷ outcomes) =
    own_reads old command outcome.lines ++ entry_reads old.region outcome.piece ++ run_reads outcome.state commands outcomes

-- ---- what may be kept is bounded

-- those of the nodes that were there at the start
abbrev pub old_ones : State → List ℕ → List ℕ
old_ones start nodes = filter (λ n. nat_lt n (length start.nodes)) nodes

-- what the start's graph reaches from the start's roots and the nodes that were read weakly since
abbrev pub reached_since : State → List ℕ → List Bool
reached_since start reads = Reach (graph_of start.nodes) (roots_of start ++ old_ones start reads)

-- the node is new since the start, or was reached since
abbrev pub IsNewOrReached : State → List ℕ → ℕ → Type 0
IsNewOrReached start reads n = (length start.nodes ≤ n) ⊎ IsIn (reached_since start reads) n

-- each node that may be kept is new since the start, or was reached since
abbrev pub IsBoundedBy : State → List ℕ → State → Type 0
IsBoundedBy start reads s = (n : ℕ) → IsIn s.may n → IsNewOrReached start reads n

-- a collection has just started
pub record HasStarted (setup : Setup) (start : State) : Type 0 where
  pub valid : IsValid setup start
  pub marking : start.phase ≡ Marking
  pub may : start.may ≡ Reach (graph_of start.nodes) (roots_of start)

-- `gc start` is refused, wants memory, or starts one
abbrev pub StartsHaveStarted : Type 0
StartsHaveStarted =
    (setup : Setup) (old new : State) (piece : List Entry) (lines : List Line) → IsValid setup old → Step setup old C.GcStart piece lines new
    → IsRefused R.Phase old lines new ⊎ (IsMemory old lines new ⊎ HasStarted setup new)

-- `gc now` is refused, wants memory, or comes to its pause from a collection that has just started
abbrev pub CollectionsHaveStarted : Type 0
CollectionsHaveStarted =
    (setup : Setup) (want : Want) (old new : State) (piece : List Entry) (lines : List Line) → IsValid setup old
    → Step setup old (C.GcNow want) piece lines new
    → IsRefused R.Phase old lines new
    ⊎ (IsRefused R.Stack old lines new
    ⊎ (IsMemory old lines new ⊎ ((done : IsCollection setup want old piece lines new) × HasStarted setup done.started)))

-- the nodes that were read weakly in a run, and then by other threads
abbrev pub reads_until : State → List Command → List Outcome → List Entry → List ℕ
reads_until start commands outcomes before = run_reads start commands outcomes ++ entry_reads (last_state start outcomes).region before

-- up to each pause: the commands, and then the entries of other threads that its piece has before the owner's
abbrev pub MayIsBounded : Type 0
MayIsBounded =
    (setup : Setup) (start : State) (commands : List Command) (outcomes : List Outcome) (before : List Entry) → 0 < setup.shape.pages
    → HasStarted setup start → All (IsAllowed (length setup.types)) commands → Run setup start commands outcomes
    → All (λ (o : Outcome). o.state.phase ≡ Marking) outcomes → AreOthers (last_state start outcomes) before
    → IsBoundedBy start (reads_until start commands outcomes before) (took (last_state start outcomes) before)
