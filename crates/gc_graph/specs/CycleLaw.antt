-- The laws of a collection's commands: when each is carried out, what a step and a pause count, and in which order
-- prefinalizers run.
use Rattle.std.specs.Prelude.{◌≡◌, ◌≢◌, ◌↔◌, ℕ, ◌+◌, ◌<◌, ◌≤◌, Bool, true, false, List, [], ◌∷◌, ◌++◌, length, Contains}
use Rattle.gc_graph.specs.declared.command.Command.TheVariants as C
use Rattle.gc_graph.specs.declared.command.Want.{Want}
use Rattle.gc_graph.specs.declared.command.Want.TheVariants.{Precise, Conservative}
use Rattle.gc_graph.specs.declared.line.Line.{Line}
use Rattle.gc_graph.specs.declared.line.Line.TheVariants as L
use Rattle.gc_graph.specs.declared.line.Refusal.TheVariants as R
use Rattle.gc_graph.specs.declared.phase.Phase.TheVariants.{Marking}
use Rattle.gc_graph.specs.declared.region.Entry.{Entry}
use Rattle.gc_graph.specs.Graph.{IsIn}
use Rattle.gc_graph.specs.State.{Setup, State, Node, Registration, node_at, IsLive}
use Rattle.gc_graph.specs.May.{is_hit}
use Rattle.gc_graph.specs.Outcomes.{IsRefused}
use Rattle.gc_graph.specs.Pause.{cleared, dies, run_order}
use Rattle.gc_graph.specs.CycleSteps.{IsPause}
use Rattle.gc_graph.specs.Step.{Step}
use Rattle.gc_graph.specs.Valid.{IsValid}

-- ---- in which phase a command of the cycle is carried out

-- no collection begins while one marks, none is stepped or ended while none does, and the phase is asked before the stack
pub record IsInPhase (setup : Setup) (old : State) (piece : List Entry) (lines : List Line) (new : State) : Type 0 where
  pub starts : old.phase ≡ Marking → Step setup old C.GcStart piece lines new → IsRefused R.Phase old lines new
  pub collects : (want : Want) → old.phase ≡ Marking → Step setup old (C.GcNow want) piece lines new → IsRefused R.Phase old lines new
  pub steps : (n : ℕ) → old.phase ≢ Marking → Step setup old (C.GcStep n) piece lines new → IsRefused R.Phase old lines new
  pub finishes : (want : Want) → old.phase ≢ Marking → Step setup old (C.GcFinish want) piece lines new → IsRefused R.Phase old lines new
  pub stands : old.phase ≡ Marking → old.stack ≢ [] → Step setup old (C.GcFinish Precise) piece lines new → IsRefused R.Stack old lines new

-- so it is of each step
abbrev pub CyclesGoInOrder : Type 0
CyclesGoInOrder = (setup : Setup) (old new : State) (piece : List Entry) (lines : List Line) → IsInPhase setup old piece lines new

-- ---- what is counted

-- a step traced at most as many objects as were asked for, and is done just where they were fewer
pub record IsStepTold (old : State) (n count : ℕ) (done : Bool) (new : State) : Type 0 where
  pub most : count ≤ n
  pub done_is : (done ≡ true) ↔ (count < n)
  pub counted : new.traced ≡ old.traced + count

-- so it is of each `gc step` that tells a count
abbrev pub StepsTellWhatIsLeft : Type 0
StepsTellWhatIsLeft =
    (setup : Setup) (old new : State) (n : ℕ) (piece : List Entry) (lines : List Line) (count : ℕ) (done : Bool)
    → Step setup old (C.GcStep n) piece lines new → lines ≡ L.Step count done ∷ [] → IsStepTold old n count done new

-- each object that `gc finish` tells as live was traced once: in a step, by the crew, or in the pause; and there is no crew
-- without markers
abbrev pub FinishCountsOnce : Type 0
FinishCountsOnce =
    (setup : Setup) (old new : State) (want : Want) (piece : List Entry) (lines : List Line) (live dead crew traced : ℕ) (walked : Bool)
    → Step setup old (C.GcFinish want) piece lines new → Contains lines (L.Pause live dead crew traced walked)
    → (old.traced + crew + traced ≡ live) × (setup.markers ≡ 0 → crew ≡ 0)

-- each object that `gc now` tells as live was traced in its pause
abbrev pub NowCountsOnce : Type 0
NowCountsOnce =
    (setup : Setup) (old new : State) (want : Want) (piece : List Entry) (lines : List Line) (live dead crew traced : ℕ) (walked : Bool)
    → Step setup old (C.GcNow want) piece lines new → Contains lines (L.Pause live dead crew traced walked) → (traced ≡ live) × (crew ≡ 0)

-- ---- what a pause keeps, and what it leaves to prefinalizers

-- a conservative pause keeps each object that the stack hits
abbrev pub HitsAreKept : Type 0
HitsAreKept =
    (setup : Setup) (markers : ℕ) (old new : State) (piece : List Entry) (lines : List Line) → IsValid setup old → old.phase ≡ Marking
    → (pause : IsPause setup markers Conservative old piece lines new) → (n : ℕ) → n < length old.nodes
    → is_hit old.nodes old.stack n ≡ true → IsIn pause.kept n

-- weak clearing leaves a node that isn't live as it was
abbrev pub ClearsLiveHolders : Type 0
ClearsLiveHolders = (s : State) (nodes : List Node) (n : ℕ) → (IsLive nodes n → ⊥) → node_at (cleared s nodes).nodes n ≡ node_at nodes n

-- of two parts of the registrations the later one is run first, and of one registration that whose node is dead
pub record AreRunLastFirst (nodes : List Node) : Type 0 where
  pub parts : (first second : List Registration) → run_order nodes (first ++ second) ≡ run_order nodes second ++ run_order nodes first
  pub runs : (r : Registration) → dies nodes r ≡ true → run_order nodes (r ∷ []) ≡ r ∷ []
  pub rests : (r : Registration) → dies nodes r ≡ false → run_order nodes (r ∷ []) ≡ []

-- so it is whatever nodes are dead
abbrev pub LastRegisteredRunsFirst : Type 0
LastRegisteredRunsFirst = (nodes : List Node) → AreRunLastFirst nodes
