-- Sweeping: which nodes are finalised, and in which order (lazy and concurrent sweeping, `include/cppgc/README.md`).
use Rattle.std.specs.Prelude.{◌≡◌, ℕ, ◌+◌, ◌*◌, ◌<◌, ◌==◌, nat_lt, List, [], length, map, slice_index, All, Contains, if◌then◌else◌}
use Rattle.gc_graph.specs.declared.phase.Phase.{Phase}
use Rattle.gc_graph.specs.declared.phase.Phase.TheVariants.{Idle, Marking, Sweeping}
use Rattle.gc_graph.specs.State.{Shape, State, Node, Life, node_at, IsDead}
use Rattle.gc_graph.specs.State.Life.{Live, Dead, Gone}

-- while no sweep is open all pages count as swept
abbrev pub pages_swept_in : Phase → ℕ → ℕ → ℕ
pages_swept_in Idle pages cursor = pages
pages_swept_in Marking pages cursor = pages
pages_swept_in Sweeping pages cursor = cursor

-- how many pages count as swept
abbrev pub swept_pages : Shape → State → ℕ
swept_pages shape s = pages_swept_in s.phase shape.pages s.cursor

-- the node is dead, and its place lies below the address
pub record IsDeadBelow (nodes : List Node) (limit n : ℕ) : Type 0 where
  pub dead : IsDead nodes n
  pub below : (node_at nodes n).place < limit

-- the dead nodes whose places lie below the address, each once, from the lowest place to the highest
pub record AreDeadInOrder (nodes : List Node) (limit : ℕ) (numbers : List ℕ) : Type 0 where
  pub dead : All (IsDeadBelow nodes limit) numbers
  pub whole : (n : ℕ) → IsDeadBelow nodes limit n → Contains numbers n
  pub ascending :
      (i j : ℕ) → i < j → j < length numbers
      → (node_at nodes (slice_index numbers i)).place < (node_at nodes (slice_index numbers j)).place

-- the life of a node after its finalisation
abbrev pub buried : Life → Life
buried Live = Live
buried Dead = Gone
buried Gone = Gone

-- a dead node whose place lies below the address is finalised, and leaves the graph
abbrev pub finalise : ℕ → Node → Node
finalise limit node = if nat_lt node.place limit then record node { life = buried node.life } else node

-- a sweep of all pages is over
abbrev pub phase_at : Shape → ℕ → Phase
phase_at shape pages = if pages == shape.pages then Idle else Sweeping

-- the state after the first so many pages are swept, in which these nodes were finalised
abbrev pub swept_state : Shape → State → ℕ → List ℕ → State
swept_state shape s pages numbers = record s {
  nodes = map (finalise (pages * shape.page_words)) s.nodes;
  phase = phase_at shape pages;
  cursor = pages;
  finalised = s.finalised + length numbers;
}

-- the open sweep goes on until the first so many pages are swept
pub record ContinuesSweep (shape : Shape) (old : State) (pages : ℕ) (numbers : List ℕ) (new : State) : Type 0 where
  pub finalised : AreDeadInOrder old.nodes (pages * shape.page_words) numbers
  pub after : new ≡ swept_state shape old pages numbers

-- where no sweep is open there is nothing to do
abbrev pub SweepsInPhase : Phase → Shape → State → ℕ → List ℕ → State → Type 0
SweepsInPhase Idle shape old pages numbers new = (numbers ≡ []) × (new ≡ old)
SweepsInPhase Marking shape old pages numbers new = (numbers ≡ []) × (new ≡ old)
SweepsInPhase Sweeping shape old pages numbers new = ContinuesSweep shape old pages numbers new

-- sweeping goes on until the first so many pages are swept, where a sweep is open
abbrev pub SweepsTo : Shape → State → ℕ → List ℕ → State → Type 0
SweepsTo shape old pages numbers new = SweepsInPhase old.phase shape old pages numbers new

-- an open sweep is ended
abbrev pub SweepsToEnd : Shape → State → List ℕ → State → Type 0
SweepsToEnd shape old numbers new = SweepsTo shape old shape.pages numbers new
