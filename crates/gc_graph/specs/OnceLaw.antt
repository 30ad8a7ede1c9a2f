-- The laws of a node's life: it is placed once and stays where it is, is condemned by a pause, finalised once, and then gone.
use Rattle.std.specs.Prelude.{◌≡◌, ℕ, ◌+◌, ◌<◌, ◌≤◌, Bool, List, ◌∷◌, ◌++◌, length, Some, slice_get, Contains, All}
use Rattle.std.specs.List.{flat_map}
use Rattle.gc_graph.specs.declared.command.Command.{Command}
use Rattle.gc_graph.specs.declared.line.Line.{Line}
use Rattle.gc_graph.specs.declared.line.Line.TheVariants as L
use Rattle.gc_graph.specs.declared.region.Entry.{Entry}
use Rattle.gc_graph.specs.State.{Setup, State, Node, node_at, IsLive, IsDead, empty_state}
use Rattle.gc_graph.specs.State.Life.{Gone}
use Rattle.gc_graph.specs.Placement.{HasWord, extent_of}
use Rattle.gc_graph.specs.Step.{Step}
use Rattle.gc_graph.specs.Valid.{IsValid}
use Rattle.gc_graph.specs.Lawful.{Outcome, Run, last_state, state_after, IsAllowed}

-- the lines of a run, in order
abbrev pub all_lines : List Outcome → List Line
all_lines outcomes = flat_map (λ (o : Outcome). o.lines) outcomes

-- in the lines of a run, after which the nodes are these: each number is placed once and stays at its place; it is
-- finalised after that, and once, and no read of the owner gives it then; its finalisation is told before a later object
-- gets one of its words; and whoever is gone was told to be finalised
pub record AreOnce (lines : List Line) (nodes : List Node) : Type 0 where
  pub placed : (n a b : ℕ) (before after : List Line) → lines ≡ before ++ L.Placed n a ∷ after → Contains after (L.Placed n b) → ⊥
  pub at : (n a : ℕ) (before after : List Line) → lines ≡ before ++ L.Placed n a ∷ after → (node_at nodes n).place ≡ a
  pub placed_before :
      (n : ℕ) (before after : List Line) → lines ≡ before ++ L.Finalise n ∷ after → (a : ℕ) × Contains before (L.Placed n a)
  pub finalised : (n : ℕ) (before after : List Line) → lines ≡ before ++ L.Finalise n ∷ after → Contains after (L.Finalise n) → ⊥
  pub unread : (n : ℕ) (before after : List Line) → lines ≡ before ++ L.Finalise n ∷ after → Contains after (L.Node n) → ⊥
  pub before_reuse :
      (n m a x : ℕ) (before after : List Line) → lines ≡ before ++ L.Placed m a ∷ after → n < m
      → HasWord (extent_of (node_at nodes n)) x → HasWord (extent_of (node_at nodes m)) x → Contains before (L.Finalise n)
  pub told : (n : ℕ) → n < length nodes → (node_at nodes n).life ≡ Gone → Contains lines (L.Finalise n)

-- the lines tell a pause
abbrev pub TellsPause : List Line → Type 0
TellsPause lines =
    (kept : ℕ) × (dead : ℕ) × (crew : ℕ) × (traced : ℕ) × (walked : Bool) × Contains lines (L.Pause kept dead crew traced walked)

-- a command before command j told a pause: before it node n was live, and after it dead
pub record WasCondemned (outcomes : List Outcome) (j n : ℕ) : Type 0 where
  pub command : ℕ
  pub earlier : command < j
  pub outcome : Outcome
  pub is : slice_get outcomes command ≡ Some outcome
  pub live : IsLive (state_after outcomes command).nodes n
  pub dead : IsDead (state_after outcomes (command + 1)).nodes n
  pub pauses : TellsPause outcome.lines

-- a node that is gone stays gone, and each that is finalised was condemned by the pause of an earlier command
pub record LivesEnd (outcomes : List Outcome) : Type 0 where
  pub gone :
      (i j n : ℕ) → i ≤ j → n < length (state_after outcomes i).nodes → (node_at (state_after outcomes i).nodes n).life ≡ Gone
      → (node_at (state_after outcomes j).nodes n).life ≡ Gone
  pub condemned :
      (j n : ℕ) (outcome : Outcome) → slice_get outcomes j ≡ Some outcome → Contains outcome.lines (L.Finalise n) → WasCondemned outcomes j n

-- so it is in each run of commands whose numbers are in their ranges
abbrev pub Once : Type 0
Once =
    (setup : Setup) (commands : List Command) (outcomes : List Outcome) → 0 < setup.shape.pages
    → All (IsAllowed (length setup.types)) commands → Run setup empty_state commands outcomes
    → AreOnce (all_lines outcomes) (last_state empty_state outcomes).nodes × LivesEnd outcomes

-- no node is lost, and each has the place that it had
pub record StayPut (old new : List Node) : Type 0 where
  pub none_lost : length old ≤ length new
  pub places : (n : ℕ) → n < length old → (node_at new n).place ≡ (node_at old n).place

-- so it is with the nodes of a step
abbrev pub NodesStayPut : Type 0
NodesStayPut =
    (setup : Setup) (old : State) (command : Command) (piece : List Entry) (lines : List Line) (new : State) → 0 < setup.shape.pages
    → IsAllowed (length setup.types) command → IsValid setup old → Step setup old command piece lines new → StayPut old.nodes new.nodes
