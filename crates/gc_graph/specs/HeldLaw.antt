-- The laws of what a heap is told to hold: how many objects, how many words they have, and how many pages.
use Rattle.std.specs.Prelude.{◌≡◌, ℕ, ◌<◌, List, [], ◌∷◌, length, Contains, sum_by}
use Rattle.std.specs.List.Sorted.{IsStrictlyIncreasing}
use Rattle.gc_graph.specs.declared.command.Command.TheVariants as C
use Rattle.gc_graph.specs.declared.line.Line.{Line}
use Rattle.gc_graph.specs.declared.line.Line.TheVariants as L
use Rattle.gc_graph.specs.declared.region.Entry.{Entry}
use Rattle.gc_graph.specs.State.{Setup, Shape, State, Node, node_at, size_of}
use Rattle.gc_graph.specs.Pages.{IsInPage}
use Rattle.gc_graph.specs.Valid.{IsThere}
use Rattle.gc_graph.specs.Step.{Step}
use Rattle.gc_graph.specs.Lawful.{IsEndLine, summary_line}

-- the numbers of the nodes that are not finalised, live or dead, each once
pub record AreThere (nodes : List Node) (numbers : List ℕ) : Type 0 where
  pub ascending : IsStrictlyIncreasing numbers
  pub each : (n : ℕ) → Contains numbers n → IsThere nodes n
  pub whole : (n : ℕ) → IsThere nodes n → Contains numbers n

-- the pages of the heap in which such a node has a word, each once, and no others
pub record AreInUse (shape : Shape) (nodes : List Node) (pages : List ℕ) : Type 0 where
  pub ascending : IsStrictlyIncreasing pages
  pub within : (page : ℕ) → Contains pages page → page < shape.pages
  pub each : (page : ℕ) → Contains pages page → (n : ℕ) × IsInPage shape.page_words (node_at nodes n) page
  pub whole : (page n : ℕ) → page < shape.pages → IsInPage shape.page_words (node_at nodes n) page → Contains pages page

-- so many nodes are not finalised, so many words they have together, and so many pages they use
pub record HoldsSoMuch (shape : Shape) (nodes : List Node) (objects words pages : ℕ) : Type 0 where
  pub numbers : List ℕ
  pub there : AreThere nodes numbers
  pub objects_are : objects ≡ length numbers
  pub words_are : words ≡ sum_by (λ n. size_of (node_at nodes n)) numbers
  pub used : List ℕ
  pub in_use : AreInUse shape nodes used
  pub pages_are : pages ≡ length used

-- so much is told by a stat
abbrev pub StatsTellWhatIsHeld : Type 0
StatsTellWhatIsHeld =
    (setup : Setup) (old new : State) (piece : List Entry) (lines : List Line) → Step setup old C.Stat piece lines new
    → (n : ℕ) × (u : ℕ) × (g : ℕ) × (lines ≡ L.Objects n u g ∷ []) × HoldsSoMuch setup.shape old.nodes n u g

-- and by the last line of a report; and a summary tells the objects and the words of that line
abbrev pub EndsTellWhatIsHeld : Type 0
EndsTellWhatIsHeld =
    (setup : Setup) (s : State) (line : Line) → IsEndLine setup s line
    → (n : ℕ) × (u : ℕ) × (g : ℕ) × (line ≡ L.End n u g) × HoldsSoMuch setup.shape s.nodes n u g
    × (summary_line s ≡ L.Summary s.ordinal s.pauses n u s.finalised s.full)
