-- The law of the owner's entries: which command makes which of them, and that it comes after those of threads.
use Rattle.std.specs.Prelude.{◌≡◌, ◌≢◌, ℕ, Bool, false, List, [], ◌∷◌, ◌++◌, Some, All, Contains}
use Rattle.gc_graph.specs.declared.command.Command.{Command}
use Rattle.gc_graph.specs.declared.command.Command.TheVariants as C
use Rattle.gc_graph.specs.declared.command.Want.{Want}
use Rattle.gc_graph.specs.declared.line.Line.{Line}
use Rattle.gc_graph.specs.declared.line.Line.TheVariants as L
use Rattle.gc_graph.specs.declared.region.Entry.{Entry}
use Rattle.gc_graph.specs.declared.region.Op.{Op}
use Rattle.gc_graph.specs.declared.region.Op.TheVariants as O
use Rattle.gc_graph.specs.State.{Setup, State}
use Rattle.gc_graph.specs.Outcomes.{slot_at}
use Rattle.gc_graph.specs.Step.{Step}
use Rattle.gc_graph.specs.JoinLaw.{AreThreads}
use Rattle.gc_graph.specs.Commands.{may_take}

-- the entry is of a thread, and not of the owner
abbrev pub IsOfThread : Entry → Type 0
IsOfThread entry = entry.thread ≢ 0

-- of these entries the last is the owner's, and does this; the others are of threads
pub record EndsWithOwn (op : Op) (entries : List Entry) : Type 0 where
  pub before : List Entry
  pub own : Entry
  pub entries_are : entries ≡ before ++ own ∷ []
  pub owner : own.thread ≡ 0
  pub does : own.op ≡ op
  pub others : All IsOfThread before

-- the entries end with a pause of the owner
abbrev pub EndsWithPause : List Entry → Type 0
EndsWithPause entries = (cleared : ℕ) × EndsWithOwn (O.Pause cleared) entries

-- an export that is done ends with its entry, and so do an import, a start and a pause; a whole collection makes those of a
-- start and then of a pause; a join takes entries of threads alone, and the other commands take none
pub record MakesOwnEntries (setup : Setup) (old : State) (piece : List Entry) (lines : List Line) (new : State) : Type 0 where
  pub exports :
      (p x n : ℕ) → Step setup old (C.Export p x) piece lines new → slot_at old p ≡ Some n → lines ≡ L.Fine ∷ []
      → EndsWithOwn (O.Export x n) piece
  pub imports : (x p : ℕ) → Step setup old (C.Import x p) piece lines new → lines ≢ L.Memory ∷ [] → EndsWithOwn (O.Import x) piece
  pub starts : Step setup old C.GcStart piece lines new → Contains lines L.Started → EndsWithOwn O.Start piece
  pub finishes :
      (want : Want) (live dead crew traced : ℕ) (walked : Bool) → Step setup old (C.GcFinish want) piece lines new
      → Contains lines (L.Pause live dead crew traced walked) → EndsWithPause piece
  pub collects :
      (want : Want) (live dead crew traced : ℕ) (walked : Bool) → Step setup old (C.GcNow want) piece lines new
      → Contains lines (L.Pause live dead crew traced walked)
      → (first : List Entry) × (second : List Entry) × (piece ≡ first ++ second) × EndsWithOwn O.Start first × EndsWithPause second
  pub joins : Step setup old C.ThreadsJoin piece lines new → All IsOfThread piece
  pub none : (command : Command) → may_take command ≡ false → Step setup old command piece lines new → piece ≡ []

-- so does each step, where the threads that run stand in order
abbrev pub StepsMakeOwnEntries : Type 0
StepsMakeOwnEntries =
    (setup : Setup) (old new : State) (piece : List Entry) (lines : List Line) → AreThreads old.running
    → MakesOwnEntries setup old piece lines new
