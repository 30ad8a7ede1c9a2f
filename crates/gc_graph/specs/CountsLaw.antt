-- The laws of what is counted: each count goes up by the lines that tell of it, and the line of a pause counts nodes.
use Rattle.std.specs.Prelude.{◌≡◌, ◌⊎◌, ℕ, ◌+◌, Bool, true, false, List, Contains, count_by}
use Rattle.gc_graph.specs.declared.command.Command.{Command}
use Rattle.gc_graph.specs.declared.command.Command.TheVariants as C
use Rattle.gc_graph.specs.declared.command.Want.{Want}
use Rattle.gc_graph.specs.declared.line.Line.{Line}
use Rattle.gc_graph.specs.declared.line.Line.TheVariants as L
use Rattle.gc_graph.specs.declared.region.Entry.{Entry}
use Rattle.gc_graph.specs.State.{Setup, State, is_live, is_dead}
use Rattle.gc_graph.specs.Step.{Step}
use Rattle.gc_graph.specs.Valid.{IsValid}

-- ---- counts and lines

-- the line tells a pause
abbrev pub tells_pause : Line → Bool
tells_pause (L.Pause kept dead crew traced walked) = true
tells_pause other = false

-- the line tells a finalisation
abbrev pub tells_finalisation : Line → Bool
tells_finalisation (L.Finalise n) = true
tells_finalisation other = false

-- the line tells that the heap is full
abbrev pub tells_full : Line → Bool
tells_full L.Full = true
tells_full other = false

-- one more command was answered, and as many pauses, finalisations and full outcomes are counted as were told
pub record AreCountedByLines (old : State) (lines : List Line) (new : State) : Type 0 where
  pub commands : new.ordinal ≡ old.ordinal + 1
  pub pauses : new.pauses ≡ old.pauses + count_by tells_pause lines
  pub finalised : new.finalised ≡ old.finalised + count_by tells_finalisation lines
  pub full : new.full ≡ old.full + count_by tells_full lines

-- so it is with each step
abbrev pub StepsCountLines : Type 0
StepsCountLines =
    (setup : Setup) (old : State) (command : Command) (piece : List Entry) (lines : List Line) (new : State)
    → Step setup old command piece lines new → AreCountedByLines old lines new

-- ---- the line of a pause

-- so many nodes live after the pause, so many are dead, and all of these lived before it
pub record AreJudged (old : State) (kept dead : ℕ) (new : State) : Type 0 where
  pub live : count_by (λ n. is_live n.life) new.nodes ≡ kept
  pub condemned : count_by (λ n. is_dead n.life) new.nodes ≡ dead
  pub lived : count_by (λ n. is_live n.life) old.nodes ≡ kept + dead

-- so it is with each pause of a valid state
abbrev pub PausesCountNodes : Type 0
PausesCountNodes =
    (setup : Setup) (old new : State) (want : Want) (piece : List Entry) (lines : List Line) (kept dead crew traced : ℕ) (walked : Bool)
    → IsValid setup old → Step setup old (C.GcFinish want) piece lines new ⊎ Step setup old (C.GcNow want) piece lines new
    → Contains lines (L.Pause kept dead crew traced walked) → AreJudged old kept dead new
