-- What the lines of an outcome tell of what was refused.
use Rattle.std.specs.Prelude.{◌≡◌, false, List, [], ◌∷◌}
use Rattle.gc_graph.specs.declared.line.Line.{Line}
use Rattle.gc_graph.specs.declared.line.Line.TheVariants as L
use Rattle.gc_graph.specs.declared.phase.Phase.{Phase}
use Rattle.gc_graph.specs.declared.phase.Phase.TheVariants.{Idle, Marking, Sweeping}
use Rattle.gc_graph.specs.CycleSteps.{is_marking}
use Rattle.heap_roots.specs.Refused.{RefusedCounts, RefusalsTold, IsToldTruly}

-- how much had been refused when the cycle began that a pause ends: the open one, or else one that begins with the command
abbrev pub refused_before : Phase → RefusalsTold → RefusedCounts
refused_before Idle told = told.now
refused_before Marking told = told.since
refused_before Sweeping told = told.now

-- the beginning of the cycle is what it was, and something is refused only while marking goes on
pub record GoesOnTelling (phase : Phase) (old new : RefusalsTold) : Type 0 where
  pub since : new.since ≡ old.since
  pub still : is_marking phase ≡ false → new.now ≡ old.now

-- a pause line tells truly whether the heap was walked, since a push or a note was refused in the cycle; with a start a cycle begins;
-- and where the line is another one the cycle goes on
abbrev pub IsWalkTold : Phase → RefusalsTold → RefusalsTold → Line → Type 0
IsWalkTold phase old new (L.Pause kept dead crew traced walked) = IsToldTruly (refused_before phase old) new.now walked
IsWalkTold phase old new L.Started = new.since ≡ old.now
IsWalkTold phase old new _ = GoesOnTelling phase old new

-- and so does the first of these lines that tells a pause or a start
abbrev pub IsWalkToldIn : Phase → RefusalsTold → RefusalsTold → List Line → Type 0
IsWalkToldIn phase old new [] = GoesOnTelling phase old new
IsWalkToldIn phase old new (L.Pause kept dead crew traced walked ∷ lines) = IsToldTruly (refused_before phase old) new.now walked
IsWalkToldIn phase old new (L.Started ∷ lines) = new.since ≡ old.now
IsWalkToldIn phase old new (_ ∷ lines) = IsWalkToldIn phase old new lines
