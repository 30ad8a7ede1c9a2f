-- What a command that is no pause and no start leaves told of refusals.
use Rattle.std.proofs.Common.{◌≡◌, ℕ, false, Bool, List, ap}
use Rattle.std.proofs.lemmas.Bool.{true≢false}
use Rattle.gc_graph.specs.declared.phase.Phase.{Phase}
use Rattle.gc_graph.specs.declared.phase.Phase.TheVariants.{Idle, Marking, Sweeping}
use Rattle.gc_graph.specs.CycleSteps.{is_marking}
use Rattle.heap_cycle.specs.Sweeping.{cursor_at}
use Rattle.heap_cycle.specs.Marking.{GreyView}
use Rattle.heap_cycle.specs.Marks.{HasMarks, IsTellingOn}
use Rattle.heap_cycle.specs.Objects.{ObjectsView, refusals_told_of}
use Rattle.heap_cycle.specs.Refused.{RefusalsTold}
use Rattle.heap_cycle.specs.declared.parts.Parts.{Parts}
use Rattle.heap_cycle.specs.Parts.{AreTied}
use Rattle.heap_cycle.specs.Walks.{GoesOnTelling}

-- nothing was refused
pub tells_same : (phase : Phase) (old new : RefusalsTold) → new ≡ old → GoesOnTelling phase old new
tells_same phase old new same = record { since = ap (λ (t : RefusalsTold). t.since) same; still = λ calm. ap (λ (t : RefusalsTold). t.now) same }

-- what is kept of marking is as it was
pub told_by : (old new : ObjectsView) → new.grey ≡ old.grey → refusals_told_of new ≡ refusals_told_of old
told_by old new same = ap (λ (g : GreyView). refusals_told_of (record old { grey = g })) same

pub tells_kept : (phase : Phase) (old new : ObjectsView) → new.grey ≡ old.grey → GoesOnTelling phase (refusals_told_of old) (refusals_told_of new)
tells_kept phase old new same = tells_same phase (refusals_told_of old) (refusals_told_of new) (told_by old new same)

off_at : (phase : Phase) (limit : ℕ) (may : List Bool) (o : ObjectsView) → HasMarks phase limit may o → is_marking phase ≡ false → o.seat.on ≡ false
off_at Idle limit may o marks calm = marks.0.off
off_at Marking limit may o marks calm = absurd (true≢false calm)
off_at Sweeping limit may o marks calm = marks.0.off

-- something may have been refused while marking goes on
pub tells_on : (s : Parts) (new : ObjectsView) → AreTied s → IsTellingOn s.objects new → GoesOnTelling s.cycle.phase (refusals_told_of s.objects) (refusals_told_of new)
tells_on s new tied is = record {
  since = is.since;
  still = λ calm. is.still (off_at s.cycle.phase (cursor_at s.objects.shape s.cycle.sweep) s.cycle.rest.may s.objects tied.marks calm);
}
