use Rattle.std.proofs.Common.{◌≡◌, drop}
use Rattle.pair_notes.specs.InHand.{hand_over, traced_in}
use Rattle.mark_worklist.specs.Shares.{taken_by_share}
use Rattle.marker_crew.specs.Stages.{drain_stage, MarkerWorks}
use Rattle.marker_crew.proofs.objects.trace_object.Given as goal

abbrev pub invariant-loop-word : goal.invariant-loop-word
invariant-loop-word l = record {
  works : MarkerWorks (drain_stage l.initial.seat l.initial.share l.initial.notes l.initial.drained) (drain_stage l.seat l.share l.notes l.drained);
  taken : taken_by_share l.share ≡ taken_by_share l.initial.share;
  hand : l.seat.hand ≡ hand_over l.place l.ty (drop l.word-index (traced_in l.initial.seat.types l.ty));
  count : l.drained.traced ≡ l.initial.drained.traced;
}
