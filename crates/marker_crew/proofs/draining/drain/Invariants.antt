use Rattle.std.proofs.Common.{◌≡◌, ◌+◌, ◌≤◌, None, length}
use Rattle.mark_worklist.specs.Shares.{taken_by_share}
use Rattle.marker_crew.specs.Drains.{nothing_yet, AreDealtWith}
use Rattle.marker_crew.specs.Stages.{drain_stage, MarkerWorks}
use Rattle.marker_crew.proofs.draining.drain.Given as goal

abbrev pub invariant-loop-item : goal.invariant-loop-item
invariant-loop-item g l = record {
  works : MarkerWorks (drain_stage l.initial.seat l.initial.share l.initial.notes nothing_yet) (drain_stage l.seat l.share l.notes l.drained);
  dealt : AreDealtWith l.initial.share (drain_stage l.seat l.share l.notes l.drained);
  hand : l.seat.hand ≡ None;
  count : length (taken_by_share l.share) ≡ length (taken_by_share l.initial.share) + l._item;
  most : l.drained.traced ≤ l._item;
}
