use Rattle.std.proofs.Common.{◌≡◌, ℕ, ◌<◌, false, length}
use Rattle.pair_notes.specs.Notes.{group_at, note_at}
use Rattle.ephemerons.specs.Fixpoint.{NoteIsSettled}
use Rattle.ephemerons.specs.Tracers.{Keeps, Searches, GoesOnward}
use Rattle.ephemerons.proofs.tracer.Tracer.settle_group.Given as goal

abbrev pub invariant-loop-j : goal.invariant-loop-j
invariant-loop-j g l = record {
  keeps : Keeps g.B.Bodywords.heap l.initial.self l.self;
  looks : Searches l.initial.self l.self l.found;
  looked : GoesOnward l.initial.self l.self;
  settled : l.found ≡ false → (k : ℕ) → k < l.j → k < length (group_at l.self.groups.now l.i).notes → NoteIsSettled l.initial.self.types.now l.self.seat.now (note_at (group_at l.self.groups.now l.i) k);
}
