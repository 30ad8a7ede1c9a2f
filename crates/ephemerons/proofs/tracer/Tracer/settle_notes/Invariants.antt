use Rattle.std.proofs.Common.{◌≡◌, ℕ, ◌<◌, false}
use Rattle.std.specs.List.{Contains}
use Rattle.pair_notes.specs.declared.notes.Note.{Note}
use Rattle.pair_notes.specs.Notes.{group_at}
use Rattle.ephemerons.specs.Fixpoint.{NoteIsSettled}
use Rattle.ephemerons.specs.Tracers.{Keeps, Searches, GoesOnward}
use Rattle.ephemerons.proofs.tracer.Tracer.settle_notes.Given as goal

abbrev pub invariant-loop-i : goal.invariant-loop-i
invariant-loop-i g l = record {
  keeps : Keeps g.B.Bodywords.heap l.initial.self l.self;
  looks : Searches l.initial.self l.self l.found;
  looked : GoesOnward l.initial.self l.self;
  settled : l.found ≡ false → (k : ℕ) → k < l.i → (note : Note) → Contains (group_at l.self.groups.now k).notes note → NoteIsSettled l.initial.self.types.now l.self.seat.now note;
}
