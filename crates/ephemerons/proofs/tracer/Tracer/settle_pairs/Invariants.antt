use Rattle.std.proofs.Common.{◌≡◌, ℕ, ◌<◌, false, get_or}
use Rattle.pair_notes.specs.Notes.{note_of}
use Rattle.ephemerons.specs.Fixpoint.{NoteIsSettled}
use Rattle.ephemerons.specs.Tracers.{Keeps, Searches}
use Rattle.ephemerons.proofs.tracer.Tracer.settle_pairs.Given as goal

abbrev pub invariant-loop-word : goal.invariant-loop-word
invariant-loop-word g l = record {
  keeps : Keeps g.B.Bodywords.heap l.fn.self l.self;
  looks : Searches l.fn.self l.self l.found;
  settled : l.found ≡ false → (k : ℕ) → k < l.word-index → NoteIsSettled l.fn.self.types.now l.self.seat.now (note_of l.a (get_or l.pairs k 0));
}
