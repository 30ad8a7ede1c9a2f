use Rattle.std.proofs.Common.{◌≡◌, take, drop}
use Rattle.std.specs.List.{Contains}
use Rattle.type_table.specs.declared.traced.TracedWord.{TracedWord}
use Rattle.pair_notes.specs.Marking.{GrowsWithin}
use Rattle.pair_notes.specs.Notes.{NotesGrow}
use Rattle.pair_notes.specs.InHand.{IsWordTraced, hand_over, traced_in}
use Rattle.ephemerons.specs.Fixpoint.{ListsMarks}
use Rattle.ephemerons.specs.Traces.{Traces}
use Rattle.ephemerons.specs.LookedAt.{LooksWithin}
use Rattle.ephemerons.proofs.tracing.trace_fields.Given as goal

abbrev pub invariant-loop-word : goal.invariant-loop-word
invariant-loop-word g l = record {
  marks : ListsMarks l.initial.seat l.initial.marking l.seat l.marking;
  within : GrowsWithin l.initial.seat.types l.initial.seat l.seat;
  notes : NotesGrow l.initial.seat.types l.initial.seat.bodies l.initial.notes l.notes;
  done : (word : TracedWord) → Contains (take l.word-index l.traced) word → IsWordTraced l.initial.seat.types l.seat l.place l.notes word;
  told : Traces l.initial.seat l.initial.notes l.seat l.notes l.place (take l.word-index l.traced);
  looked : LooksWithin l.initial.seat.types l.initial.seat l.seat;
  hand : l.seat.hand ≡ hand_over l.place l.ty (drop l.word-index (traced_in l.initial.seat.types l.ty));
}
