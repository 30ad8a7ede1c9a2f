use Rattle.std.proofs.Common.{◌≡◌, ℕ, take, drop}
use Rattle.std.specs.List.{Contains}
use Rattle.pair_notes.specs.Marking.{GrowsWithin, HasTargetMarked}
use Rattle.pair_notes.specs.InHand.{hand_over, traced_in}
use Rattle.ephemerons.specs.Fixpoint.{ListsMarks}
use Rattle.ephemerons.proofs.strong_fields.trace_words.Given as goal

abbrev pub invariant-loop-offset : goal.invariant-loop-offset
invariant-loop-offset g l = record {
  marks : ListsMarks l.initial.seat l.initial.marking l.seat l.marking;
  within : GrowsWithin l.initial.seat.types l.initial.seat l.seat;
  named : (offset : ℕ) → Contains (take l.offset-index l.offsets) offset → HasTargetMarked l.seat l.place offset;
  noted : l.seat.noted ≡ l.initial.seat.noted;
  looked : l.seat.looked ≡ l.initial.seat.looked;
  hand : l.seat.hand ≡ hand_over l.place l.ty (drop l.offset-index (traced_in l.initial.seat.types l.ty));
}
