use Rattle.std.proofs.Common.{◌≡◌}
use Rattle.std.specs.List.{Contains}
use Rattle.page_words.specs.Seat.{OnlyLooked}
use Rattle.pair_notes.specs.declared.notes.Note.{Note}
use Rattle.pair_notes.specs.Notes.{IsNote}
use Rattle.pair_notes.proofs.notes.Pairs.index_notes.Given as goal

abbrev pub invariant-loop-i : goal.invariant-loop-i
invariant-loop-i g l = record {
  view : OnlyLooked l.initial.seat l.seat;
  beside :
      ((note : Note) → Contains l.initial.self-inside.notes.items note → IsNote l.initial.seat.types l.initial.seat.bodies note)
      → l.seat ≡ l.initial.seat;
  notes : l.self-inside.notes ≡ l.initial.self-inside.notes;
  overflow : l.self-inside.overflow ≡ l.initial.self-inside.overflow;
  refused : l.self-inside.refused ≡ l.initial.self-inside.refused;
}
