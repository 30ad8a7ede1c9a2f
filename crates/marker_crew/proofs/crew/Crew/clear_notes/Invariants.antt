use Rattle.std.proofs.Common.{◌≡◌, ◌++◌, map, take, drop, length, vec_capacity}
use Rattle.pair_notes.specs.Notes.{notes_cleared}
use Rattle.marker_crew.proofs.crew.Crew.clear_notes.Given as goal

abbrev pub invariant-loop-i : goal.invariant-loop-i
invariant-loop-i l = record {
  cleared_so_far : l.self-inside.notes.items ≡ map notes_cleared (take l.i l.initial.self-inside.notes.items) ++ drop l.i l.initial.self-inside.notes.items;
  as_many : length l.self-inside.notes.items ≡ length l.initial.self-inside.notes.items;
  end : l.i-end ≡ length l.initial.self-inside.notes.items;
  room_notes : vec_capacity l.self-inside.notes ≡ vec_capacity l.initial.self-inside.notes;
  markers : l.self-inside.markers ≡ l.initial.self-inside.markers;
  shares : l.self-inside.shares ≡ l.initial.self-inside.shares;
  runners : l.self-inside.runners ≡ l.initial.self-inside.runners;
}
