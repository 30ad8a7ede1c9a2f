use Rattle.std.proofs.Common.{◌≡◌, ◌≤◌, replicate, vec_capacity}
use Rattle.pair_notes.specs.Notes.{no_notes}
use Rattle.marker_crew.proofs.crew.groups.Given as goal

abbrev pub invariant-loop-group : goal.invariant-loop-group
invariant-loop-group l = record {
  empty : l.made.items ≡ replicate l._group no_notes;
  room : l.count ≤ vec_capacity l.made;
}
