use Rattle.std.proofs.Common.{◌≡◌, ◌+◌, length, map, vec_capacity}
use Rattle.std.specs.List.{All}
use Rattle.marker_crew.specs.Crews.{Marker}
use Rattle.marker_crew.specs.Runners.{began_as}
use Rattle.marker_crew.proofs.Joining.{IsPartJoined}
use Rattle.marker_crew.proofs.crew.Crew.join.Given as goal

abbrev pub invariant-loop-marker : goal.invariant-loop-marker
invariant-loop-marker g l = record {
  joined : IsPartJoined l.fn.self l.fn.seat (map began_as l.self-inside.runners.items) l.self-inside.notes.items l.self-inside.shares.items l.seat l.result;
  heap : l.seat.heap ≡ l.words;
  rest : All (λ (m : Marker). m.seat.heap ≡ l.words) (map began_as l.self-inside.runners.items);
  left : length l.self-inside.runners.items + l._marker ≡ length l.initial.self-inside.runners.items;
  markers : l.self-inside.markers ≡ l.initial.self-inside.markers;
  groups : length l.self-inside.notes.items + length l.self-inside.runners.items ≡ length l.initial.self-inside.notes.items + length l.initial.self-inside.runners.items;
  shares_back : length l.self-inside.shares.items + length l.self-inside.runners.items ≡ length l.initial.self-inside.shares.items + length l.initial.self-inside.runners.items;
  room_notes : vec_capacity l.self-inside.notes ≡ vec_capacity l.initial.self-inside.notes;
  room_runners : vec_capacity l.self-inside.runners ≡ vec_capacity l.initial.self-inside.runners;
  room_shares : vec_capacity l.self-inside.shares ≡ vec_capacity l.initial.self-inside.shares;
}
