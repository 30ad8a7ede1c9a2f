use Rattle.std.proofs.Common.{◌≡◌, ◌+◌, ◌++◌, None, length, map, take, drop, vec_capacity}
use Rattle.std.specs.Arc.{arc_value}
use Rattle.std.specs.List.{All}
use Rattle.page_words.specs.Markers.{MarkerSeatView}
use Rattle.marker_crew.specs.Crews.{begun_with}
use Rattle.marker_crew.specs.Runners.{began_as}
use Rattle.marker_crew.proofs.crew.Crew.start.Given as goal

abbrev pub invariant-loop-marker : goal.invariant-loop-marker
invariant-loop-marker g l = record {
  begun : map began_as l.self-inside.runners.items ++ begun_with l.seats.items l.shares.items (drop 1 l.self-inside.notes.items)
      ≡ begun_with l.initial.seats.items l.initial.shares.items (drop 1 l.initial.self-inside.notes.items);
  own : take 1 l.self-inside.notes.items ≡ take 1 l.initial.self-inside.notes.items;
  markers : l.self-inside.markers ≡ l.initial.self-inside.markers;
  seats_left : length l.seats.items + l.marker ≡ l.initial.self-inside.markers;
  shares_left : length l.shares.items + l.marker ≡ l.initial.self-inside.markers;
  groups_left : length l.self-inside.notes.items + l.marker ≡ l.initial.self-inside.markers + 1;
  runners : length l.self-inside.runners.items ≡ l.marker;
  room_notes : vec_capacity l.self-inside.notes ≡ vec_capacity l.initial.self-inside.notes;
  room_runners : vec_capacity l.self-inside.runners ≡ vec_capacity l.initial.self-inside.runners;
  room_shares : vec_capacity l.shares ≡ vec_capacity l.initial.shares;
  heap : All (λ (v : MarkerSeatView). v.heap ≡ arc_value l.words) l.seats.items;
  types : All (λ (v : MarkerSeatView). arc_value l.types ≡ v.types) l.seats.items;
  hands : All (λ (v : MarkerSeatView). v.hand ≡ None) l.seats.items;
}
