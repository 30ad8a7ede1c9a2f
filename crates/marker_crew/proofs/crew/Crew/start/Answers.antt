use Rattle.std.proofs.Common.{◌≡◌, ◌<◌, None, List, [], ◌∷◌, ◌++◌, length, map, take, drop, sym, ap, ◌∙◌, subst, arith}
use Rattle.std.specs.Arc.{arc_value}
use Rattle.std.specs.List.{All, remove}
use Rattle.std.proofs.lemmas.List.{length-append}
use Rattle.pair_notes.specs.Notes.{NotesState}
use Rattle.page_words.specs.Markers.{MarkerSeatView}
use Rattle.mark_worklist.specs.Shares.{ShareState}
use Rattle.marker_crew.specs.Crews.{Marker, begun_with}
use Rattle.marker_crew.specs.Runners.{began_as}
use Rattle.marker_crew.proofs.Starting.{begun_more, own_stays, all_rest, first_less, second_less}
use Rattle.marker_crew.proofs.crew.Crew.start.Goals as goal

pub loop-marker-preserved : goal.loop-marker-preserved
loop-marker-preserved g c =
    let inv = c.loop-marker.invariant in
    let seats : List MarkerSeatView = c.loop-marker.seats.items in
    let shares : List ShareState = c.loop-marker.shares.items in
    let notes : List NotesState = c.loop-marker.self-inside.notes.items in
    let all : List Marker = begun_with c.args.seats.items c.args.shares.items (drop 1 c.self.inside.notes.items) in
    let low : c.loop-marker.marker < c.self.inside.markers = omega (arith, c.loop-marker-test.true, inv.markers) in
    let some : 0 < length seats = omega (arith, low, inv.seats_left) in
    let more : 0 < length shares = omega (arith, low, inv.shares_left) in
    let two : 1 < length notes = omega (arith, low, inv.groups_left) in
    let seats-are = c.remove.ensures.items in
    let shares-are = c.remove-in-loop-marker.ensures.items in
    let notes-are = c.remove-in-loop-marker-2.ensures.items in
    let begun =
    begun_more c.loop-marker.self-inside.runners.items c.started.result all seats shares notes c.remove.result c.remove-in-loop-marker.result
    c.remove-in-loop-marker-2.result some more two c.remove.ensures.value c.remove-in-loop-marker.ensures.value c.remove-in-loop-marker-2.ensures.value
    c.started.ensures inv.begun in
    record {
      begun =
          subst (λ rs. map began_as rs ++ begun_with c.remove.new.self.items c.remove-in-loop-marker.new.self.items (drop 1 c.remove-in-loop-marker-2.new.self.items) ≡ all)
          (sym c.push_reserved.ensures.items)
          (subst (λ vs. map began_as (c.loop-marker.self-inside.runners.items ++ c.started.result ∷ [])
          ++ begun_with vs c.remove-in-loop-marker.new.self.items (drop 1 c.remove-in-loop-marker-2.new.self.items) ≡ all)
          (sym seats-are)
          (subst (λ hs. map began_as (c.loop-marker.self-inside.runners.items ++ c.started.result ∷ [])
          ++ begun_with (remove seats 0) hs (drop 1 c.remove-in-loop-marker-2.new.self.items) ≡ all)
          (sym shares-are)
          (subst (λ ns. map began_as (c.loop-marker.self-inside.runners.items ++ c.started.result ∷ [])
          ++ begun_with (remove seats 0) (remove shares 0) (drop 1 ns) ≡ all)
          (sym notes-are) begun)));
      own = ap (take 1) notes-are ∙ own_stays notes two ∙ inv.own;
      markers = inv.markers;
      seats_left = omega (arith, ap length seats-are, first_less seats some, inv.seats_left);
      shares_left = omega (arith, ap length shares-are, first_less shares more, inv.shares_left);
      groups_left = omega (arith, ap length notes-are, second_less notes two, inv.groups_left);
      runners = omega (
        arith,
        ap length c.push_reserved.ensures.items,
        length-append c.loop-marker.self-inside.runners.items (c.started.result ∷ []),
        inv.runners,
      );
      room_notes = c.remove-in-loop-marker-2.ensures.capacity ∙ inv.room_notes;
      room_runners = c.push_reserved.ensures.capacity ∙ inv.room_runners;
      room_shares = c.remove-in-loop-marker.ensures.capacity ∙ inv.room_shares;
      heap = subst (All (λ (v : MarkerSeatView). v.heap ≡ arc_value c.args.words.now)) (sym seats-are)
          (all_rest (λ (v : MarkerSeatView). v.heap ≡ arc_value c.args.words.now) seats inv.heap);
      types = subst (All (λ (v : MarkerSeatView). arc_value c.args.types.now ≡ v.types)) (sym seats-are)
          (all_rest (λ (v : MarkerSeatView). arc_value c.args.types.now ≡ v.types) seats inv.types);
      hands = subst (All (λ (v : MarkerSeatView). v.hand ≡ None)) (sym seats-are) (all_rest (λ (v : MarkerSeatView). v.hand ≡ None) seats inv.hands);
    }
