use Rattle.std.proofs.Common.{◌≡◌, ◌+◌, ◌<◌, ◌≤◌, ◌||◌, false, [], ◌∷◌, ◌++◌, length, map, get_or, refl, sym, ap, ◌∙◌, subst, arith}
use Rattle.std.specs.List.{All, remove}
use Rattle.std.proofs.lemmas.List.{length-append, length-map, get_or-map}
use Rattle.page_words.specs.Seat.{Heap, SeatView}
use Rattle.marker_crew.specs.Crews.{CrewState, Ending, HasDrained, Marker}
use Rattle.marker_crew.specs.Runners.{began_as}
use Rattle.marker_crew.proofs.Joining.{IsPartJoined, none_joined, one_joined, counts_few, rest_mapped, most_words}
use Rattle.marker_crew.proofs.Starting.{all_rest, first_less}
use Rattle.marker_crew.proofs.crew.Crew.join.Goals as goal
use Rattle.marker_crew.proofs.crew.Crew.join.Goals.{then-result, else-result}

pub loop-marker-init : goal.loop-marker-init
loop-marker-init g c =
    let old : CrewState = record {
      markers = c.self.inside.markers;
      notes = c.self.inside.notes.items;
      shares = c.self.inside.shares.items;
      running = map began_as c.self.inside.runners.items;
    } in
    record {
      joined =
          subst (λ (s : CrewState). IsPartJoined s c.args.seat.now old.running old.notes old.shares c.args.seat.now (record { traced = 0; overflow = false }))
          c.self.view_is (none_joined old c.args.seat.now (record { traced = 0; overflow = false }) refl);
      heap = c.requires.heap;
      rest = subst (λ (s : CrewState). All (λ (m : Marker). m.seat.heap ≡ c.args.words.now) s.running) (sym c.self.view_is) c.requires.same;
      left = omega arith;
      markers = refl;
      groups = refl;
      shares_back = refl;
      room_notes = refl;
      room_runners = refl;
      room_shares = refl;
    }

pub join-requires-clause-same : goal.join-requires-clause-same
join-requires-clause-same g c =
    let inv = c.loop-marker.invariant in
    let now = c.loop-marker.self-inside.runners.items in
    let m : Marker = began_as c.remove.result in
    let e : Ending = record {
      seat = c.marker.inside.seat;
      share = c.marker.inside.share;
      notes = c.marker.inside.notes;
      drained = c.marker.inside.drained;
    } in
    let drained : HasDrained m e = subst (HasDrained m) (sym c.marker.view_is) c.wait_for.ensures in
    let low : 0 < length now = omega (arith, c.loop-marker-test.true, inv.left, c.len-marker-end.ensures, c.self.inside.runners.ok.0) in
    let m-is : m ≡ get_or (map began_as now) 0 m = ap began_as c.remove.ensures.value ∙ sym (get_or-map began_as now 0 c.remove.result m low) in
    drained.works.later.heap ∙ ap (λ (x : Marker). x.seat.heap) m-is ∙ inv.rest 0 m (omega (arith, low, length-map now began_as))

pub loop-marker-preserved : goal.loop-marker-preserved
loop-marker-preserved g c =
    let inv = c.loop-marker.invariant in
    let now = c.loop-marker.self-inside.runners.items in
    let rest = c.remove.new.self.items in
    let m : Marker = began_as c.remove.result in
    let e : Ending = record {
      seat = c.marker.inside.seat;
      share = c.marker.inside.share;
      notes = c.marker.inside.notes;
      drained = c.marker.inside.drained;
    } in
    let drained : HasDrained m e = subst (HasDrained m) (sym c.marker.view_is) c.wait_for.ensures in
    let low : 0 < length now = omega (arith, c.loop-marker-test.true, inv.left, c.len-marker-end.ensures, c.self.inside.runners.ok.0) in
    let there : 0 < length (map began_as now) = omega (arith, low, length-map now began_as) in
    let m-is : m ≡ get_or (map began_as now) 0 m = ap began_as c.remove.ensures.value ∙ sym (get_or-map began_as now 0 c.remove.result m low) in
    let rest-is : map began_as rest ≡ remove (map began_as now) 0 = ap (map began_as) c.remove.ensures.items ∙ rest_mapped began_as now in
    let count : m.seat.count ≡ c.args.words.now.count =
    ap (λ (x : Heap). x.count) (ap (λ (x : Marker). x.seat.heap) m-is ∙ inv.rest 0 m there) in
    let few : e.drained.traced ≤ most_words =
    counts_few m e c.args.words.now.count drained count
    (omega (arith, c.bodies_lie_apart.ensures.count, ap (λ (x : Heap). x.count) c.requires.heap)) in
    let told : c.if-result.result ≡ (c.loop-marker.result.overflow || e.drained.overflow) = elim c.if-result.branch [
      | then-result w ↦ w.result-is ∙ w.if-result.true ∙ sym (ap (λ b. b || e.drained.overflow) w.if-result.true)
      | else-result w ↦ w.result-is ∙ sym (ap (λ b. b || e.drained.overflow) w.if-result.false)
    ] in
    let joined =
    one_joined c.args.self.now c.args.seat.now (map began_as now) c.loop-marker.self-inside.notes.items c.loop-marker.self-inside.shares.items
    c.loop-marker.seat c.join.new.seat c.loop-marker.result
    (record { traced = c.loop-marker.result.traced + c.marker.inside.drained.traced; overflow = c.if-result.result }) m e inv.joined there m-is drained
    c.join.ensures.lent c.join.ensures.view few refl told in
    record {
      joined =
          subst (λ ns. IsPartJoined c.args.self.now c.args.seat.now (map began_as rest) ns c.push_reserved.new.self.items c.join.new.seat
          (record { traced = c.loop-marker.result.traced + c.marker.inside.drained.traced; overflow = c.if-result.result }))
          (sym c.push_reserved-in-loop-marker.ensures.items)
          (subst (λ hs. IsPartJoined c.args.self.now c.args.seat.now (map began_as rest) (c.loop-marker.self-inside.notes.items ++ e.notes ∷ []) hs c.join.new.seat
          (record { traced = c.loop-marker.result.traced + c.marker.inside.drained.traced; overflow = c.if-result.result }))
          (sym c.push_reserved.ensures.items)
          (subst (λ ms. IsPartJoined c.args.self.now c.args.seat.now ms (c.loop-marker.self-inside.notes.items ++ e.notes ∷ [])
          (c.loop-marker.self-inside.shares.items ++ e.share ∷ []) c.join.new.seat
          (record { traced = c.loop-marker.result.traced + c.marker.inside.drained.traced; overflow = c.if-result.result }))
          (sym rest-is) joined));
      heap = ap (λ (x : SeatView). x.heap) c.join.ensures.view ∙ inv.heap;
      rest = subst (All (λ (x : Marker). x.seat.heap ≡ c.args.words.now)) (sym rest-is) (all_rest (λ (x : Marker). x.seat.heap ≡ c.args.words.now) (map began_as now) inv.rest);
      left = omega (arith, inv.left, low, ap length c.remove.ensures.items, first_less now low);
      markers = inv.markers;
      groups = omega (
        arith,
        inv.groups,
        low,
        ap length c.remove.ensures.items,
        first_less now low,
        ap length c.push_reserved-in-loop-marker.ensures.items,
        length-append c.loop-marker.self-inside.notes.items (e.notes ∷ []),
      );
      shares_back = omega (
        arith,
        inv.shares_back,
        low,
        ap length c.remove.ensures.items,
        first_less now low,
        ap length c.push_reserved.ensures.items,
        length-append c.loop-marker.self-inside.shares.items (e.share ∷ []),
      );
      room_notes = c.push_reserved-in-loop-marker.ensures.capacity ∙ inv.room_notes;
      room_runners = c.remove.ensures.capacity ∙ inv.room_runners;
      room_shares = c.push_reserved.ensures.capacity ∙ inv.room_shares;
    }
