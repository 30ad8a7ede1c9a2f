use Rattle.std.proofs.Common.{◌≡◌, ℕ, ◌<◌, Bool, List, [], ◌∷◌, ◌++◌, length, map, get_or, min, true, false, cond, eqb, ◌&&◌, refl, sym, ap, ◌∙◌, subst, inl, inr, arith}
use Rattle.std.proofs.lemmas.Bool.{eqb-true, false_from_ne_true}
use Rattle.std.proofs.lemmas.List.{get_or-map, length-map}
use Rattle.mark_worklist.specs.Lists.{ListState}
use Rattle.mark_worklist.specs.declared.marking.Marking.{Marking}
use Rattle.page_words.specs.Markers.{new_marker}
use Rattle.marker_core.specs.SeatSteps.{seat_ended}
use Rattle.page_words.specs.Seat.{SeatView, side, stopped, with_mutator}
use Rattle.mark_worklist.specs.Families.{at, nobody}
use Rattle.mark_worklist.specs.Joining.{AreAllShares, IsTakenOrLeft, refused_by}
use Rattle.mark_worklist.specs.Kept.{all-shares}
use Rattle.mark_worklist.specs.Shares.{ShareState, IsSameShare, last_count}
use Rattle.marker_crew.specs.Notes.{NotesState, no_notes, group_at}
use Rattle.marker_crew.specs.Crews.{CrewState, Ending, HasDrained, Marker, joined_with_all}
use Rattle.marker_crew.specs.Drains.{nothing_yet}
use Rattle.heap_objects.specs.declared.marking.Grey.{Grey}
use Rattle.heap_objects.specs.Crews.{IsJoined, TellsRisen}
use Rattle.heap_objects.specs.Marking.{GreyView, grey_of}
use Rattle.heap_objects.specs.Marks.{IsOut}
use Rattle.heap_objects.proofs.CrewJoined.{has_joined}
use Rattle.heap_objects.proofs.crew.stop_and_join.Goals as goal

-- the stop word was set while seats are lent
still_going : (v : SeatView) → 0 < v.lent → stopped v ≡ v
still_going v some = go (v.on && eqb v.lent 0) (both v.on (eqb v.lent 0) (false_from_ne_true (eqb v.lent 0) (λ none. (let zero : v.lent ≡ 0 = eqb-true v.lent 0 none in omega (arith, some, zero)))))
  where
    both : (a b : Bool) → b ≡ false → (a && b) ≡ false
    both true b is = is
    both false b is = refl

    go : (ends : Bool) → ends ≡ false → with_mutator v (cond ends (seat_ended (side v)) v.mutator) ≡ v
    go ends is = ap (λ b. with_mutator v (cond b (seat_ended (side v)) v.mutator)) is

-- one group alone is the first one
first_alone : (groups : List NotesState) → length groups ≡ 1 → groups ≡ group_at groups 0 ∷ []
first_alone [] one = absurd (omega (arith, one))
first_alone (x ∷ []) one = refl
first_alone (x ∷ y ∷ groups) one = absurd (omega (arith, one))

module _ (v : SeatView) (g : GreyView) (out : IsOut v g) (ends : List Ending) (many : length ends ≡ length g.running)
    (each : (k : ℕ) (m : Marker) (e : Ending) → k < length ends → HasDrained (get_or g.running k m) (get_or ends k e)) where
  nobody_began : Marker
  nobody_began = record { seat = new_marker v; share = nobody; notes = no_notes }

  nothing : Ending
  nothing = record { seat = new_marker v; share = nobody; notes = no_notes; drained = nothing_yet }

  -- all shares are back
  all_back : AreAllShares g.marking.list.shares (map (λ (e : Ending). e.share) ends)
  all_back =
      all-shares g.markers out.first (map (λ (m : Marker). m.share) g.running) g.marking.list.shares (map (λ (e : Ending). e.share) ends) out.fresh out.family
      (omega (arith, length-map ends (λ (e : Ending). e.share), length-map g.running (λ (m : Marker). m.share), many))
      (λ k low.
      let low_end : k < length ends = omega (arith, low, length-map g.running (λ (m : Marker). m.share), many) in
      subst (λ (s : ShareState). IsSameShare s (at (map (λ (e : Ending). e.share) ends) k))
      (sym (get_or-map (λ (m : Marker). m.share) g.running k nobody_began nobody (omega (arith, low_end, many))))
      (subst (IsSameShare (get_or g.running k nobody_began).share) (sym (get_or-map (λ (e : Ending). e.share) ends k nothing nobody low_end))
      (each k nobody_began nothing low_end).works.later.lists))

pub finish-requires-clause-all : goal.finish-requires-clause-all
finish-requires-clause-all g c =
    let v : SeatView = c.args.seat.now in
    let w : GreyView = grey_of c.args.grey.now in
    let joined = c.join-joined.ensures.joined in
    let shares : c.shares-shares.result.items ≡ map (λ (e : Ending). e.share) joined.ends =
    c.shares-shares.ensures.given ∙ joined.shares ∙ ap (λ l. l ++ map (λ (e : Ending). e.share) joined.ends) (c.requires.whole.no_share c.requires.running) in
    subst (AreAllShares w.marking.list.shares) (sym shares) (all_back v w (c.requires.crew.out c.requires.running) joined.ends joined.many joined.each)

pub returns : goal.returns
returns g c =
    let v : SeatView = c.args.seat.now in
    let w : GreyView = grey_of c.args.grey.now in
    let joined = c.join-joined.ensures.joined in
    let out : IsOut v w = c.requires.crew.out c.requires.running in
    let shares : c.shares-shares.result.items ≡ map (λ (e : Ending). e.share) joined.ends =
    c.shares-shares.ensures.given ∙ joined.shares ∙ ap (λ l. l ++ map (λ (e : Ending). e.share) joined.ends) (c.requires.whole.no_share c.requires.running) in
    let stays : c.set_stop.new.seat ≡ v = c.set_stop.ensures.view ∙ still_going v (omega (arith, c.requires.crew.lent, c.requires.running)) in
    let n : Marking = c.tell_refused.new.marking in
    let told : TellsRisen c.refused-refused.result (record w.marking { list = c.finish.new.self }) n = c.tell_refused.ensures.told in
    let one : length c.args.grey.now.crew.notes ≡ 1 = omega (arith, c.requires.whole.groups, c.requires.whole.all c.requires.running) in
    let notes : c.join-joined.new.self.notes ≡ w.notes ∷ map (λ (e : Ending). e.notes) joined.ends =
    joined.notes ∙ ap (λ l. l ++ map (λ (e : Ending). e.notes) joined.ends) (first_alone c.args.grey.now.crew.notes one) in
    let after : Grey = record c.args.grey.now { marking = n; crew = c.shares-shares.new.self } in
    let list : n.list ≡ c.finish.new.self = ap (λ (x : Marking). x.list) told.rest in
    let all : w.marking.list.shares ++ c.shares-shares.result.items ≡ w.marking.list.shares ++ map (λ (e : Ending). e.share) joined.ends = ap (λ l. w.marking.list.shares ++ l) shares in
    record {
      joined =
          subst (IsJoined v w c.join-joined.new.seat after) (sym joined.traced)
          (has_joined v w joined.ends c.join-joined.new.seat n c.requires.way c.requires.crew c.requires.running c.requires.differ c.requires.pushes c.requires.notes
          joined.many joined.each (joined.seat ∙ ap (λ (x : SeatView). joined_with_all x (map (λ (e : Ending). e.seat) joined.ends)) stays)
          (omega (arith, c.join-joined.ensures.lent, ap (λ (x : SeatView). x.lent) stays, c.requires.crew.lent)) c.bodies_lie_apart.ensures
          (ap (λ (x : Marking). x.on) told.rest) (ap (λ (l : ListState). l.whole) list ∙ c.finish.ensures.whole)
          (subst (λ (l : ListState). IsTakenOrLeft (w.marking.list.shares ++ map (λ (e : Ending). e.share) joined.ends) l.items) (sym list)
          (subst (λ l. IsTakenOrLeft l c.finish.new.self.items) all c.finish.ensures.items))
          (ap (λ (l : ListState). l.refused) list ∙ c.finish.ensures.refused ∙ ap (λ l. min (refused_by l) last_count) all)
          told.kept
          (λ other. told.raised (λ same. other (ap (λ (l : ListState). l.refused) list ∙ same ∙ c.refused-refused.ensures)))
          (λ is. elim (told.only is) [
            | inl before ↦ inl before
            | inr other ↦ inr (λ same. other (sym (ap (λ (l : ListState). l.refused) list) ∙ same ∙ sym c.refused-refused.ensures))
          ])
          c.requires.found (omega (arith, c.refused-refused.ensures, c.refused-refused.type_inv)) after refl
          (ap (λ (x : CrewState). x.notes) c.shares-shares.ensures.rest ∙ notes)
          (ap (λ (x : CrewState). x.running) c.shares-shares.ensures.rest ∙ joined.running)
          (ap (λ (x : CrewState). x.markers) c.shares-shares.ensures.rest ∙ joined.markers) refl refl refl);
    }
