use Rattle.std.proofs.Common.{◌≡◌, ◌+◌, ◌<◌, Bool, List, [], ◌∷◌, length, not, eqb, true, false, refl, sym, ap, ◌∙◌, subst, arith}
use Rattle.std.proofs.lemmas.Bool.{eqb-true}
use Rattle.mark_worklist.specs.Refusals.{Refusals, TellsRefused}
use Rattle.page_words.specs.Seat.{SeatView}
use Rattle.marker_crew.specs.Marking.{traced_count}
use Rattle.marker_crew.specs.Notes.{NotesState}
use Rattle.marker_crew.specs.Crews.{Marker}
use Rattle.heap_objects.specs.Marking.{GreyView, grey_of}
use Rattle.heap_objects.proofs.AloneJoined.{ready_alone, groups_alone, told_alone}
use Rattle.heap_objects.proofs.crew.join_if_running.Goals as goal

-- no marker runs
none_of : (running : List Marker) → not (eqb (length running) 0) ≡ false → running ≡ []
none_of running is = empty_of running (eqb-true (length running) 0 (unnot (eqb (length running) 0) is))
  where
    unnot : (b : Bool) → not b ≡ false → b ≡ true
    unnot true is = refl
    unnot false is = sym is

    empty_of : (all : List Marker) → length all ≡ 0 → all ≡ []
    empty_of [] none = refl
    empty_of (m ∷ all) none = absurd (omega (arith, none))

pub returns-else-is_running-clause-joined : goal.returns-else-is_running-clause-joined
returns-else-is_running-clause-joined g c =
    let v : SeatView = c.args.seat.now in
    let k : GreyView = grey_of c.args.grey.now in
    let groups : List NotesState = c.args.grey.now.crew.notes in
    let calm : k.running ≡ [] = none_of k.running (sym c.is_running.ensures.runs ∙ c.if-is_running.false) in
    let some : 0 < length groups = omega (arith, c.is_running.ensures.whole.groups, ap length calm) in
    record {
      same = record { heap = refl; types = refl; on = refl; bodies = refl; filled = refl; dead = refl; may = refl };
      ready = ready_alone v k groups calm c.requires.way c.requires.crew c.bodies_lie_apart.ensures refl refl some;
      counted = (let same : traced_count v ≡ traced_count v + 0 = omega arith in same);
      home = calm;
      markers = refl;
      groups = groups_alone v k groups calm c.requires.way c.requires.crew c.bodies_lie_apart.ensures refl refl some;
      unshared = (c.requires.crew.home calm).unshared;
      traced = refl;
      since = refl;
      earlier = refl;
      pushes = c.requires.pushes;
      notes = subst (λ (r : Refusals). TellsRefused (record { told = false; count = k.since.notes }) r) (sym (told_alone v k groups calm c.requires.way c.requires.crew c.bodies_lie_apart.ensures refl refl some)) c.requires.notes;
    }
