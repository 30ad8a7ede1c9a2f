use Rattle.std.proofs.Common.{◌≡◌, set, sym, ap, ◌∙◌, subst, inl, inr, arith}
use Rattle.std.proofs.lemmas.Bool.{true≢false, false_from_ne_true}
use Rattle.std.proofs.lemmas.List.{get_or-set_same}
use Rattle.mark_worklist.specs.Lists.{as_own}
use Rattle.mark_worklist.specs.declared.marking.Marking.{Marking}
use Rattle.page_words.specs.Markers.{new_marker}
use Rattle.page_words.specs.Seat.{SeatView}
use Rattle.mark_worklist.specs.Families.{at, nobody}
use Rattle.mark_worklist.specs.Shares.{ShareState}
use Rattle.marker_crew.specs.Notes.{NotesState}
use Rattle.marker_crew.specs.Drains.{nothing_yet, AreDealtWith}
use Rattle.marker_crew.specs.Stages.{drain_stage, MarkerWorks}
use Rattle.heap_objects.specs.Crews.{IsStepped, TellsRisen}
use Rattle.heap_objects.specs.Marking.{GreyView, grey_of}
use Rattle.heap_objects.proofs.AloneSteps.{own_is, grey_stepped}
use Rattle.heap_objects.proofs.CrewSteps.{has_stepped_beside}
use Rattle.heap_objects.proofs.CrewStays.{has_shares}
use Rattle.heap_objects.proofs.steps.step_beside.Goals as goal

pub returns-clause-stepped : goal.returns-clause-stepped
returns-clause-stepped c =
    let v : SeatView = c.args.seat.now in
    let g : GreyView = grey_of c.args.grey.now in
    let w : SeatView = c.step_beside-drained.new.seat in
    let k : ShareState = c.step_beside-drained.new.share in
    let o : NotesState = c.step_beside-drained.new.notes in
    let d = c.step_beside-drained.result in
    let n : Marking = c.tell_refused.new.marking in
    let step = c.step_beside-drained.ensures.step in
    let own : c.own_notes.result.now ≡ g.notes = c.own_notes.ensures.value ∙ own_is c.args.grey.now.crew.notes c.own_notes.result.now c.requires.own in
    let share : c.own_share.result.now ≡ at g.marking.list.shares 0 = c.own_share.ensures.share in
    let one = has_shares v g (c.requires.crew.out c.requires.running) in
    let told : TellsRisen c.refused-refused.result (record g.marking { list = as_own (set g.marking.list.shares 0 k) }) n = c.tell_refused.ensures.told in
    let last : (at (set g.marking.list.shares 0 k) 0).refused ≡ k.refused =
    ap (λ (s : ShareState). s.refused) (get_or-set_same g.marking.list.shares 0 k nobody (omega (arith, one))) in
    let works : MarkerWorks (drain_stage (new_marker v) (at g.marking.list.shares 0) g.notes nothing_yet) (drain_stage step.marker k o d) =
    subst (λ (h : ShareState). MarkerWorks (drain_stage (new_marker v) h g.notes nothing_yet) (drain_stage step.marker k o d)) share
    (subst (λ (x : NotesState). MarkerWorks (drain_stage (new_marker v) c.own_share.result.now x nothing_yet) (drain_stage step.marker k o d)) own step.works) in
    let taken : AreDealtWith (at g.marking.list.shares 0) (drain_stage step.marker k o d) =
    subst (λ (h : ShareState). AreDealtWith h (drain_stage step.marker k o d)) share step.taken in
    subst (λ (x : GreyView). IsStepped v g w x d.traced) (sym (grey_stepped (record c.args.grey.now { found = c.found_traced.result }) n o c.requires.own))
    (has_stepped_beside v g step.marker k o d n w c.requires.way c.requires.crew c.requires.running c.requires.differ c.requires.pushes step.seat c.bodies_lie_apart-2.ensures works taken
    (ap (λ (x : Marking). x.list) told.rest) (ap (λ (x : Marking). x.on) told.rest) (
      (λ fine. false_from_ne_true g.marking.overflow (λ is. true≢false (sym (told.kept is) ∙ fine))),
      told.kept,
    )
    (λ other. told.raised (λ same. other (sym last ∙ same ∙ c.refused-refused.ensures)))
    (λ is. elim (told.only is) [ inl before ↦ inl before | inr other ↦ inr (λ same. other (last ∙ same ∙ sym c.refused-refused.ensures)) ])
    c.requires.found c.found_traced.result.value c.found_traced.ensures)
