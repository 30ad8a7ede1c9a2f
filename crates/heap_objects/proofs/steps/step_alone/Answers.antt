use Rattle.std.proofs.Common.{◌≡◌, sym, ◌∙◌, subst}
use mathlib.Core.Logic.{◌⊎◌}
use Rattle.marker_crew.specs.Note.{Note}
use Rattle.std.specs.List.{Contains}
use Rattle.mark_worklist.specs.Refusals.{TellsRefused}
use Rattle.marker_crew.specs.Notes.{NotesState, refusals_in}
use Rattle.atomic_pause.specs.UnderWay.{IsOfTraced}
use Rattle.heap_objects.specs.Crews.{IsStepped}
use Rattle.heap_objects.specs.Marking.{GreyView, grey_of}
use Rattle.heap_objects.proofs.AloneSteps.{own_is, grey_stepped, has_stepped_alone}
use Rattle.heap_objects.proofs.steps.step_alone.Goals as goal

pub trace_listed-requires-clause-objects : goal.trace_listed-requires-clause-objects
trace_listed-requires-clause-objects c = λ note there itself.
    absurd ((c.requires.crew.home c.requires.home).paired note
    (subst (λ (x : NotesState). Contains x.notes note) (c.own_notes.ensures.value ∙ own_is c.args.grey.now.crew.notes c.own_notes.result.now c.requires.own) there) itself)

pub returns-clause-stepped : goal.returns-clause-stepped
returns-clause-stepped c =
    let g : GreyView = grey_of c.args.grey.now in
    let own : c.own_notes.result.now ≡ g.notes = c.own_notes.ensures.value ∙ own_is c.args.grey.now.crew.notes c.own_notes.result.now c.requires.own in
    let x : NotesState = c.trace_listed.new.notes in
    subst (λ (k : GreyView). IsStepped c.args.seat.now g c.trace_listed.new.seat k c.trace_listed.result)
    (sym (grey_stepped c.args.grey.now c.trace_listed.new.marking x c.requires.own))
    (has_stepped_alone c.args.types.now c.args.seat.now c.trace_listed.new.seat g c.trace_listed.new.marking x c.trace_listed.result c.requires.home c.requires.crew
    c.trace_listed.ensures.under_way c.trace_listed.ensures.kept c.trace_listed.ensures.mode
    (subst (λ (y : NotesState). (note : Note) → Contains x.notes note → Contains y.notes note ⊎ IsOfTraced c.args.types.now c.trace_listed.new.seat note) own c.trace_listed.ensures.noted)
    (c.trace_listed.ensures.counted c.requires.differ) c.trace_listed.ensures.told
    (subst (λ (y : NotesState). TellsRefused (refusals_in y) (refusals_in x)) own c.trace_listed.ensures.notes_told))
