use Rattle.std.proofs.Common.{◌≡◌, false, sym, ◌∙◌, inl, inr}
use Rattle.std.specs.List.{Contains}
use Rattle.std.proofs.lemmas.Bool.{true≢false}
use Rattle.gc_graph.specs.Members.{holds_from}
use Rattle.marker_core.specs.Layout.{has_traced}
use Rattle.page_words.specs.Markers.{MarkerSeatView}
use Rattle.marker_crew.specs.Stages.{drain_stage}
use Rattle.marker_crew.proofs.Dealing.{note_deals}
use Rattle.marker_crew.proofs.Reading.{header_looks, header_missed, rest_noted, traced_is_done}
use Rattle.marker_crew.proofs.Working.{looks_work, item_noted}
use Rattle.marker_crew.proofs.items.look_again.Goals as goal

pub returns-then-not-has_traced-clause-works : goal.returns-then-not-has_traced-clause-works
returns-then-not-has_traced-clause-works c h took =
    let v : MarkerSeatView = c.args.seat.now in
    let u : MarkerSeatView = c.header.new.seat in
    let untraced : has_traced c.header.result ≡ false = sym c.has_traced.ensures ∙ c.if-not-has_traced.true in
    let looks = header_looks v u c.args.place c.header.result c.header.ensures.view
    (rest_noted v u c.args.place c.header.result c.requires.hand c.header.ensures.view) in
    let missed : Contains v.missed c.args.place = elim c.requires.failed [
      | inl done ↦ absurd (true≢false (sym (c.header.ensures.done (holds_from v.done c.args.place done)) ∙ untraced))
      | inr missed ↦ missed
    ] in
    item_noted v u h c.args.notes.now c.note.new.notes c.args.drained.now c.note.new.drained c.args.place looks took
    (inl (header_missed v u c.args.place c.header.result c.header.ensures.view c.args.place missed)) c.note.ensures.fits c.note.ensures.noted

pub returns-then-not-has_traced-clause-dealt : goal.returns-then-not-has_traced-clause-dealt
returns-then-not-has_traced-clause-dealt c h =
    note_deals (drain_stage c.header.new.seat h c.note.new.notes c.note.new.drained) c.args.notes.now c.args.drained.now c.args.place c.note.ensures.noted

pub returns-else-not-has_traced-clause-works : goal.returns-else-not-has_traced-clause-works
returns-else-not-has_traced-clause-works c h took =
    let v : MarkerSeatView = c.args.seat.now in
    let u : MarkerSeatView = c.header.new.seat in
    looks_work v u h c.args.notes.now c.args.drained.now
    (header_looks v u c.args.place c.header.result c.header.ensures.view
    (rest_noted v u c.args.place c.header.result c.requires.hand c.header.ensures.view))

pub returns-else-not-has_traced-clause-dealt : goal.returns-else-not-has_traced-clause-dealt
returns-else-not-has_traced-clause-dealt c h fine =
    inr (inl (traced_is_done c.args.seat.now c.header.new.seat c.args.place c.header.result c.requires.hand c.header.ensures.view
    (sym c.has_traced.ensures ∙ c.if-not-has_traced.false)))
