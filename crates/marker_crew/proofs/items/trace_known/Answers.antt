use Rattle.std.proofs.Common.{◌≡◌, ◌+◌, true, eqb, refl, sym, ◌∙◌, inl, inr, subst}
use Rattle.std.specs.List.{Contains}
use Rattle.std.proofs.lemmas.List.Elements.{Contains-push}
use Rattle.pair_notes.specs.InHand.{hand_over, traced_in}
use Rattle.marker_crew.specs.declared.draining.Drained.{Drained}
use Rattle.page_words.specs.Markers.{MarkerSeatView}
use Rattle.marker_crew.specs.Stages.{DrainStage, drain_stage, MarkerOnlyLooks}
use Rattle.marker_crew.proofs.Claiming.{claimed_heap, claimed_types, claimed_marked, claimed_traced, claimed_noted, claimed_done, claimed_missed, claimed_hand, failed_is, failed_looks}
use Rattle.marker_crew.proofs.Dealing.{note_deals}
use Rattle.marker_crew.proofs.Reading.{header_looks, rest_noted, neither_is_missed, traced_is_done}
use Rattle.marker_crew.proofs.Working.{Works-then, looks_then, looks_work, item_noted, claim_works}
use Rattle.marker_crew.proofs.items.trace_known.Goals as goal

pub returns-then-not-has_mark-clause-works : goal.returns-then-not-has_mark-clause-works
returns-then-not-has_mark-clause-works g c =
    let v : MarkerSeatView = c.args.seat.now in
    let u : MarkerSeatView = c.header-header.new.seat in
    let is = c.header-header.ensures.view in
    item_noted v u c.args.share.now c.args.notes.now c.note.new.notes c.args.drained.now c.note.new.drained c.args.place
    (header_looks v u c.args.place c.header-header.result is (rest_noted v u c.args.place c.header-header.result c.requires.hand is)) c.requires.item
    (inl (neither_is_missed v u c.args.place c.header-header.result c.requires.hand is (sym c.has_mark.ensures ∙ c.if-not-has_mark.true)
    (sym c.has_traced.ensures ∙ c.if-has_traced.false)))
    c.note.ensures.fits c.note.ensures.noted

pub returns-then-not-has_mark-clause-dealt : goal.returns-then-not-has_mark-clause-dealt
returns-then-not-has_mark-clause-dealt g c =
    note_deals (drain_stage c.header-header.new.seat c.args.share.now c.note.new.notes c.note.new.drained) c.args.notes.now c.args.drained.now c.args.place
    c.note.ensures.noted

pub trace_object-requires-clause-traced : goal.trace_object-requires-clause-traced
trace_object-requires-clause-traced g c =
    let u : MarkerSeatView = c.header-header.new.seat in
    let found = c.claim_as.ensures.view in
    subst (λ xs. Contains xs c.args.place)
    (sym (claimed_traced u c.claim_as.new.seat c.args.place c.header-header.result found.0 found.3 (sym found.2 ∙ c.if-claim_as.true)))
    (Contains-push u.traced c.args.place)

pub trace_object-requires-clause-hand : goal.trace_object-requires-clause-hand
trace_object-requires-clause-hand g c =
    let u : MarkerSeatView = c.header-header.new.seat in
    let w : MarkerSeatView = c.claim_as.new.seat in
    let found = c.claim_as.ensures.view in
    subst (λ ty. w.hand ≡ hand_over c.args.place ty (traced_in w.types ty)) (sym c.type_in-ty.ensures.bits)
    (claimed_hand u w c.args.place c.header-header.result found.0 found.3 (sym found.2 ∙ c.if-claim_as.true))

pub look_again-requires-clause-failed : goal.look_again-requires-clause-failed
look_again-requires-clause-failed g c =
    let found = c.claim_as.ensures.view in
    failed_is c.header-header.new.seat c.claim_as.new.seat c.args.place c.header-header.result found.0 found.3 (sym found.2 ∙ c.if-claim_as.false)

pub returns-then-claim_as-clause-works : goal.returns-then-claim_as-clause-works
returns-then-claim_as-clause-works g c =
    let v : MarkerSeatView = c.args.seat.now in
    let u : MarkerSeatView = c.header-header.new.seat in
    let w : MarkerSeatView = c.claim_as.new.seat in
    let h = c.args.share.now in
    let n = c.args.notes.now in
    let d : Drained = c.args.drained.now in
    let e : Drained = record d { traced = d.traced + 1 } in
    let a = c.args.place in
    let header = c.header-header.result in
    let found = c.claim_as.ensures.view in
    let same : eqb found.0 header ≡ true = sym found.2 ∙ c.if-claim_as.true in
    let is = c.header-header.ensures.view in
    let last : DrainStage = drain_stage c.trace_object.new.seat c.trace_object.new.share c.trace_object.new.notes c.trace_object.new.drained in
    Works-then (drain_stage v h n d) (drain_stage u h n d) last
    (looks_work v u h n d (header_looks v u a header is (rest_noted v u a header c.requires.hand is)))
    (Works-then (drain_stage u h n d) (drain_stage w h n e) last
    (claim_works u w h n d e a (claimed_heap u w a header found.0 found.3 same) (claimed_types u w a header found.0 found.3 same)
    (claimed_marked u w a header found.0 found.3 same) (claimed_traced u w a header found.0 found.3 same) (claimed_noted u w a header found.0 found.3 same)
    (claimed_done u w a header found.0 found.3 same) (claimed_missed u w a header found.0 found.3 same) refl)
    c.trace_object.ensures.works)

pub returns-then-claim_as-clause-dealt : goal.returns-then-claim_as-clause-dealt
returns-then-claim_as-clause-dealt g c fine =
    let u : MarkerSeatView = c.header-header.new.seat in
    let found = c.claim_as.ensures.view in
    inl (c.trace_object.ensures.works.later.traced c.args.place
    (subst (λ xs. Contains xs c.args.place)
    (sym (claimed_traced u c.claim_as.new.seat c.args.place c.header-header.result found.0 found.3 (sym found.2 ∙ c.if-claim_as.true)))
    (Contains-push u.traced c.args.place)))

pub returns-else-claim_as-clause-works : goal.returns-else-claim_as-clause-works
returns-else-claim_as-clause-works g c =
    let v : MarkerSeatView = c.args.seat.now in
    let u : MarkerSeatView = c.header-header.new.seat in
    let w : MarkerSeatView = c.claim_as.new.seat in
    let h = c.args.share.now in
    let n = c.args.notes.now in
    let d = c.args.drained.now in
    let found = c.claim_as.ensures.view in
    let is = c.header-header.ensures.view in
    let looks : MarkerOnlyLooks v w =
    looks_then v u w (header_looks v u c.args.place c.header-header.result is (rest_noted v u c.args.place c.header-header.result c.requires.hand is))
    (failed_looks u w c.args.place c.header-header.result found.0 found.3 (sym found.2 ∙ c.if-claim_as.false)) in
    Works-then (drain_stage v h n d) (drain_stage w h n d) (drain_stage c.look_again.new.seat h c.look_again.new.notes c.look_again.new.drained)
    (looks_work v w h n d looks) (c.look_again.ensures.works h c.requires.item)

pub returns-else-claim_as-clause-dealt : goal.returns-else-claim_as-clause-dealt
returns-else-claim_as-clause-dealt g c = c.look_again.ensures.dealt c.args.share.now

pub returns-then-has_traced-clause-works : goal.returns-then-has_traced-clause-works
returns-then-has_traced-clause-works g c =
    let v : MarkerSeatView = c.args.seat.now in
    let u : MarkerSeatView = c.header-header.new.seat in
    let is = c.header-header.ensures.view in
    looks_work v u c.args.share.now c.args.notes.now c.args.drained.now
    (header_looks v u c.args.place c.header-header.result is (rest_noted v u c.args.place c.header-header.result c.requires.hand is))

pub returns-then-has_traced-clause-dealt : goal.returns-then-has_traced-clause-dealt
returns-then-has_traced-clause-dealt g c fine =
    inr (inl (traced_is_done c.args.seat.now c.header-header.new.seat c.args.place c.header-header.result c.requires.hand c.header-header.ensures.view
    (sym c.has_traced.ensures ∙ c.if-has_traced.true)))
