use Rattle.std.proofs.Common.{rules, ◌≡◌, ◌+◌, ◌<◌, ◌^◌, true, false, [], ◌∷◌, sym, ap, ◌∙◌, subst, inl, arith}
use Rattle.std.specs.List.{Contains}
use Rattle.std.proofs.lemmas.List.Elements.{Contains-push}
use Rattle.marker_core.specs.declared.states.Hand.{Hand}
use Rattle.marker_core.specs.declared.states.Part.TheVariants.{Read}
use Rattle.marker_core.specs.Layout.{has_mark}
use Rattle.page_words.specs.Markers.{MarkerSeatView}
use Rattle.marker_crew.specs.Stages.{drain_stage}
use Rattle.marker_crew.proofs.Reading.{read_looks, key_in_hand, key_marked, none_noted, pair_noted, header_done, header_missed, header_looks, value_target}
use Rattle.marker_crew.proofs.Working.{Works-then, looks_work, note_works, one_pair}
use Rattle.marker_crew.proofs.objects.trace_pair.Goals as goal

pub overflow_add-place : goal.overflow_add-place
overflow_add-place c =
    let h : Hand = record { place = c.args.place; ty = c.requires.hand.ty; next = c.args.offset; part = Read } in
    let is = c.places_are_within.ensures.view.hand_is h c.requires.hand.is in
    let low : c.args.place + c.args.offset < 2 ^ 32 = omega (arith, is.inside, is.within, c.places_are_within.ensures.view.small) in
    search rules

pub overflow_add-place-then-has_mark : goal.overflow_add-place-then-has_mark
overflow_add-place-then-has_mark c =
    let h : Hand = record { place = c.args.place; ty = c.requires.hand.ty; next = c.args.offset; part = Read } in
    let is = c.places_are_within.ensures.view.hand_is h c.requires.hand.is in
    let low : c.args.place + c.args.offset < 2 ^ 32 = omega (arith, is.inside, is.within, c.places_are_within.ensures.view.small) in
    search rules

pub overflow_add-place-then-has_mark-2 : goal.overflow_add-place-then-has_mark-2
overflow_add-place-then-has_mark-2 c =
    let h : Hand = record { place = c.args.place; ty = c.requires.hand.ty; next = c.args.offset; part = Read } in
    let is = c.places_are_within.ensures.view.hand_is h c.requires.hand.is in
    let low : c.args.place + c.args.offset + 1 < 2 ^ 32 =
    omega (arith, is.inside, is.pair_within c.requires.hand.role_is, c.places_are_within.ensures.view.small) in
    search rules

pub trace_target-requires-clause-target : goal.trace_target-requires-clause-target
trace_target-requires-clause-target c =
    let v : MarkerSeatView = c.args.seat.now in
    let u : MarkerSeatView = c.read.new.seat in
    let held = key_in_hand v u c.args.place c.args.offset c.read.result c.in-Some.key c.requires.hand c.read.ensures.view c.in-Some.ensures in
    let mark : has_mark c.header.result ≡ true = sym c.has_mark.ensures ∙ c.if-has_mark.true in
    value_target v c.header.new.seat c.args.place c.args.offset c.requires.hand
    (ap (λ (x : MarkerSeatView). x.types) c.header.ensures.view ∙ ap (λ (x : MarkerSeatView). x.types) c.read.ensures.view)
    (key_marked u c.header.new.seat c.args.place c.args.offset c.requires.hand.ty c.in-Some.key c.header.result held c.header.ensures.view mark)

pub returns-then-has_mark-clause-works : goal.returns-then-has_mark-clause-works
returns-then-has_mark-clause-works c =
    let v : MarkerSeatView = c.args.seat.now in
    let u : MarkerSeatView = c.read.new.seat in
    let x : MarkerSeatView = c.header.new.seat in
    let h = c.args.share.now in
    let n = c.args.notes.now in
    let d = c.args.drained.now in
    let held = key_in_hand v u c.args.place c.args.offset c.read.result c.in-Some.key c.requires.hand c.read.ensures.view c.in-Some.ensures in
    let mark : has_mark c.header.result ≡ true = sym c.has_mark.ensures ∙ c.if-has_mark.true in
    let none = none_noted u x c.args.place c.args.offset c.requires.hand.ty c.in-Some.key c.header.result held c.header.ensures.view mark in
    Works-then (drain_stage v h n d) (drain_stage u h n d) (drain_stage c.trace_target.new.seat c.trace_target.new.share n c.trace_target.new.drained)
    (looks_work v u h n d (read_looks v u c.read.result c.read.ensures.view))
    (Works-then (drain_stage u h n d) (drain_stage x h n d) (drain_stage c.trace_target.new.seat c.trace_target.new.share n c.trace_target.new.drained)
    (looks_work u x h n d (header_looks u x c.in-Some.key c.header.result c.header.ensures.view none)) (c.trace_target.ensures.works n))

pub returns-else-has_mark-clause-works : goal.returns-else-has_mark-clause-works
returns-else-has_mark-clause-works c =
    let v : MarkerSeatView = c.args.seat.now in
    let u : MarkerSeatView = c.read.new.seat in
    let x : MarkerSeatView = c.header.new.seat in
    let h = c.args.share.now in
    let n = c.args.notes.now in
    let d = c.args.drained.now in
    let held = key_in_hand v u c.args.place c.args.offset c.read.result c.in-Some.key c.requires.hand c.read.ensures.view c.in-Some.ensures in
    let unmarked : has_mark c.header.result ≡ false = sym c.has_mark.ensures ∙ c.if-has_mark.false in
    let noted = pair_noted u x c.args.place c.args.offset c.requires.hand.ty c.in-Some.key c.header.result held c.header.ensures.view unmarked in
    let is = c.header.ensures.view in
    let traced : x.traced ≡ u.traced = ap (λ (s : MarkerSeatView). s.traced) is in
    let before : u.traced ≡ v.traced = ap (λ (s : MarkerSeatView). s.traced) c.read.ensures.view in
    Works-then (drain_stage v h n d) (drain_stage u h n d) (drain_stage x h c.note.new.notes c.note.new.drained)
    (looks_work v u h n d (read_looks v u c.read.result c.read.ensures.view))
    (note_works u x h n c.note.new.notes d c.note.new.drained c.args.place c.args.offset (ap (λ (s : MarkerSeatView). s.heap) is)
    (ap (λ (s : MarkerSeatView). s.types) is) (ap (λ (s : MarkerSeatView). s.marked) is) traced ((c.args.place, c.args.offset) ∷ []) noted
    (one_pair c.args.place c.args.offset) (header_done u x c.in-Some.key c.header.result is) (header_missed u x c.in-Some.key c.header.result is)
    (inl (
      subst (λ xs. Contains xs (c.args.place, c.args.offset)) (sym noted) (Contains-push u.noted (c.args.place, c.args.offset)),
      subst (λ xs. Contains xs c.args.place) (sym (traced ∙ before)) c.requires.traced,
    ))
    c.note.ensures.fits c.note.ensures.noted)
