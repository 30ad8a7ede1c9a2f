use Rattle.std.proofs.Common.{◌≡◌, ◌≤◌, false, sym, ap, ◌∙◌, subst, inl, inr, arith}
use Rattle.page_words.specs.Markers.{MarkerSeatView, start_read}
use Rattle.page_words.specs.Seat.{Heap}
use Rattle.marker_crew.specs.Stages.{drain_stage, MarkerOnlyLooks}
use Rattle.marker_crew.proofs.Claiming.{start_looks, start_missed}
use Rattle.marker_crew.proofs.Dealing.{note_deals}
use Rattle.marker_crew.proofs.Working.{Works-then, looks_work, item_noted, looks_not}
use Rattle.marker_crew.proofs.items.deal_with.Goals as goal
use Rattle.marker_crew.proofs.items.deal_with.Goals.{else-place-count-via-then-place-count+else-is_start, else-place-count-via-else-place-count}

pub returns-then-is_start-clause-works : goal.returns-then-is_start-clause-works
returns-then-is_start-clause-works g c =
    let v : MarkerSeatView = c.args.seat.now in
    let u : MarkerSeatView = c.is_start.new.seat in
    let h = c.args.share.now in
    let n = c.args.notes.now in
    let d = c.args.drained.now in
    Works-then (drain_stage v h n d) (drain_stage u h n d) (drain_stage c.trace_known.new.seat c.trace_known.new.share c.trace_known.new.notes c.trace_known.new.drained)
    (looks_work v u h n d (start_looks v u c.args.place c.is_start.result c.is_start.ensures.view)) c.trace_known.ensures.works

pub returns-else-place-count-clause-works : goal.returns-else-place-count-clause-works
returns-else-place-count-clause-works g c = elim c.else-place-count.branch [
  | else-place-count-via-then-place-count+else-is_start w ↦
      (let v : MarkerSeatView = c.args.seat.now in
      let u : MarkerSeatView = c.else-place-count.seat in
      let is : u ≡ start_read v c.args.place false = w.seat-is ∙ w.is_start.ensures.view ∙ ap (start_read v c.args.place) w.if-is_start.false in
      item_noted v u c.args.share.now c.args.notes.now c.note.new.notes c.args.drained.now c.note.new.drained c.args.place
      (start_looks v u c.args.place false is) c.requires.item (inl (start_missed v u c.args.place is)) c.note.ensures.fits c.note.ensures.noted)
  | else-place-count-via-else-place-count w ↦
      (let v : MarkerSeatView = c.args.seat.now in
      let u : MarkerSeatView = c.else-place-count.seat in
      let far : u.count ≤ c.args.place =
      omega (
        arith,
        w.if-place-count.false,
        c.count.ensures.count,
        ap (λ (x : Heap). x.count) c.requires.heap,
        ap (λ (x : MarkerSeatView). x.count) w.seat-is,
      ) in
      item_noted v u c.args.share.now c.args.notes.now c.note.new.notes c.args.drained.now c.note.new.drained c.args.place
      (subst (MarkerOnlyLooks v) (sym w.seat-is) (looks_not v)) c.requires.item (inr far) c.note.ensures.fits c.note.ensures.noted)
]

pub returns-else-place-count-clause-dealt : goal.returns-else-place-count-clause-dealt
returns-else-place-count-clause-dealt g c =
    note_deals (drain_stage c.else-place-count.seat c.args.share.now c.note.new.notes c.note.new.drained) c.args.notes.now c.args.drained.now c.args.place
    c.note.ensures.noted
