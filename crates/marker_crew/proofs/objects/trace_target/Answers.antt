use Rattle.std.proofs.Common.{◌≡◌, false, not, ap, ◌∙◌}
use Rattle.page_words.specs.Markers.{MarkerSeatView, marked_as}
use Rattle.marker_crew.specs.Stages.{drain_stage}
use Rattle.marker_crew.proofs.Reading.{read_looks}
use Rattle.marker_crew.proofs.Working.{Works-then, looks_work, marks_work}
use Rattle.marker_crew.proofs.objects.trace_target.Goals as goal

pub returns-then-mark_as-clause-works : goal.returns-then-mark_as-clause-works
returns-then-mark_as-clause-works c n =
    let v : MarkerSeatView = c.args.seat.now in
    let u : MarkerSeatView = c.read.new.seat in
    let w : MarkerSeatView = c.mark_as.new.seat in
    let is : w ≡ marked_as u c.in-Some.target false = c.mark_as.ensures.view ∙ ap (λ b. marked_as u c.in-Some.target (not b)) c.if-mark_as.true in
    Works-then (drain_stage v c.args.share.now n c.args.drained.now) (drain_stage u c.args.share.now n c.args.drained.now) (drain_stage w c.list.new.share n c.list.new.drained)
    (looks_work v u c.args.share.now n c.args.drained.now (read_looks v u c.read.result c.read.ensures.view))
    (marks_work u w c.args.share.now c.list.new.share n c.args.drained.now c.list.new.drained c.in-Some.target
    (ap (λ (x : MarkerSeatView). x.heap) is) (ap (λ (x : MarkerSeatView). x.types) is) (ap (λ (x : MarkerSeatView). x.marked) is)
    (ap (λ (x : MarkerSeatView). x.traced) is) (ap (λ (x : MarkerSeatView). x.noted) is) (ap (λ (x : MarkerSeatView). x.done) is)
    (ap (λ (x : MarkerSeatView). x.missed) is) c.list.ensures.fits c.list.ensures.listed)
