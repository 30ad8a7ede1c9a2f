use Rattle.std.proofs.Common.{true, false, length, refl, sym, ap, subst, arith}
use Rattle.std.specs.List.{Contains}
use Rattle.page_words.specs.Markers.{MarkerSeatView}
use Rattle.marker_crew.specs.declared.draining.Drained.{Drained}
use Rattle.marker_crew.specs.Drains.{nothing_yet}
use Rattle.marker_crew.specs.Stages.{DrainStage, drain_stage, MarkerWorks, MarkerOnlyLooks}
use Rattle.marker_crew.proofs.Claiming.{stop_looks}
use Rattle.marker_crew.proofs.Dealing.{all_dealt_stay, one_dealt}
use Rattle.marker_crew.proofs.Working.{Works-then, looks_then, looks_work, take_works, works_with_more}
use Rattle.marker_crew.proofs.draining.drain.Goals as goal

pub returns-then-stopped-clause-works : goal.returns-then-stopped-clause-works
returns-then-stopped-clause-works g c =
    let s : DrainStage = drain_stage c.args.seat.now c.args.share.now c.args.notes.now nothing_yet in
    let h = c.loop-item.share in
    let n = c.loop-item.notes in
    let d : Drained = c.loop-item.drained in
    let v : MarkerSeatView = c.loop-item.seat in
    let u : MarkerSeatView = c.stopped.new.seat in
    works_with_more s u h n d true
    (Works-then s (drain_stage v h n d) (drain_stage u h n d) c.loop-item.invariant.works
    (looks_work v u h n d (stop_looks v u c.stopped.result c.stopped.ensures.view)))

pub returns-then-stopped-clause-taken : goal.returns-then-stopped-clause-taken
returns-then-stopped-clause-taken g c =
    let h = c.loop-item.share in
    let n = c.loop-item.notes in
    let d : Drained = c.loop-item.drained in
    let v : MarkerSeatView = c.loop-item.seat in
    let u : MarkerSeatView = c.stopped.new.seat in
    let last : DrainStage = drain_stage u h n (record d { more = true }) in
    all_dealt_stay c.args.share.now (drain_stage v h n d) last
    (works_with_more (drain_stage v h n d) u h n d true (looks_work v u h n d (stop_looks v u c.stopped.result c.stopped.ensures.view)))
    refl c.loop-item.invariant.dealt

pub returns-in_default-clause-works : goal.returns-in_default-clause-works
returns-in_default-clause-works g c =
    let s : DrainStage = drain_stage c.args.seat.now c.args.share.now c.args.notes.now nothing_yet in
    let h = c.loop-item.share in
    let k = c.await_item.new.share in
    let n = c.loop-item.notes in
    let d : Drained = c.loop-item.drained in
    let v : MarkerSeatView = c.loop-item.seat in
    let u : MarkerSeatView = c.await_item.new.seat in
    let looks : MarkerOnlyLooks v u =
    looks_then v c.stopped.new.seat u (stop_looks v c.stopped.new.seat c.stopped.result c.stopped.ensures.view) c.await_item.ensures.looks in
    works_with_more s u k n d false
    (Works-then s (drain_stage v h n d) (drain_stage u k n d) c.loop-item.invariant.works
    (Works-then (drain_stage v h n d) (drain_stage u h n d) (drain_stage u k n d) (looks_work v u h n d looks)
    (take_works u h k n d c.await_item.ensures.lists c.await_item.ensures.same.0 (λ a there. subst (λ xs. Contains xs a) (sym c.in_default.ensures.taken.0) there) c.await_item.ensures.same.1)))

pub returns-in_default-clause-taken : goal.returns-in_default-clause-taken
returns-in_default-clause-taken g c =
    let h = c.loop-item.share in
    let k = c.await_item.new.share in
    let n = c.loop-item.notes in
    let d : Drained = c.loop-item.drained in
    let v : MarkerSeatView = c.loop-item.seat in
    let u : MarkerSeatView = c.await_item.new.seat in
    let last : DrainStage = drain_stage u k n (record d { more = false }) in
    let looks : MarkerOnlyLooks v u =
    looks_then v c.stopped.new.seat u (stop_looks v c.stopped.new.seat c.stopped.result c.stopped.ensures.view) c.await_item.ensures.looks in
    all_dealt_stay c.args.share.now (drain_stage v h n d) last
    (works_with_more (drain_stage v h n d) u k n d false
    (Works-then (drain_stage v h n d) (drain_stage u h n d) (drain_stage u k n d) (looks_work v u h n d looks)
    (take_works u h k n d c.await_item.ensures.lists c.await_item.ensures.same.0
    (λ a there. subst (λ xs. Contains xs a) (sym c.in_default.ensures.taken.0) there)
    c.await_item.ensures.same.1)))
    c.in_default.ensures.taken.0 c.loop-item.invariant.dealt

pub loop-item-preserved : goal.loop-item-preserved
loop-item-preserved g c =
    let s : DrainStage = drain_stage c.args.seat.now c.args.share.now c.args.notes.now nothing_yet in
    let h = c.loop-item.share in
    let k = c.await_item.new.share in
    let n = c.loop-item.notes in
    let d : Drained = c.loop-item.drained in
    let v : MarkerSeatView = c.loop-item.seat in
    let u : MarkerSeatView = c.await_item.new.seat in
    let last : DrainStage = drain_stage c.deal_with.new.seat c.deal_with.new.share c.deal_with.new.notes c.deal_with.new.drained in
    let looks : MarkerOnlyLooks v u =
    looks_then v c.stopped.new.seat u (stop_looks v c.stopped.new.seat c.stopped.result c.stopped.ensures.view) c.await_item.ensures.looks in
    let works : MarkerWorks (drain_stage v h n d) last =
    Works-then (drain_stage v h n d) (drain_stage u h n d) last (looks_work v u h n d looks)
    (Works-then (drain_stage u h n d) (drain_stage u k n d) last
    (take_works u h k n d c.await_item.ensures.lists c.await_item.ensures.same.0 c.in-Some.ensures.taken.kept c.await_item.ensures.same.1) c.deal_with.ensures.works) in
    record {
      works = Works-then s (drain_stage v h n d) last c.loop-item.invariant.works works;
      dealt = one_dealt c.args.share.now (drain_stage v h n d) last k c.in-Some.place works c.loop-item.invariant.dealt c.in-Some.ensures.taken
          c.deal_with.ensures.taken c.deal_with.ensures.dealt;
      hand = c.deal_with.ensures.hand;
      count = omega (arith, ap length c.deal_with.ensures.taken, c.in-Some.ensures.taken.count, c.loop-item.invariant.count);
      most = omega (arith, c.deal_with.ensures.most, c.loop-item.invariant.most);
    }

pub deal_with-requires-clause-item : goal.deal_with-requires-clause-item
deal_with-requires-clause-item g c = c.in-Some.ensures.taken.there
