use Rattle.std.proofs.Common.{length, sym, ap, subst, false, arith}
use Rattle.std.specs.List.{Contains}
use Rattle.page_words.specs.Markers.{MarkerSeatView}
use Rattle.marker_crew.specs.declared.draining.Drained.{Drained}
use Rattle.marker_crew.specs.Drains.{nothing_yet}
use Rattle.marker_crew.specs.Stages.{DrainStage, drain_stage, MarkerWorks}
use Rattle.marker_crew.proofs.Dealing.{all_dealt_stay, one_dealt}
use Rattle.marker_crew.proofs.Working.{Works-then, take_works, works_with_more}
use Rattle.marker_crew.proofs.beside.step.Goals as goal

pub returns-in_default-clause-works : goal.returns-in_default-clause-works
returns-in_default-clause-works c =
    let s : DrainStage = drain_stage c.args.seat.now c.args.share.now c.args.notes.now nothing_yet in
    let v : MarkerSeatView = c.loop-item.seat in
    let h = c.loop-item.share in
    let k = c.next_item.new.share in
    let n = c.loop-item.notes in
    let d : Drained = c.loop-item.drained in
    let took : MarkerWorks (drain_stage v h n d) (drain_stage v k n d) =
    take_works v h k n d c.next_item.ensures.lists c.next_item.ensures.same.0 (λ a there. subst (λ xs. Contains xs a) (sym c.in_default.ensures.taken.0) there)
    c.next_item.ensures.same.1 in
    works_with_more s v k n d false (Works-then s (drain_stage v h n d) (drain_stage v k n d) c.loop-item.invariant.works took)

pub returns-in_default-clause-taken : goal.returns-in_default-clause-taken
returns-in_default-clause-taken c =
    let v : MarkerSeatView = c.loop-item.seat in
    let h = c.loop-item.share in
    let k = c.next_item.new.share in
    let n = c.loop-item.notes in
    let d : Drained = c.loop-item.drained in
    let took : MarkerWorks (drain_stage v h n d) (drain_stage v k n d) =
    take_works v h k n d c.next_item.ensures.lists c.next_item.ensures.same.0 (λ a there. subst (λ xs. Contains xs a) (sym c.in_default.ensures.taken.0) there)
    c.next_item.ensures.same.1 in
    let last : DrainStage = drain_stage v k n (record d { more = false }) in
    all_dealt_stay c.args.share.now (drain_stage v h n d) last (works_with_more (drain_stage v h n d) v k n d false took)
    c.in_default.ensures.taken.0 c.loop-item.invariant.dealt

pub loop-item-preserved : goal.loop-item-preserved
loop-item-preserved c =
    let s : DrainStage = drain_stage c.args.seat.now c.args.share.now c.args.notes.now nothing_yet in
    let v : MarkerSeatView = c.loop-item.seat in
    let h = c.loop-item.share in
    let k = c.next_item.new.share in
    let n = c.loop-item.notes in
    let d : Drained = c.loop-item.drained in
    let last : DrainStage = drain_stage c.deal_with.new.seat c.deal_with.new.share c.deal_with.new.notes c.deal_with.new.drained in
    let took : MarkerWorks (drain_stage v h n d) (drain_stage v k n d) =
    take_works v h k n d c.next_item.ensures.lists c.next_item.ensures.same.0 c.in-Some.ensures.taken.kept c.next_item.ensures.same.1 in
    let works : MarkerWorks (drain_stage v h n d) last = Works-then (drain_stage v h n d) (drain_stage v k n d) last took c.deal_with.ensures.works in
    record {
      works = Works-then s (drain_stage v h n d) last c.loop-item.invariant.works works;
      dealt = one_dealt c.args.share.now (drain_stage v h n d) last k c.in-Some.place works c.loop-item.invariant.dealt c.in-Some.ensures.taken
          c.deal_with.ensures.taken c.deal_with.ensures.dealt;
      hand = c.deal_with.ensures.hand;
      count = omega (arith, ap length c.deal_with.ensures.taken, c.in-Some.ensures.taken.count, c.loop-item.invariant.count);
      most = omega (arith, c.deal_with.ensures.most, c.loop-item.invariant.most, c.if-drained-most.false);
    }
