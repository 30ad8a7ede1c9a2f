use Rattle.std.proofs.Common.{rules, ◌<◌, length, ap, ◌∙◌}
use Rattle.thread_queues.specs.Queues.{ThreadView}
use Rattle.thread_queues.proofs.Away.{all_here}
use Rattle.thread_queues.proofs.Held.{cleared_next, passes_stay, replies_stay}
use Rattle.thread_queues.proofs.all_threads.clear_all.Goals as goal

pub loop-i-preserved : goal.loop-i-preserved
loop-i-preserved c =
    let low : c.loop-i.i < length c.loop-i.threads.items = search rules in
    record {
      cleared = cleared_next c.loop-i.threads.items c.loop-i.i c.clear.new.self low (ap (λ (q : ThreadView). q.orders) c.clear.ensures) c.loop-i.invariant.cleared;
      replies =
          replies_stay c.loop-i.threads.items c.loop-i.i c.index_mut-thread.result.now c.clear.new.self c.index_mut-thread.ensures.value
          (ap (λ (q : ThreadView). q.replies) c.clear.ensures)
          ∙ c.loop-i.invariant.replies;
      here =
          passes_stay c.loop-i.threads.items c.loop-i.i c.index_mut-thread.result.now c.clear.new.self c.index_mut-thread.ensures.value
          (ap (λ (q : ThreadView). q.run) c.clear.ensures)
          ∙ c.loop-i.invariant.here;
      eight = search rules;
      end = c.loop-i.invariant.end;
    }

pub clear-requires : goal.clear-requires
clear-requires c =
    let low : c.loop-i.i < length c.loop-i.threads.items = search rules in
    record { here = ap (λ (q : ThreadView). q.run) c.index_mut-thread.ensures.value ∙ all_here c.loop-i.threads.items c.loop-i.i c.index_mut-thread.result.now c.loop-i.invariant.here low }
