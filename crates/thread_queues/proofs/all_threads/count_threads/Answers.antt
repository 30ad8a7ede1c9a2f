use Rattle.std.proofs.Common.{◌≡◌, ◌≢◌, ◌+◌, length, sym, ap, ◌∙◌, arith}
use Rattle.std.proofs.lemmas.Bool.{eqb-true, eqb-false}
use Rattle.thread_queues.specs.Queues.{ThreadView, orders_of}
use Rattle.thread_queues.proofs.Away.{all_here}
use Rattle.thread_queues.proofs.Held.{orders_at}
use Rattle.thread_queues.proofs.Threads.{threads_to, one_more, none_more, next_has, next_none}
use Rattle.thread_queues.proofs.all_threads.count_threads.Goals as goal
use Rattle.thread_queues.proofs.all_threads.count_threads.Goals.{then-not-is_empty, else-not-is_empty}

pub loop-i-preserved : goal.loop-i-preserved
loop-i-preserved c =
    let orders = orders_of c.args.threads.now.items in
    let same = orders_at c.args.threads.now.items c.loop-i.i c.index.result.now (omega (arith, c.loop-i-test.true, c.requires.eight)) c.index.ensures in
    elim c.if-not-is_empty.branch [
      | then-not-is_empty w ↦ let full : length c.index.result.now.orders ≢ 0 = eqb-false (length c.index.result.now.orders) 0 (sym c.is_empty.ensures ∙ w.if-not-is_empty.true) in record {
        counted =
            w.count-is ∙ ap (λ n. n + 1) c.loop-i.invariant.counted
            ∙ sym (one_more orders c.loop-i.i (next_has orders c.loop-i.i (omega (arith, full, ap length same))));
        few = omega (arith, w.count-is, c.loop-i.invariant.few);
      }
      | else-not-is_empty w ↦ let none : length c.index.result.now.orders ≡ 0 = eqb-true (length c.index.result.now.orders) 0 (sym c.is_empty.ensures ∙ w.if-not-is_empty.false) in record {
        counted =
            w.count-is ∙ c.loop-i.invariant.counted
            ∙ sym (none_more orders c.loop-i.i (next_none orders c.loop-i.i (omega (arith, none, ap length same))));
        few = omega (arith, w.count-is, c.loop-i.invariant.few);
      }
    ]

pub returns : goal.returns
returns c =
    let end : c.loop-i.i ≡ 8 = omega (arith, c.loop-i-test.false, c.loop-i.auto.i-end) in
    c.loop-i.invariant.counted ∙ ap (λ i. length (threads_to (orders_of c.args.threads.now.items) i)) end

pub is_empty-requires : goal.is_empty-requires
is_empty-requires c =
    record { here = ap (λ (t : ThreadView). t.run) c.index.ensures ∙ all_here c.args.threads.now.items c.loop-i.i c.index.result.now c.requires.here (omega (arith, c.loop-i-test.true, c.requires.eight)) }
