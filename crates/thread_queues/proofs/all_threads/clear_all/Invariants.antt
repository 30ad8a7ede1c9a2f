use Rattle.std.proofs.Common.{◌≡◌, [], length, replicate, take}
use Rattle.thread_queues.specs.Queues.{orders_of, passes_of, replies_of}
use Rattle.thread_queues.proofs.all_threads.clear_all.Given as goal

abbrev pub invariant-loop-i : goal.invariant-loop-i
invariant-loop-i l = record {
  cleared : take l.i (orders_of l.threads.items) ≡ replicate l.i [];
  replies : replies_of l.threads.items ≡ replies_of l.fn.threads.items;
  here : passes_of l.threads.items ≡ [];
  eight : length l.threads.items ≡ 8;
  end : l.i-end ≡ 8;
}
