use Rattle.std.proofs.Common.{◌≡◌, [], None, replicate, vec_len, vec_capacity}
use Rattle.thread_queues.proofs.all_threads.idle_threads.Given as goal

abbrev pub invariant-loop-thread : goal.invariant-loop-thread
invariant-loop-thread l = record {
  items : l.threads.items ≡ replicate l._thread (record { orders = []; replies = []; run = None });
  len : vec_len l.threads ≡ l._thread;
  room : vec_capacity l.threads ≡ 8;
}
