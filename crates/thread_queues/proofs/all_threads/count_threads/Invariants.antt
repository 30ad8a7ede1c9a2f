use Rattle.std.proofs.Common.{◌≡◌, ◌≤◌, length}
use Rattle.thread_queues.specs.Queues.{orders_of}
use Rattle.thread_queues.proofs.Threads.{threads_to}
use Rattle.thread_queues.proofs.all_threads.count_threads.Given as goal

abbrev pub invariant-loop-i : goal.invariant-loop-i
invariant-loop-i l = record {
  counted : l.count ≡ length (threads_to (orders_of l.threads.items) l.i);
  few : l.count ≤ l.i;
}
