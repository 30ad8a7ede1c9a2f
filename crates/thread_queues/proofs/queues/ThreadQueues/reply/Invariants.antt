use Rattle.std.proofs.Common.{◌≡◌, ◌+◌, length, take}
use Rattle.thread_queues.specs.Queues.{replies_of}
use Rattle.thread_queues.proofs.queues.ThreadQueues.reply.Given as goal

abbrev pub invariant-loop-i : goal.invariant-loop-i
invariant-loop-i l = record {
  at : l.index ≡ length (replies_of (take l.i l.self-inside.threads.items)) + l.left;
  end : l.i-end ≡ 8;
}
