use Rattle.std.proofs.Common.{◌≡◌, ◌≤◌, ◌*◌, ◌^◌, length, take}
use Rattle.thread_queues.specs.Queues.{replies_of}
use Rattle.thread_queues.proofs.queues.ThreadQueues.reply_count.Given as goal

abbrev pub invariant-loop-i : goal.invariant-loop-i
invariant-loop-i l = record {
  counted : l.count ≡ length (replies_of (take l.i l.self-inside.threads.items));
  few : l.count ≤ l.i * 2 ^ 27;
  end : l.i-end ≡ 8;
}
