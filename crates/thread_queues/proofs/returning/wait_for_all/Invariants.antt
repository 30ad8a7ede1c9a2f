use Rattle.std.proofs.Common.{◌≡◌, ◌<◌, ◌≤◌, ℕ, None, get_or, length, take, vec_capacity, vec_len}
use Rattle.thread_queues.specs.Queues.{ThreadView, orders_of, passes_of, posted, replies_of}
use Rattle.thread_queues.proofs.Back.{AreBackTo, AreSame}
use Rattle.thread_queues.proofs.returning.wait_for_all.Given as goal

abbrev pub invariant-loop-i : goal.invariant-loop-i
invariant-loop-i g l = record {
  orders : orders_of l.threads.items ≡ orders_of l.fn.threads.items;
  eight : length l.threads.items ≡ 8;
  here : (k : ℕ) (t : ThreadView) → k < l.i → (get_or l.threads.items k t).run ≡ None;
  still : (k : ℕ) (t : ThreadView) → l.i ≤ k → k < 8 → get_or l.threads.items k t ≡ get_or l.fn.threads.items k t;
  back : AreBackTo (orders_of l.fn.threads.items) l.i (passes_of l.fn.threads.items) l.passes.items (posted l.since.value l.fn.publisher.last) (replies_of (take l.i l.threads.items));
  same : AreSame (passes_of (take l.i l.fn.threads.items)) l.passes.items;
  publisher : l.publisher ≡ l.fn.publisher;
  room : vec_capacity l.passes ≡ vec_capacity l.fn.passes;
  few : vec_len l.passes ≤ l.i;
  end : l.i-end ≡ 8;
}
