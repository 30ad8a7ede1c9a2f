use Rattle.std.proofs.Common.{◌≡◌, ◌+◌, ◌<◌, ◌≤◌, ℕ, [], None, All, Contains, get_or, length, take}
use Rattle.std.specs.Arc.{arc_value}
use Rattle.cross_thread_region.specs.Calls.{PassView}
use Rattle.thread_queues.specs.Queues.{ThreadView, orders_of, passes_of, replies_of, threads_in}
use Rattle.thread_queues.specs.Going.{IsFirst}
use Rattle.thread_queues.specs.Orders.{HasOutBelow}
use Rattle.thread_queues.specs.Runs.{IsAtWork, IsLentBy, IsLentThen}
use Rattle.thread_queues.proofs.all_threads.go_all.Given as goal

abbrev pub invariant-loop-i : goal.invariant-loop-i
invariant-loop-i g l = record {
  orders : orders_of l.threads.items ≡ orders_of l.fn.threads.items;
  eight : length l.threads.items ≡ 8;
  here : (k : ℕ) (t : ThreadView) → l.i ≤ k → k < 8 → (get_or l.threads.items k t).run ≡ None;
  work : (k : ℕ) (t : ThreadView) → k < l.i → IsAtWork (k + 1) (get_or l.threads.items k t);
  replies : replies_of (take l.i l.threads.items) ≡ [];
  lent : All (IsLentBy l.fn.publisher.board) (take l.i l.threads.items);
  then_lent : All (IsLentThen l.fn.publisher.last.ordinal) (take l.i l.threads.items);
  seen : All (λ (p : PassView). p.seen ≡ l.fn.pass.seen) (passes_of (take l.i l.threads.items));
  pass : l.pass ≡ record l.fn.pass { out = l.pass.out };
  first : IsFirst (arc_value l.shared.region.now) l.pass;
  outs : HasOutBelow (arc_value l.shared.region.now) l.pass (passes_of (take l.i l.threads.items)) (l.i + 1);
  running : All (Contains (threads_in (orders_of l.fn.threads.items))) l.pass.out;
  publisher : l.publisher ≡ l.fn.publisher;
  end : l.i-end ≡ 8;
}
