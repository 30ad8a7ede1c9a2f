use Rattle.std.proofs.Common.{◌≡◌, ◌≤◌, ◌^◌, All, length, take, vec_capacity}
use Rattle.gc_graph.specs.Lawful.{IsAllowedOrder}
use Rattle.thread_queues.specs.Orders.{IsOwn, IsReadOn, ThreadDone}
use Rattle.thread_queues.proofs.queue.Queue.do_orders.Given as goal

abbrev pub invariant-loop-i : goal.invariant-loop-i
invariant-loop-i g l = record {
  done : ThreadDone l.place.thread (take l.i l.self-inside.orders.items) l.fn.own l.own l.self-inside.replies.items;
  own : IsOwn l.place.region.now l.own.region l.place.thread;
  table : l.own.board.board ≡ l.place.board.now;
  board : IsReadOn l.fn.own.board l.own.board;
  orders : l.self-inside.orders.items ≡ l.fn.self.orders;
  allowed : All IsAllowedOrder l.self-inside.orders.items;
  len : length l.self-inside.replies.items ≡ l.i;
  room : length l.self-inside.orders.items ≤ vec_capacity l.self-inside.replies;
  few : length l.self-inside.orders.items ≤ 2 ^ 27;
  end : l.i-end ≡ length l.self-inside.orders.items;
}
