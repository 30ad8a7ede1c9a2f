use Rattle.std.proofs.Common.{rules, ◌<◌, ◌∙◌, length, ap, refl}
use Rattle.thread_queues.specs.Queues.{QueueView}
use Rattle.thread_queues.proofs.Calls.{reads_none}
use Rattle.thread_queues.proofs.Done.{thread_none, thread_goes_on, reads_on, board_stays}
use Rattle.thread_queues.proofs.queue.Queue.do_orders.Goals as goal

pub loop-i-init : goal.loop-i-init
loop-i-init g c = record {
  done = thread_none _ _ _ c.clear.ensures.items;
  own = c.requires.own;
  table = c.requires.board;
  board = reads_none _ _ refl;
  orders = ap (λ (q : QueueView). q.orders) c.self.view_is;
  allowed = c.self.invariant.allowed;
  len = search rules;
  room = search rules;
  few = c.self.invariant.few;
  end = search rules;
}

pub loop-i-preserved : goal.loop-i-preserved
loop-i-preserved g c = let low : c.loop-i.i < length c.loop-i.self-inside.orders.items = search rules in record {
  done =
      thread_goes_on _ _ _ _ _ _ _ _ _ _ low c.index.ensures c.loop-i.invariant.done c.do_order-reply.ensures.done
      c.push_reserved.ensures.items;
  own = c.do_order-reply.ensures.own;
  table = board_stays _ _ c.do_order-reply.ensures.board ∙ c.loop-i.invariant.table;
  board = reads_on _ _ _ c.loop-i.invariant.board c.do_order-reply.ensures.board;
  orders = c.loop-i.invariant.orders;
  allowed = c.loop-i.invariant.allowed;
  len = search rules;
  room = search rules;
  few = c.loop-i.invariant.few;
  end = c.loop-i.invariant.end;
}
