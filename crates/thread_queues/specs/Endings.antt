-- What the crate's own code cites: what is known of a thread's end.
use Rattle.std.specs.Prelude.{◌≡◌, None}
use Rattle.thread_queues.specs.declared.endings.Begun.{Begun}
use Rattle.thread_queues.specs.declared.endings.Ended.{Ended}
use Rattle.thread_queues.specs.Orders.{ThreadDone, IsReadOn}

-- a thread that began so has done its orders, and ended so, with the same passes, which have seen and read more
pub record HasRun (begun : Begun) (ended : Ended) : Type 0 where
  pub done : ThreadDone begun.own.region.number begun.queue.orders begun.own ended.own ended.queue.replies
  pub orders : ended.queue.orders ≡ begun.queue.orders
  pub lock : ended.own.region.lock ≡ begun.own.region.lock
  pub free : ended.own.region.turn ≡ None
  pub number : ended.own.region.number ≡ begun.own.region.number
  pub board : IsReadOn begun.own.board ended.own.board
