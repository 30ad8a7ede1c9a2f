-- The orders that wait for the threads of a script, and what these threads are told.
use Rattle.std.specs.Prelude.{ℕ, ◌-◌, ◌^◌, ◌≤◌, ◌==◌, nat_lt, Bool, false, List, [], ◌∷◌, ◌++◌, length, map, filter, replicate, slice_set, slice_index_or, All, Option, Some, None, if◌then◌else◌}
use Rattle.std.specs.List.{flat_map, list_any, range_with_len}
use Rattle.gc_graph.specs.declared.command.Order.{Order}
use Rattle.gc_graph.specs.declared.line.Line.{Line}
use Rattle.gc_graph.specs.Lawful.{IsAllowedOrder}
use Rattle.cross_thread_region.specs.Calls.{PassView}
use Rattle.heap_stats.specs.Boards.{zeros}
use Rattle.heap_stats.specs.declared.totals.Totals.{Totals}
use Rattle.thread_queues.specs.declared.working.OwnPasses.{OwnPasses}

-- the queues of threads 1 to 8; the numbers of the threads that run; whether a join is awaited; whether the threads that went are still
-- away; what the orders of the threads that were joined last were answered, thread after thread; the region's passes of the threads that
-- are away, as they began; and the totals published last, with those published since the threads went, from the last ones before they went
pub record QueuesView : Type 0 where
  pub queues : List (List Order)
  pub running : List ℕ
  pub awaiting : Bool
  pub away : Bool
  pub replies : List Line
  pub passes : List PassView
  pub last : Totals
  pub since : List Totals

-- no orders, no threads and no replies, and four zeros were published
abbrev pub no_orders : QueuesView
no_orders = record {
  queues = replicate 8 [];
  running = [];
  awaiting = false;
  away = false;
  replies = [];
  passes = [];
  last = zeros;
  since = [];
}

-- the orders that wait for thread j
abbrev pub queue_in : List (List Order) → ℕ → List Order
queue_in queues j = slice_index_or queues (j - 1) []

-- the queues where the order waits behind the others of its thread
abbrev pub with_order : List (List Order) → ℕ → Order → List (List Order)
with_order queues j order = slice_set queues (j - 1) (queue_in queues j ++ order ∷ [])

-- the threads whose queues aren't empty
abbrev pub threads_in : List (List Order) → List ℕ
threads_in queues = filter (λ j. nat_lt 0 (length (queue_in queues j))) (range_with_len 1 8)

-- the queues after the threads that ran were joined: theirs are empty
abbrev pub queues_left : List (List Order) → List ℕ → List (List Order)
queues_left queues running = map (λ j. if list_any (λ k. k == j) running then [] else queue_in queues j) (range_with_len 1 8)

-- the totals published from the last ones before the threads went
abbrev pub posted : List Totals → Totals → List Totals
posted since last = since ++ last ∷ []

-- ---- what the crate's own code cites

-- a thread's orders, and what those that it did last were answered
pub record QueueView : Type 0 where
  pub orders : List Order
  pub replies : List Line

-- a queue has a reply's room for each order; it has at most 2 ^ 27 orders, so that the replies of eight queues can be
-- counted in 32 bits
pub record QueueHasRoom (queue : QueueView) (room : ℕ) : Type 0 where
  pub allowed : All IsAllowedOrder queue.orders
  pub room_for_all : length queue.orders ≤ room
  pub few : length queue.orders ≤ 2 ^ 27
  pub few_replies : length queue.replies ≤ 2 ^ 27

-- a thread: its orders, what those that it did last were answered, and, where it is away, the passes with which it began
pub record ThreadView : Type 0 where
  pub orders : List Order
  pub replies : List Line
  pub run : Option OwnPasses

-- the pass of the region with which a thread began that is away
abbrev pub pass_begun : Option OwnPasses → List PassView
pass_begun None = []
pass_begun (Some own) = own.region ∷ []

-- the orders, thread by thread
abbrev pub orders_of : List ThreadView → List (List Order)
orders_of threads = map (λ (thread : ThreadView). thread.orders) threads

-- the replies, thread after thread
abbrev pub replies_of : List ThreadView → List Line
replies_of threads = flat_map (λ (thread : ThreadView). thread.replies) threads

-- the passes with which threads began that are away, thread after thread
abbrev pub passes_of : List ThreadView → List PassView
passes_of threads = flat_map (λ (thread : ThreadView). pass_begun thread.run) threads

-- what the threads and the board tell: threads run while a join is awaited
abbrev pub view_of : List ThreadView → Bool → Bool → Totals → List Totals → QueuesView
view_of threads awaiting away last since = record {
  queues = orders_of threads;
  running = if awaiting then threads_in (orders_of threads) else [];
  awaiting = awaiting;
  away = away;
  replies = replies_of threads;
  passes = passes_of threads;
  last = last;
  since = since;
}
