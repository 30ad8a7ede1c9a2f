use Rattle.gc_graph.proofs.JoinLaws.{orders_wait_in_order, threads_with_orders_go}
use Rattle.gc_graph.proofs.laws_of_threads.orders_wait_for_their_thread.Goals as goal

pub returns-clause-orders : goal.returns-clause-orders
returns-clause-orders c = orders_wait_in_order

pub returns-clause-starts : goal.returns-clause-starts
returns-clause-starts c = threads_with_orders_go
