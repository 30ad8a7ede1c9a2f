use Rattle.gc_graph.proofs.OrderLaws.{joined_did_their_orders, running_do_their_orders}
use Rattle.gc_graph.proofs.laws_of_threads.threads_do_their_orders.Goals as goal

pub returns-clause-joined : goal.returns-clause-joined
returns-clause-joined c = joined_did_their_orders

pub returns-clause-running : goal.returns-clause-running
returns-clause-running c = running_do_their_orders
