use Rattle.gc_graph.proofs.ActionsStay.{actions_leave_nodes}
use Rattle.gc_graph.proofs.laws.actions_leave_nodes.Goals as goal

pub returns : goal.returns
returns c = actions_leave_nodes
