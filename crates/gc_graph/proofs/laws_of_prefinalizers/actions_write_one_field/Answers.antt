use Rattle.gc_graph.proofs.ActionWrites.{actions_write_one_field}
use Rattle.gc_graph.proofs.laws_of_prefinalizers.actions_write_one_field.Goals as goal

pub returns : goal.returns
returns c = actions_write_one_field
