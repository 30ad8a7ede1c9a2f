use Rattle.gc_graph.proofs.NewLaws.{new_objects_are_empty}
use Rattle.gc_graph.proofs.laws_of_accesses.new_objects_are_empty.Goals as goal

pub returns : goal.returns
returns c = new_objects_are_empty
