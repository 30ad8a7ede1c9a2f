use Rattle.gc_graph.proofs.PrefinalizerLaws.{new_objects_are_registered}
use Rattle.gc_graph.proofs.laws_of_prefinalizers.new_objects_are_registered.Goals as goal

pub returns : goal.returns
returns c = new_objects_are_registered
