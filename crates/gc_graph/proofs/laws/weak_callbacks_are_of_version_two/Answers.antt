use Rattle.gc_graph.proofs.ScriptRanges.{weak_callbacks_are_of_version_two}
use Rattle.gc_graph.proofs.laws.weak_callbacks_are_of_version_two.Goals as goal

pub returns : goal.returns
returns c = weak_callbacks_are_of_version_two
