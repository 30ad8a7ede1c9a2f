use Rattle.gc_graph.proofs.Collections.{collects_unreached}
use Rattle.gc_graph.proofs.laws_of_marking.precise_collection_is_exact.Goals as goal

pub returns : goal.returns
returns c = collects_unreached
