use Rattle.gc_graph.proofs.CycleLaws.{clears_live_holders}
use Rattle.gc_graph.proofs.laws_of_cycles.live_holders_are_cleared.Goals as goal

pub returns : goal.returns
returns c = clears_live_holders
