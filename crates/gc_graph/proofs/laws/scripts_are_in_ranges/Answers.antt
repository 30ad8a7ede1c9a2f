use Rattle.gc_graph.proofs.ScriptRanges.{scripts_are_in_ranges}
use Rattle.gc_graph.proofs.laws.scripts_are_in_ranges.Goals as goal

pub returns : goal.returns
returns c = scripts_are_in_ranges
