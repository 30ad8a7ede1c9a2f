use Rattle.gc_graph.proofs.LastLines.{last_lines_mean}
use Rattle.gc_graph.proofs.laws_of_handles.last_lines_mean.Goals as goal

pub returns : goal.returns
returns c = last_lines_mean
