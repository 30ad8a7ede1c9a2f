use Rattle.gc_graph.proofs.ReportsReadBack.{lines_read_back}
use Rattle.gc_graph.proofs.laws.lines_read_back.Goals as goal

pub returns : goal.returns
returns c = lines_read_back
