use Rattle.gc_graph.proofs.HandleLaws.{written_is_read_back}
use Rattle.gc_graph.proofs.laws_of_accesses.written_is_read_back.Goals as goal

pub returns : goal.returns
returns c = written_is_read_back
