use Rattle.gc_graph.proofs.JoinLaws.{joins_tell_all}
use Rattle.gc_graph.proofs.laws_of_threads.joins_tell_all.Goals as goal

pub returns : goal.returns
returns c = joins_tell_all
