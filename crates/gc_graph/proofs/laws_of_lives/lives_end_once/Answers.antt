use Rattle.gc_graph.proofs.OnceLaws.{once}
use Rattle.gc_graph.proofs.laws_of_lives.lives_end_once.Goals as goal

pub returns : goal.returns
returns c = once
