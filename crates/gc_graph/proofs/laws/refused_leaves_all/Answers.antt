use Rattle.gc_graph.proofs.Refusals.{refused_leaves_all}
use Rattle.gc_graph.proofs.laws.refused_leaves_all.Goals as goal

pub returns : goal.returns
returns c = refused_leaves_all
