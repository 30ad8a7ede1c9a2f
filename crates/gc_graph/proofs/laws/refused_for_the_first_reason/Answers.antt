use Rattle.gc_graph.proofs.FirstReasons.{refused_for_the_first_reason}
use Rattle.gc_graph.proofs.laws.refused_for_the_first_reason.Goals as goal

pub returns : goal.returns
returns c = refused_for_the_first_reason
