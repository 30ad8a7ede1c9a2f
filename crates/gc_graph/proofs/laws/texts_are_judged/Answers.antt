use Rattle.gc_graph.proofs.Scripts.{texts_are_judged}
use Rattle.gc_graph.proofs.laws.texts_are_judged.Goals as goal

pub returns : goal.returns
returns c = texts_are_judged
