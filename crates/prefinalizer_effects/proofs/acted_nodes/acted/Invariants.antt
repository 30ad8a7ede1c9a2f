use Rattle.gc_graph.specs.Actions.{acted}
use Rattle.prefinalizer_effects.proofs.acted_nodes.acted.Given as goal

abbrev pub ghost-chosen : goal.ghost-chosen
ghost-chosen a = acted a.about.now.nodes.now.value a.about.now.dying a.about.now.action
