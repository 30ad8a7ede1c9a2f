use Rattle.mark_worklist.specs.Left.{without_first}
use Rattle.mark_worklist.proofs.left.without.Given as goal

abbrev pub ghost-chosen : goal.ghost-chosen
ghost-chosen a = without_first a.about.now.a a.about.now.left.now.value
