use Rattle.mark_worklist.specs.Left.{left_on}
use Rattle.mark_worklist.proofs.left.left_on.Given as goal

abbrev pub ghost-chosen : goal.ghost-chosen
ghost-chosen a = left_on a.about.now
