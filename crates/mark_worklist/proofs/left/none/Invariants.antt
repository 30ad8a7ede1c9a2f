use Rattle.std.proofs.Common.{[]}
use Rattle.mark_worklist.proofs.left.none.Given as goal

abbrev pub ghost-chosen : goal.ghost-chosen
ghost-chosen a = []
