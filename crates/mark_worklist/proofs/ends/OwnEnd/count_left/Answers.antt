use Rattle.std.proofs.Common.{rules}
use Rattle.mark_worklist.proofs.Steps.{totals}
use Rattle.mark_worklist.proofs.ends.OwnEnd.count_left.Goals as goal

pub len_as-requires : goal.len_as-requires
len_as-requires c = totals _ _ (search rules)
