use Rattle.std.proofs.Common.{rules}
use Rattle.mark_worklist.proofs.Steps.{cuts}
use Rattle.mark_worklist.proofs.ends.OwnEnd.other_end.Goals as goal

pub another-pass-requires : goal.another-pass-requires
another-pass-requires c = cuts _ _ (search rules)
