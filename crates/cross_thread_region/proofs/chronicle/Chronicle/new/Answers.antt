use Rattle.std.proofs.Common.{rules}
use Rattle.cross_thread_region.proofs.Appended.{none_kept}
use Rattle.cross_thread_region.proofs.Noted.{none_noted}
use Rattle.cross_thread_region.proofs.chronicle.Chronicle.new.Goals as goal

pub invariant_of-result : goal.invariant_of-result
invariant_of-result c = (none_kept _ _ _ _ (search rules) (search rules) (search rules), search rules, none_noted _ _ _ (search rules) (search rules))
