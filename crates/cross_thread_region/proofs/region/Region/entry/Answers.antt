use Rattle.std.proofs.Common.{subst}
use Rattle.cross_thread_region.specs.Calls.{PassView, Continues}
use Rattle.cross_thread_region.proofs.Turns.{seen_entry}
use Rattle.cross_thread_region.proofs.region.Region.entry.Goals as goal

pub returns-clause-entry : goal.returns-clause-entry
returns-clause-entry g c =
    seen_entry c.args.pass.now c.take-held.result.value.history c.args.i c.entry-entry.result
    (subst (λ (p : PassView). Continues p c.take-held.result.value.history) c.pass.view_is c.take-held.ensures.seen) c.requires.seen c.entry-entry.ensures
