use Rattle.std.proofs.Common.{take, subst, sym, arith}
use Rattle.cross_thread_region.specs.Calls.{PassView}
use Rattle.heap_region.specs.Handled.{IsHandled}
use Rattle.heap_region.proofs.taking.look_at_seen.Goals as goal

pub look_in_turn-requires-clause-handled : goal.look_in_turn-requires-clause-handled
look_in_turn-requires-clause-handled g c k above below =
    subst (λ (p : PassView). IsHandled c.args.objects.now.nodes (take k p.seen)) (sym c.entries-to.ensures.pass)
    (c.requires.handled k above (omega (arith, below, c.entries-to.ensures.count)))
