use Rattle.std.proofs.Common.{subst, sym}
use Rattle.heap_stats.specs.declared.totals.Totals.{Totals}
use Rattle.std.specs.Prelude.{List}
use Rattle.std.specs.Arc.{arc_value}
use Rattle.thread_queues.specs.Runs.{IsPosted}
use Rattle.thread_queues.proofs.Whole.{posted_more}
use Rattle.thread_queues.proofs.queues.ThreadQueues.publish.Goals as goal

pub invariant_of-self : goal.invariant_of-self
invariant_of-self g c = (
  c.self.invariant.0,
  c.self.invariant.1,
  subst (λ (since : List Totals). IsPosted (arc_value c.self.inside.board) c.publish.new.publisher since c.self.inside.threads.items) (sym c.with_last.ensures)
      (posted_more _ c.self.inside.publisher _ c.self.inside.since.value c.args.totals _ c.self.invariant.2 c.publish.ensures),
)
