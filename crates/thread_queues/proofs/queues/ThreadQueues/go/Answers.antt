use Rattle.std.proofs.Common.{List, All, Contains, sym, subst}
use Rattle.std.specs.Arc.{arc_value}
use Rattle.gc_graph.specs.declared.command.Order.{Order}
use Rattle.heap_stats.specs.declared.totals.Totals.{Totals}
use Rattle.thread_queues.specs.Queues.{threads_in}
use Rattle.thread_queues.specs.Runs.{IsPosted}
use Rattle.thread_queues.proofs.Whole.{eight_still, posted_gone, threads_away}
use Rattle.thread_queues.proofs.queues.ThreadQueues.go.Goals as goal

pub invariant_of-self : goal.invariant_of-self
invariant_of-self g c =
    let eight = eight_still c.self.inside.threads.items c.go_all.new.threads.items c.go_all.ensures.orders c.self.invariant.0.eight in (
      threads_away _ _ eight c.self.invariant.0.room_for_passes c.go_all.ensures.work,
      c.self.invariant.1,
      subst (λ (since : List Totals). IsPosted (arc_value c.self.inside.board) c.go_all.new.publisher since c.go_all.new.threads.items) (sym c.none.ensures)
          (posted_gone _ c.self.inside.publisher _ c.self.inside.since.value c.self.inside.threads.items _ c.self.invariant.2 c.go_all.ensures.publisher
          c.go_all.ensures.lent c.go_all.ensures.then_lent),
    )

pub returns-clause-outs : goal.returns-clause-outs
returns-clause-outs g c = record {
  ready = c.go_all.ensures.outs.out.ready;
  others = c.go_all.ensures.outs.out.others;
  numbers = c.go_all.ensures.outs.out.numbers;
  once = c.go_all.ensures.outs.out.once;
  running =
      subst (λ (queues : List (List Order)). All (Contains (threads_in queues)) c.go_all.new.pass.out) (sym c.go_all.ensures.orders) c.go_all.ensures.running;
}
