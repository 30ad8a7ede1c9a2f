use Rattle.std.proofs.Common.{sym, ap, ◌∙◌}
use Rattle.thread_queues.specs.Runs.{thread_view}
use Rattle.thread_queues.proofs.Ended.{came_back}
use Rattle.thread_queues.proofs.script_thread.ScriptThread.wait.Goals as goal
use Rattle.thread_queues.proofs.script_thread.ScriptThread.wait.Goals.{in-Runs, in-Ran}

pub returns-clause-back : goal.returns-clause-back
returns-clause-back g c = elim c.match-replace.branch [
  | in-Runs w ↦
      came_back w.in-Runs.handle.promise.0.value c.match-replace.ended w.join-ended.result c.args.self.now c.args.board.now _ _ _
      (ap thread_view (sym w.in-Runs.is ∙ c.replace.ensures.value) ∙ c.self.view_is) c.requires.lent w.join-ended.ensures w.ended-is
      c.push_reserved.ensures.items c.take_back.ensures.read c.reads_in_order.ensures.from c.reads_in_order.ensures.order
  | in-Ran w ↦
      came_back w.in-Ran.in_place c.match-replace.ended w.into_end-ended.result c.args.self.now c.args.board.now _ _ _
      (ap thread_view (sym w.in-Ran.is ∙ c.replace.ensures.value) ∙ c.self.view_is) c.requires.lent w.into_end-ended.ensures w.ended-is
      c.push_reserved.ensures.items c.take_back.ensures.read c.reads_in_order.ensures.from c.reads_in_order.ensures.order
]
