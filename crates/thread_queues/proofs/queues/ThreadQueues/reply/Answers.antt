use Rattle.std.proofs.Common.{rules, ◌<◌, length, sym, ap, ◌∙◌}
use Rattle.std.specs.List.{slice_get}
use Rattle.thread_queues.specs.Queues.{QueuesView}
use Rattle.thread_queues.proofs.Held.{reply_at}
use Rattle.thread_queues.proofs.queues.ThreadQueues.reply.Goals as goal

pub returns-then-left-replies : goal.returns-then-left-replies
returns-then-left-replies c =
    let low : c.loop-i.i < length c.self.inside.threads.items = search rules in
    ap (λ (v : QueuesView). slice_get v.replies c.args.index) (sym c.self.view_is)
    ∙ reply_at c.self.inside.threads.items c.loop-i.i c.loop-i.left c.args.index c.index.result.now _ _ low c.index.ensures c.replies-replies.ensures.replies
    c.loop-i.invariant.at c.if-left-replies.true
