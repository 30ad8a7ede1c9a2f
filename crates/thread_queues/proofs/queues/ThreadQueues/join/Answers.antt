use Rattle.std.proofs.Common.{◌≡◌, [], false, length, refl, ap, subst, sym, ◌∙◌}
use Rattle.thread_queues.specs.Queues.{QueuesView, passes_of, posted, threads_in}
use Rattle.thread_queues.specs.Going.{TellSomeOf}
use Rattle.thread_queues.proofs.Left.{joined_is, running_is}
use Rattle.thread_queues.proofs.Whole.{eight_cleared, posted_here, threads_here}
use Rattle.thread_queues.proofs.queues.ThreadQueues.join.Goals as goal

pub invariant_of-self : goal.invariant_of-self
invariant_of-self g c =
    let here = ap (λ (v : QueuesView). v.away) (c.self.view_is ∙ c.take_back.ensures.back) in (
      rw here (threads_here _ _ _ (eight_cleared _ c.clear_all.ensures.orders) c.self.invariant.0.room_for_passes c.clear_all.ensures.here),
      c.self.invariant.1,
      posted_here _ c.self.inside.publisher _ _ c.self.inside.threads.items _ c.self.invariant.2 refl c.clear_all.ensures.here,
    )

pub returns-clause-count : goal.returns-clause-count
returns-clause-count g c =
    let back : QueuesView = record c.args.self.now { away = false; replies = c.take_back.new.self.replies; passes = [] } in
    let viewed = ◌∙◌ {c = back} c.self.view_is c.take_back.ensures.back in
    c.count_threads-count.ensures ∙ ap (λ (v : QueuesView). length (threads_in v.queues)) {y = back} viewed
    ∙ ap length (sym (running_is c.self.inside.threads.items _ _ _ _ back viewed c.requires.awaited))

pub returns-clause-joined : goal.returns-clause-joined
returns-clause-joined g c =
    let back : QueuesView = record c.args.self.now { away = false; replies = c.take_back.new.self.replies; passes = [] } in
    let viewed = ◌∙◌ {c = back} c.self.view_is c.take_back.ensures.back in
    let none : passes_of c.self.inside.threads.items ≡ [] = ap (λ (v : QueuesView). v.passes) {y = back} viewed in
    joined_is c.self.inside.threads.items c.clear_all.new.threads.items c.self.inside.awaiting c.self.inside.away c.self.inside.publisher.last c.self.inside.since.value
    back viewed c.requires.awaited c.clear_all.ensures.orders (c.clear_all.ensures.here ∙ sym none)

pub returns-clause-told : goal.returns-clause-told
returns-clause-told g c =
    subst (TellSomeOf (posted c.args.self.now.since c.args.self.now.last))
    (sym (c.clear_all.ensures.replies ∙ ap (λ (v : QueuesView). v.replies) c.self.view_is)) c.take_back.ensures.told
