use Rattle.std.proofs.Common.{rules, ◌≡◌, ◌-◌, ◌<◌, ◌∙◌, [], false, length, slice_set, ap, refl}
use Rattle.thread_queues.specs.Queues.{QueuesView, ThreadView, passes_of}
use Rattle.thread_queues.proofs.Away.{all_here}
use Rattle.thread_queues.proofs.Held.{passes_stay, view_queued}
use Rattle.thread_queues.proofs.Whole.{not_away, posted_here, threads_here}
use Rattle.thread_queues.proofs.queues.ThreadQueues.queue.Goals as goal

pub returns-clause-queued : goal.returns-clause-queued
returns-clause-queued c =
    let low : c.args.thread - 1 < length c.self.inside.threads.items = search rules in
    view_queued c.self.inside.threads.items c.args.thread c.args.order c.index_mut-thread.result.now c.push.new.self low c.index_mut-thread.ensures.value
    (rw c.in_ok-push.was at c.push.ensures) c.self.inside.awaiting c.self.inside.away c.self.inside.publisher.last c.self.inside.since.value c.args.self.now
    c.self.view_is c.requires.joined

pub push-requires-clause-here : goal.push-requires-clause-here
push-requires-clause-here c =
    let low : c.args.thread - 1 < length c.self.inside.threads.items = search rules in
    ap (λ (t : ThreadView). t.run) c.index_mut-thread.ensures.value
    ∙ all_here c.self.inside.threads.items (c.args.thread - 1) c.index_mut-thread.result.now
    (c.self.invariant.0.none_away (not_away _ c.self.inside.awaiting c.self.inside.away _ c.self.invariant.0 (ap (λ (v : QueuesView). v.awaiting) c.self.view_is ∙ c.requires.joined))) low

pub invariant_of-self-2 : goal.invariant_of-self-2
invariant_of-self-2 c =
    let here : c.self.inside.away ≡ false = not_away _ c.self.inside.awaiting c.self.inside.away _ c.self.invariant.0 (ap (λ (v : QueuesView). v.awaiting) c.self.view_is ∙ c.requires.joined) in
    let none : passes_of (slice_set c.self.inside.threads.items (c.args.thread - 1) c.push.new.self) ≡ [] =
    passes_stay c.self.inside.threads.items (c.args.thread - 1) c.index_mut-thread.result.now c.push.new.self c.index_mut-thread.ensures.value
    (ap (λ (t : ThreadView). t.run) (rw c.in_ok-push.was at c.push.ensures))
    ∙ c.self.invariant.0.none_away here in (
      rw here (threads_here _ _ _ (search rules) c.self.invariant.0.room_for_passes none),
      c.self.invariant.1,
      posted_here _ c.self.inside.publisher _ _ c.self.inside.threads.items _ c.self.invariant.2 refl none,
    )
