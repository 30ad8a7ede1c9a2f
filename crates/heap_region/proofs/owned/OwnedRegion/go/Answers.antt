use Rattle.std.proofs.Common.{sym, ap, ◌∙◌, subst}
use Rattle.std.specs.Arc.{arc_value}
use Rattle.cross_thread_region.specs.Calls.{PassView}
use Rattle.thread_queues.specs.Going.{AreOut}
use Rattle.thread_queues.specs.Queues.{QueuesView}
use Rattle.heap_region.specs.Owned.{OwnedView}
use Rattle.heap_region.proofs.Fields.{AreOwned}
use Rattle.heap_region.proofs.Gone.{has_gone}
use Rattle.heap_region.proofs.OwnedOn.{not_held}
use Rattle.heap_region.proofs.owned.OwnedRegion.go.Goals as goal

pub invariant_of-self : goal.invariant_of-self
invariant_of-self g c =
    let r = c.self.inside in
    let went = c.go.ensures in
    subst (λ (pass : PassView). AreOwned (record r { pass = pass; threads = c.go.new.self })) (sym went.pass)
    (has_gone r c.self.invariant (ap (λ (v : OwnedView). v.awaiting) c.self.view_is ∙ c.requires.joined) (ap (λ (v : OwnedView). v.closed) c.self.view_is ∙ c.requires.opened)
    (not_held r c.self.invariant (ap (λ (v : OwnedView). v.told) c.self.view_is ∙ c.requires.quiet)) c.go.new.self c.go.new.pass.out
    (ap (λ (q : QueuesView). q.queues) went.gone) (ap (λ (q : QueuesView). q.running) went.gone) (ap (λ (q : QueuesView). q.awaiting) went.gone)
    (ap (λ (q : QueuesView). q.away) went.gone) went.began (subst (λ (pass : PassView). AreOut (arc_value r.region) pass c.go.new.self) went.pass went.outs))
