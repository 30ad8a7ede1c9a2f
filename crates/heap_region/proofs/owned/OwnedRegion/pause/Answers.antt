use Rattle.std.proofs.Common.{sym, ap, ◌∙◌, subst}
use Rattle.cross_thread_region.specs.Calls.{PassView}
use Rattle.cross_thread_region.specs.Histories.{is_started}
use Rattle.cross_thread_region.specs.Calls.{RegionView}
use Rattle.heap_objects.specs.Pausing.{IsPausable}
use Rattle.heap_region.specs.Calls.{HasPauseEntry}
use Rattle.heap_region.specs.Handled.{IsHandled}
use Rattle.heap_region.specs.Owned.{OwnedView}
use Rattle.heap_region.proofs.Fields.{AreOwned, called_fields, owned_view}
use Rattle.heap_region.proofs.OwnedOn.{not_held}
use Rattle.heap_region.proofs.Paused.{has_pause_entry, may_pause, still_owned}
use Rattle.heap_region.proofs.owned.OwnedRegion.pause.Goals as goal

pub pause-finished-requires-clause-shared : goal.pause-finished-requires-clause-shared
pause-finished-requires-clause-shared g c =
    subst (λ (x : RegionView). IsPausable c.args.objects.now.nodes x c.self.inside.pass) (sym c.deref.ensures)
    (may_pause c.self.inside c.self.invariant (ap (λ (v : OwnedView). v.closed) c.self.view_is ∙ c.requires.opened)
    (not_held c.self.inside c.self.invariant (ap (λ (v : OwnedView). v.told) c.self.view_is ∙ c.requires.quiet)) c.is_legal.ensures.legal c.is_legal.ensures.right
    c.args.objects.now.nodes (subst (λ (v : OwnedView). IsHandled c.args.objects.now.nodes v.taken) (sym c.self.view_is) c.requires.handled)
    (ap (λ (v : OwnedView). is_started v.taken) c.self.view_is ∙ c.requires.started))

pub invariant_of-self : goal.invariant_of-self
invariant_of-self g c =
    subst (λ (pass : PassView). AreOwned (called_fields c.self.inside pass c.entries.result)) (sym c.entries.ensures.pass)
    (still_owned c.self.inside c.self.invariant (ap (λ (v : OwnedView). v.closed) c.self.view_is ∙ c.requires.opened)
    (not_held c.self.inside c.self.invariant (ap (λ (v : OwnedView). v.told) c.self.view_is ∙ c.requires.quiet)) c.is_legal.ensures.legal c.is_legal.ensures.right
    c.pause-finished.new.self.nodes c.pause-finished.new.pass c.pause-finished.ensures.region c.is_legal-2.ensures.legal c.is_legal-2.ensures.right c.entries.result
    c.entries.ensures.count)

pub returns-clause-entry : goal.returns-clause-entry
returns-clause-entry g c =
    subst (λ (pass : PassView). HasPauseEntry c.pause-finished.new.self.nodes c.args.self.now (owned_view (called_fields c.self.inside pass c.entries.result)))
    (sym c.entries.ensures.pass)
    (subst (λ (v : OwnedView). HasPauseEntry c.pause-finished.new.self.nodes v (owned_view (called_fields c.self.inside c.pause-finished.new.pass c.entries.result))) c.self.view_is
    (has_pause_entry c.self.inside c.self.invariant (ap (λ (v : OwnedView). v.closed) c.self.view_is ∙ c.requires.opened)
    (not_held c.self.inside c.self.invariant (ap (λ (v : OwnedView). v.told) c.self.view_is ∙ c.requires.quiet)) c.is_legal.ensures.legal c.is_legal.ensures.right
    c.pause-finished.new.self.nodes c.pause-finished.new.pass c.pause-finished.ensures.region c.is_legal-2.ensures.legal c.is_legal-2.ensures.right c.entries.result
    c.entries.ensures.count))
