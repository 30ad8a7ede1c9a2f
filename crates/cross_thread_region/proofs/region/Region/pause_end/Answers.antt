use Rattle.std.proofs.Common.{◌≡◌, subst, sym, ap, ◌∙◌}
use Rattle.persistent_slots.specs.Clearing.{AnswersBy}
use Rattle.cross_thread_region.specs.Calls.{HeldView, PassView}
use Rattle.cross_thread_region.specs.Contents.{HasSeen}
use Rattle.cross_thread_region.specs.Histories.{weak_places}
use Rattle.cross_thread_region.specs.Pauses.{dying_of}
use Rattle.cross_thread_region.specs.contracts.region.Region.pause_end.F-FnMut as calls
use Rattle.cross_thread_region.proofs.region.Region.pause_end.Goals as goal

pub returns-clause-exactly : goal.returns-clause-exactly
returns-clause-exactly g c rule answers =
    let same = ap (λ (h : HeldView). h.history) c.held.view_is in
    subst (λ h. c.end_pause-cleared.result ≡ dying_of rule h) same
    (c.end_pause-cleared.ensures.exactly rule
    (subst (AnswersBy (calls.words g.row.F g.F.FnMut).step rule c.args.dead) (sym (c.held.invariant.asked ∙ ap weak_places same)) answers))

pub invariant_of-pass : goal.invariant_of-pass
invariant_of-pass g c =
    subst (λ (p : PassView). HasSeen c.pass.inside.number c.len-pass-inside.result p) (sym c.give.ensures)
    (record {
      number_is = c.pass.invariant.number_is;
      count_is = c.len-pass-inside.ensures.count;
      legal = c.is_legal.ensures.legal;
      right = c.is_legal.ensures.right;
      few = c.len-pass-inside.ensures.few;
    })
