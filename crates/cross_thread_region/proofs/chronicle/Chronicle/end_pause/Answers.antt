use Rattle.std.proofs.Common.{◌≡◌, ◌∙◌, true, ap, sym, subst}
use Rattle.cross_thread_region.specs.Contents.{ChronicleView}
use Rattle.cross_thread_region.specs.Histories.{weak_places, is_started}
use Rattle.cross_thread_region.proofs.Appended.{pause_kept}
use Rattle.cross_thread_region.proofs.Noted.{pause_noted}
use Rattle.cross_thread_region.proofs.Asked.{left_len, asked_after, dying_after}
use Rattle.cross_thread_region.specs.contracts.chronicle.Chronicle.end_pause.F-FnMut as calls
use Rattle.cross_thread_region.proofs.chronicle.Chronicle.end_pause.Goals as goal

pub clear_emptied-cleared-requires-clause-left : goal.clear_emptied-cleared-requires-clause-left
clear_emptied-cleared-requires-clause-left g c = left_len _ _ _ _ c.clear_dead.ensures.cleared ∙ c.self.invariant.1

pub invariant_of-self : goal.invariant_of-self
invariant_of-self g c = (
  pause_kept _ _ c.self.inside.history.items _ _ c.args.thread c.clear_emptied-cleared.result _ _ c.self.invariant.0 c.requires.first
      (subst (λ (v : ChronicleView). is_started v.history ≡ true) (sym c.self.view_is) c.requires.started) c.clear_emptied-cleared.ensures.weak
      c.clear_emptied-cleared.ensures.slots c.push_reserved.ensures.items,
  left_len _ _ _ _ c.clear_dead.ensures.cleared ∙ c.self.invariant.1,
  pause_noted c.self.inside.history.items _ _ c.args.thread c.clear_emptied-cleared.result c.self.inside.reads.items _ _ c.self.invariant.2
      c.push_reserved-2.ensures.items c.push_reserved.ensures.items,
)

pub returns-clause-legal : goal.returns-clause-legal
returns-clause-legal g c = (invariant_of-self g c).0.legal

pub returns-clause-cleared : goal.returns-clause-cleared
returns-clause-cleared g c =
    asked_after (calls.words g.row.F g.F.FnMut).step _ c.self.inside.history.items _ c.args.thread c.clear_emptied-cleared.result _ _ _ _
    c.self.invariant.0.slots_are (ap (λ (v : ChronicleView). v.asked) c.self.view_is)
    (subst (λ (v : ChronicleView). v.asked ≡ weak_places v.history) (sym c.self.view_is) c.requires.asked) c.clear_dead.ensures.cleared
    c.clear_emptied-cleared.ensures.mask c.push_reserved.ensures.items

pub returns-clause-exactly : goal.returns-clause-exactly
returns-clause-exactly g c rule answers =
    dying_after (calls.words g.row.F g.F.FnMut).step _ rule c.self.inside.history.items _ _ _ _ _ _ c.self.invariant.0.slots_are
    (ap (λ (v : ChronicleView). v.history) c.self.view_is) (ap (λ (v : ChronicleView). v.asked) c.self.view_is)
    (subst (λ (v : ChronicleView). v.asked ≡ weak_places v.history) (sym c.self.view_is) c.requires.asked) c.clear_dead.ensures.exactly
    c.clear_emptied-cleared.ensures.mask answers
