use Rattle.std.proofs.Common.{sym, ap, ◌∙◌, List, length, subst, ◌%◌, ◌^◌}
use Rattle.cross_thread_region.specs.declared.chronicle.PlacedEntry.{PlacedEntry}
use Rattle.cross_thread_region.specs.Calls.{PassView, Finds}
use Rattle.cross_thread_region.specs.Histories.{is_started, weak_places}
use Rattle.cross_thread_region.proofs.Turns.{still_started}
use Rattle.cross_thread_region.proofs.region.Region.pause_begin.Goals as goal

pub invariant_of-result : goal.invariant_of-result
invariant_of-result g c =
    let history : List PlacedEntry = c.take-held.result.value.history in
    let finds : Finds c.args.pass.now history =
    subst (λ (p : PassView). Finds p history) c.pass.view_is
    (record { goes_on = c.take-held.ensures.seen; legal = c.is_legal.ensures.legal; right = c.is_legal.ensures.right }) in
    record {
      started = ap is_started c.begin_pause.ensures.history ∙ still_started c.args.pass.now history c.requires.first finds c.requires.started;
      asked = c.begin_pause.ensures.asked ∙ ap weak_places (sym c.begin_pause.ensures.history);
      counted = c.take-held.ensures.counted ∙ ap (λ (h : List PlacedEntry). length h % 2 ^ 64) (sym c.begin_pause.ensures.history);
    }
