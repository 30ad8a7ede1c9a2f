-- What is true of a pass between calls stays so.
use Rattle.std.proofs.Common.{◌<◌, ◌≤◌, All, refl, sym, subst, arith, le_refl}
use Rattle.std.proofs.lemmas.List.Elements.{All-push}
use Rattle.heap_stats.specs.declared.totals.Totals.{Totals}
use Rattle.heap_stats.specs.declared.views.BoardView.{BoardView}
use Rattle.heap_stats.specs.Boards.{Rise}
use Rattle.heap_stats.specs.Rule.{IsPublisher, IsReader, publishing, reading}
use Rattle.heap_stats.proofs.Ordinals.{rise_push, never_fall_push, below_last}

pub publisher_stays : (v : BoardView) (new : Totals) → IsPublisher v → v.last.ordinal < new.ordinal → IsPublisher (publishing v new)
publisher_stays v new is greater = record {
  writes = is.writes;
  rise = rise_push v.published new is.rise below;
  last = (v.published, refl);
}
  where
    not_above : All (λ (t : Totals). t.ordinal ≤ v.last.ordinal) v.published
    not_above = subst (All (λ (t : Totals). t.ordinal ≤ v.last.ordinal)) (sym is.last.1) (below_last is.last.0 v.last (subst Rise is.last.1 is.rise))

    below : All (λ (t : Totals). t.ordinal < new.ordinal) v.published
    below = λ k d low. omega (arith, not_above k d low, greater)

pub reader_stays : (v : BoardView) (new : Totals) → IsReader v → v.seen ≤ new.ordinal → IsReader (reading v new)
reader_stays v new is up = record {
  reads = is.reads;
  from = omega (arith, is.from, up);
  later = All-push (λ (t : Totals). v.from ≤ t.ordinal) v.read new is.later (omega (arith, is.from, up));
  below = All-push (λ (t : Totals). t.ordinal ≤ new.ordinal) v.read new below (le_refl new.ordinal);
  order = never_fall_push v.read new is.order below;
}
  where
    below : All (λ (t : Totals). t.ordinal ≤ new.ordinal) v.read
    below = λ k d low. omega (arith, is.below k d low, up)
