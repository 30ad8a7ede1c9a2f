-- The objects after a write: the marks of each phase, and what is true of all objects.
use Rattle.std.proofs.Common.{◌≡◌, ℕ, Bool, false, List, length, sym, ap, ◌∙◌, subst}
use Rattle.std.specs.List.{count_by}
use Rattle.gc_graph.specs.declared.action.ActionKind.{ActionKind}
use Rattle.gc_graph.specs.declared.phase.Phase.{Phase}
use Rattle.gc_graph.specs.State.{Shape, ObjectType, Node, node_at}
use Rattle.mark_worklist.specs.declared.marking.Marking.{Marking}
use Rattle.mark_worklist.specs.Refusals.{refusals_of}
use Rattle.mark_worklist.specs.Told.{told_then}
use Rattle.marker_core.specs.declared.states.Body.{Body}
use Rattle.marker_core.specs.Bodies.{holds}
use Rattle.page_words.specs.Seat.{SeatView, IsQuiet, unlooked}
use Rattle.marker_crew.specs.Marking.{traced_count}
use Rattle.member_fields.specs.Barrier.{HasBarrier}
use Rattle.atomic_pause.specs.Nodes.{place_of, IsHeld}
use Rattle.heap_objects.specs.Finalising.{IsSweptTo}
use Rattle.heap_objects.specs.Marking.{GreyView, IsClear, pushes_in}
use Rattle.heap_objects.specs.Marks.{HasMarks}
use Rattle.heap_objects.specs.Objects.{ObjectsView}
use Rattle.heap_objects.proofs.MarksKept.{KeepsMarks, Writes, marks_by, may_same}
use Rattle.heap_objects.proofs.CrewStays.{crew_on, crew_is, crew_told}
use Rattle.heap_objects.proofs.ToldSums.{told_shifted}
use Rattle.heap_objects.proofs.Unlooked.{quiet_is, quiet_told, swept_is, swept_told, way_is, way_told, may_is, may_told}
use Rattle.heap_objects.proofs.WayChanges.{HeapStays, way_stored, barrier_lists, barrier_stays, barrier_leaves}

-- what is told of the objects in these words
abbrev pub view_in : Shape → List ObjectType → List ActionKind → List Node → SeatView → GreyView → ObjectsView
view_in shape types callbacks nodes v grey =
    record { shape = shape; types = types; callbacks = callbacks; nodes = nodes; seat = unlooked v; grey = grey }

-- each node is where it was, and as alive as it was
pub record StayThere (old new : List Node) : Type 0 where
  pub long : length new ≡ length old
  pub place : (n : ℕ) → place_of new n ≡ place_of old n
  pub life : (n : ℕ) → (node_at new n).life ≡ (node_at old n).life

module _ (shape : Shape) (types : List ObjectType) (callbacks : List ActionKind) (old new : List Node) (v u w : SeatView) (t : ℕ) (g : GreyView) (k : Marking)
    (stay : StayThere old new) (writes : Writes v u) (off : v.on ≡ false → (w ≡ u) × (k ≡ g.marking)) (barrier : HasBarrier t u g.marking w k) where
  stays : HeapStays u w
  stays = barrier_stays t u w g.marking k barrier

  counted : traced_count w ≡ traced_count v
  counted =
      ap (λ l. count_by (λ (b : Body). holds l b.place) w.bodies) (barrier_leaves t u w g.marking k barrier).traced
      ∙ ap (count_by (λ (b : Body). holds u.traced b.place)) stays.bodies ∙ writes.count

  keeps : (limit : ℕ) (may : List Bool) → KeepsMarks limit may may (view_in shape types callbacks old v g) (view_in shape types callbacks new w (record g { marking = k }))
  keeps limit may = record {
    rest = λ rest. record {
      off = (barrier_leaves t u w g.marking k barrier).on ∙ writes.on ∙ rest.off;
      clear = subst (λ (m : Marking). IsClear (record g { marking = m })) (sym (off rest.off).1) rest.clear;
    };
    quiet = λ rest quiet. quiet_told w (subst IsQuiet (sym (off rest.off).0) (writes.quiet (quiet_is v quiet)));
    swept = λ rest swept. swept_told limit w (subst (IsSweptTo limit) (sym (off rest.off).0) (writes.swept limit (swept_is limit v swept)));
    marking = λ h. record {
      under_way = way_told w k g.notes (way_stored t u w g.marking k g.notes barrier (writes.way g.marking g.notes (way_is v g.marking g.notes h.under_way)));
      crew = crew_told w (record g { marking = k }) (crew_on u w g k (barrier_leaves t u w g.marking k barrier) (barrier_lists t u w g.marking k barrier).puts (writes.crew g (crew_is v g h.crew)));
      may_is = may_told new w may (may_same old new v w may stay.long stay.place stay.life (stays.may ∙ writes.may) (may_is old v may h.may_is));
      counted = counted ∙ h.counted;
      pushes_told = told_then (record { told = false; count = g.since.pushes }) (pushes_in g) (pushes_in (record g { marking = k })) h.pushes_told (told_shifted g.earlier (refusals_of g.marking) (refusals_of k) barrier.told);
      notes_told = h.notes_told;
    };
  }

  pub marks_stored : (phase : Phase) (limit : ℕ) (may : List Bool) → HasMarks phase limit may (view_in shape types callbacks old v g)
      → HasMarks phase limit may (view_in shape types callbacks new w (record g { marking = k }))
  marks_stored phase limit may = marks_by phase limit may (λ _. may) (view_in shape types callbacks old v g) (view_in shape types callbacks new w (record g { marking = k })) (keeps limit may)

-- the words that are held once they were written, are once what was stored is marked
pub held_marked : (nodes : List Node) (u w : SeatView) → HeapStays u w → IsHeld nodes u → IsHeld nodes w
held_marked nodes u w stays held = record {
  bodies = stays.bodies ∙ held.bodies;
  dead = λ n there. ap (λ l. holds l (place_of nodes n)) stays.dead ∙ held.dead n there;
}
