-- The objects after a weak read: the marks of each phase.
use Rattle.std.proofs.Common.{◌≡◌, ℕ, Bool, List, [], ◌∷◌, ◌++◌, refl, sym, subst, true}
use Rattle.gc_graph.specs.declared.action.ActionKind.{ActionKind}
use Rattle.gc_graph.specs.declared.phase.Phase.{Phase}
use Rattle.gc_graph.specs.May.{members, may_with_read}
use Rattle.gc_graph.specs.Reach.{Reach, ReachIsLeast}
use Rattle.gc_graph.specs.State.{Setup, ObjectType, Node, graph_of, IsLive}
use Rattle.marker_core.specs.declared.states.Why.TheVariants.{Weak}
use Rattle.marker_core.specs.Laws.{IsLeastOver}
use Rattle.marker_core.specs.Bodies.{holds}
use Rattle.page_words.specs.Roles.{kind_lists}
use Rattle.page_words.specs.Seat.{SeatView, IsView, IsQuiet, loaded}
use Rattle.atomic_pause.specs.Nodes.{place_of, IsHeld, AreOfValid}
use Rattle.heap_objects.specs.Finalising.{IsSweptTo}
use Rattle.heap_objects.specs.Marking.{GreyView}
use Rattle.heap_objects.specs.Marks.{IsMayOf, HasMarks}
use Rattle.heap_objects.proofs.MarksKept.{KeepsMarks, marks_by}
use Rattle.heap_objects.proofs.MarksStored.{view_in}
use Rattle.heap_objects.proofs.CrewStays.{crew_on, crew_is, crew_told}
use Rattle.heap_objects.proofs.Unlooked.{quiet_is, quiet_told, swept_is, swept_told, way_is, way_told, may_is, may_told}
use Rattle.heap_objects.proofs.WayChanges.{Leaves, way_on, lists_same, puts_same}
use Rattle.heap_objects.proofs.WeakMay.{read_is_may}

read_leaves : (v : SeatView) (a found : ℕ) → Leaves v (loaded v a Weak found)
read_leaves v a found = record {
  on = refl;
  still = λ still. record { no_hand = still.no_hand; no_pending = still.no_pending };
  lent = refl;
  heap = refl;
  types = refl;
  pairs = λ p offset h. h;
  marked = λ p h. h;
  traced = refl;
  noted = refl;
  missed = refl;
}

quiet_read : (v : SeatView) (a found : ℕ) → IsQuiet v → IsQuiet (loaded v a Weak found)
quiet_read v a found quiet = record { off = quiet.off; marked = quiet.marked; traced = quiet.traced; dead = quiet.dead }

swept_read : (limit : ℕ) (v : SeatView) (a found : ℕ) → IsSweptTo limit v → IsSweptTo limit (loaded v a Weak found)
swept_read limit v a found swept = record {
  clear = record { marked = swept.clear.marked; traced = swept.clear.traced; dead = swept.clear.dead };
  judged = swept.judged;
}

module _ (setup : Setup) (nodes : List Node) (v : SeatView) (g : GreyView) (view : IsView v) (valid : AreOfValid setup nodes) (held : IsHeld nodes v) (known : v.types ≡ setup.types)
    (law : ReachIsLeast) (a found n : ℕ) (live : IsLive nodes n) (at : place_of nodes n ≡ a)
    (weak : v.on ≡ true → IsLeastOver (kind_lists v.types) v.bodies (v.may ++ a ∷ []) (loaded v a Weak found).may) where
  read_may : (may : List Bool) → v.on ≡ true → IsMayOf nodes v may → IsMayOf nodes (loaded v a Weak found) (Reach (graph_of nodes) (members may ++ n ∷ []))
  read_may may on is =
      read_is_may setup nodes v view valid held (view.marking on).no_dead law (loaded v a Weak found) may n live is
      (subst (λ p. IsLeastOver (kind_lists setup.types) v.bodies (v.may ++ p ∷ []) (loaded v a Weak found).may) (sym at)
      (subst (λ (types : List ObjectType). IsLeastOver (kind_lists types) v.bodies (v.may ++ a ∷ []) (loaded v a Weak found).may) known (weak on)))

  keeps : (callbacks : List ActionKind) (limit : ℕ) (may : List Bool)
      → KeepsMarks limit may (Reach (graph_of nodes) (members may ++ n ∷ [])) (view_in setup.shape setup.types callbacks nodes v g)
      (view_in setup.shape setup.types callbacks nodes (loaded v a Weak found) g)
  keeps callbacks limit may = record {
    rest = λ rest. record { off = rest.off; clear = rest.clear };
    quiet = λ rest quiet. quiet_told (loaded v a Weak found) (quiet_read v a found (quiet_is v quiet));
    swept = λ rest swept. swept_told limit (loaded v a Weak found) (swept_read limit v a found (swept_is limit v swept));
    marking = λ h. record {
      under_way = way_told (loaded v a Weak found) g.marking g.notes
          (way_on v (loaded v a Weak found) g.marking g.marking g.notes (read_leaves v a found) (lists_same v (loaded v a Weak found) g.marking refl) (way_is v g.marking g.notes h.under_way));
      crew = crew_told (loaded v a Weak found) g (crew_on v (loaded v a Weak found) g g.marking (read_leaves v a found) (puts_same g.marking.list (λ p. holds (loaded v a Weak found).marked p ≡ true)) (crew_is v g h.crew));
      may_is = may_told nodes (loaded v a Weak found) (Reach (graph_of nodes) (members may ++ n ∷ [])) (read_may may h.under_way.on (may_is nodes v may h.may_is));
      counted = h.counted;
      pushes_told = h.pushes_told;
      notes_told = h.notes_told;
    };
  }

  pub marks_read : (callbacks : List ActionKind) (phase : Phase) (limit : ℕ) (may : List Bool) → HasMarks phase limit may (view_in setup.shape setup.types callbacks nodes v g)
      → HasMarks phase limit (may_with_read phase (graph_of nodes) may n) (view_in setup.shape setup.types callbacks nodes (loaded v a Weak found) g)
  marks_read callbacks phase limit may =
      marks_by phase limit may (λ p. may_with_read p (graph_of nodes) may n) (view_in setup.shape setup.types callbacks nodes v g)
      (view_in setup.shape setup.types callbacks nodes (loaded v a Weak found) g) (keeps callbacks limit may)
