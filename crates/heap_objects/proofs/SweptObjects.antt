-- The objects after a sweep up to an address.
use Rattle.std.proofs.Common.{◌≡◌, ℕ, ◌≤◌, false, List, [], length, map, sym, ap, ◌∙◌, subst, arith}
use Rattle.std.proofs.lemmas.List.{length-map}
use Rattle.gc_graph.specs.declared.action.ActionKind.{ActionKind}
use Rattle.gc_graph.specs.State.{Shape, Setup, ObjectType, Node}
use Rattle.gc_graph.specs.Sweep.{finalise}
use Rattle.page_words.specs.Seat.{SeatView}
use Rattle.page_space.specs.Space.{SpaceView}
use Rattle.sweeper.specs.Sweeping.{SweepView, cursor_at, MaySweep, Sweeps}
use Rattle.atomic_pause.specs.Nodes.{IsHeld, AreOfValid, most_nodes}
use Rattle.atomic_pause.specs.NodePlaces.{serials_fit}
use Rattle.atomic_pause.specs.DeadUnnamed.{dead_unnamed}
use Rattle.heap_objects.specs.declared.marking.Grey.{Grey}
use Rattle.heap_objects.specs.Finalising.{IsSweptTo, FinalisesBelow}
use Rattle.heap_objects.specs.Objects.{AreObjects}
use Rattle.heap_objects.proofs.NodesSwept.{held_below, finalises_below}

-- what was set up
abbrev setup_in : Grey → SpaceView → List ObjectType → List ActionKind → Setup
setup_in grey space types callbacks = record { shape = space.shape; markers = grey.crew.markers; types = types; callbacks = callbacks }

-- the objects may be swept from the cursor on where all is swept below it
pub may_sweep : (space : SpaceView) (v : SeatView) (types : List ObjectType) (callbacks : List ActionKind) (made : ℕ) (grey : Grey) (nodes : List Node) (sweep : SweepView)
    → AreObjects space v types callbacks made nodes grey → v.on ≡ false → sweep.pages ≡ space.shape.pages → IsSweptTo (cursor_at space.shape sweep) v → length nodes ≤ most_nodes
    → AreOfValid (setup_in grey space types callbacks) nodes → MaySweep sweep space v
may_sweep space v types callbacks made grey nodes sweep is off pages marks few valid = record {
  laid = is.laid;
  pages = pages;
  off = off;
  judged = marks.judged;
  unnamed = dead_unnamed (setup_in grey space types callbacks) nodes v valid is.held is.known;
  serials = serials_fit nodes v is.held.bodies few;
}

-- once they are swept from one cursor up to another
module _ (space left : SpaceView) (v w : SeatView) (types : List ObjectType) (callbacks : List ActionKind) (made : ℕ) (grey : Grey) (nodes new : List Node) (sweep after : SweepView) (before told : List ℕ)
    (is : AreObjects space v types callbacks made nodes grey) (off : v.on ≡ false) (marks : IsSweptTo (cursor_at space.shape sweep) v)
    (swept : Sweeps (cursor_at space.shape sweep) (cursor_at space.shape after) v before w told) (shape : left.shape ≡ space.shape)
    (nodes_are : new ≡ map (finalise (cursor_at left.shape after)) nodes) (calm : grey.crew.running ≡ []) where
  nodes_left : new ≡ map (finalise (cursor_at space.shape after)) nodes
  nodes_left = nodes_are ∙ ap (λ (s : Shape). map (finalise (cursor_at s after)) nodes) shape

  pub swept_objects : MaySweep after left w → AreObjects left w types callbacks made new grey
  swept_objects may = record {
    called = is.called;
    few = is.few;
    known = ap (λ (u : SeatView). u.types) swept.view ∙ is.known;
    laid = may.laid;
    still = record {
      no_hand = ap (λ (u : SeatView). u.hand) swept.view ∙ is.still.no_hand;
      no_pending = ap (λ (u : SeatView). u.pending) swept.view ∙ is.still.no_pending;
    };
    held = subst (λ (ns : List Node). IsHeld ns w) (sym nodes_left)
        (held_below nodes v w (cursor_at space.shape sweep) (cursor_at space.shape after) before told is.held marks.clear swept);
    numbers_are = is.numbers_are ∙ sym (length-map nodes (finalise (cursor_at space.shape after))) ∙ sym (ap length nodes_left);
    told = is.told ∙ off ∙ sym may.off;
    own = is.own;
    found = λ some. absurd (omega (arith, some, ap length calm));
  }

  pub finalised_nodes : FinalisesBelow (cursor_at space.shape after) nodes before told new
  finalised_nodes =
      subst (FinalisesBelow (cursor_at space.shape after) nodes before told) (sym nodes_left)
      (finalises_below nodes v w (cursor_at space.shape sweep) (cursor_at space.shape after) before told is.held marks.clear swept)
