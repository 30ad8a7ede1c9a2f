-- The objects after a word was loaded, which may be a header that was looked at.
use Rattle.std.proofs.Common.{ℕ, ◌++◌, Bool, true, false, List, [], ◌∷◌, cond}
use Rattle.std.specs.List.{Contains}
use Rattle.std.proofs.lemmas.List.Elements.{Contains-append_left}
use Rattle.gc_graph.specs.declared.action.ActionKind.{ActionKind}
use Rattle.gc_graph.specs.State.{ObjectType, Node}
use Rattle.marker_core.specs.declared.states.Why.TheVariants.{Read, Weak}
use Rattle.page_words.specs.Seat.{SeatView, loaded}
use Rattle.page_space.specs.Space.{SpaceView}
use Rattle.heap_objects.specs.declared.marking.Grey.{Grey}
use Rattle.heap_objects.specs.Objects.{AreObjects}

-- one more may have been found traced
still_found : (more : Bool) (found : List ℕ) (a p : ℕ) → Contains found p → Contains (cond more (found ++ a ∷ []) found) p
still_found true found a p there = Contains-append_left found (a ∷ []) p there
still_found false found a p there = there

module _ (space : SpaceView) (v : SeatView) (types : List ObjectType) (callbacks : List ActionKind) (made : ℕ) (nodes : List Node) (grey : Grey) (a found : ℕ)
    (is : AreObjects space v types callbacks made nodes grey) where
  pub objects_read : AreObjects space (loaded v a Read found) types callbacks made nodes grey
  objects_read = record {
    called = is.called;
    few = is.few;
    known = is.known;
    laid = is.laid;
    still = record { no_hand = is.still.no_hand; no_pending = is.still.no_pending };
    held = record { bodies = is.held.bodies; dead = is.held.dead };
    numbers_are = is.numbers_are;
    told = is.told;
    own = is.own;
    found = λ some p there. still_found _ v.done a p (is.found some p there);
  }

  pub objects_read_weakly : AreObjects space (loaded v a Weak found) types callbacks made nodes grey
  objects_read_weakly = record {
    called = is.called;
    few = is.few;
    known = is.known;
    laid = is.laid;
    still = record { no_hand = is.still.no_hand; no_pending = is.still.no_pending };
    held = record { bodies = is.held.bodies; dead = is.held.dead };
    numbers_are = is.numbers_are;
    told = is.told;
    own = is.own;
    found = λ some p there. still_found _ v.done a p (is.found some p there);
  }
