-- An empty heap.
use Rattle.std.specs.Prelude.{sum_by}
use Rattle.std.proofs.lemmas.List.{length-replicate}
use Rattle.std.proofs.lemmas.List.Elements.{All-replicate}
use Rattle.std.proofs.lemmas.List.Sums.{sum_by-cons}
use Rattle.std.proofs.Common.{◌≡◌, ℕ, zero, suc, ◌+◌, List, [], ◌∷◌, length, replicate, None, refl, sym, ap, ◌∙◌, subst, arith}
use Rattle.gc_graph.specs.declared.action.ActionKind.{ActionKind}
use Rattle.gc_graph.specs.declared.phase.Phase.TheVariants.{Idle}
use Rattle.gc_graph.specs.State.{ObjectType, Shape, empty_state}
use Rattle.gc_graph.specs.ThreadLaw.{IsCounted}
use Rattle.gc_graph.specs.ValidLaw.{EmptyIsValid}
use Rattle.cross_thread_region.specs.Histories.{slots_of}
use Rattle.cross_thread_region.specs.PlacedNodes.{named_is_target}
use Rattle.heap_engine.specs.Going.{ArePublished}
use Rattle.heap_cycle.specs.Seat.{Heap, empty_view}
use Rattle.heap_cycle.specs.PlacesInWords.{places_of_slots}
use Rattle.heap_cycle.specs.Objects.{HaveCallbacks, ObjectsView}
use Rattle.heap_cycle.specs.Notes.{NotesState, no_notes}
use Rattle.heap_cycle.specs.Marking.{IsCleared, no_grey, refused_in}
use Rattle.heap_cycle.specs.Refused.{none_refused}
use Rattle.heap_cycle.specs.Stack.{empty_stack}
use Rattle.heap_cycle.specs.declared.parts.Parts.{Parts}
use Rattle.heap_cycle.specs.Handles.{HandlesView}
use Rattle.heap_cycle.specs.Views.{CycleView}
use Rattle.heap_cycle.specs.Parts.{setup_of, state_of, IsManned, IsReady}
use Rattle.heap_cycle.specs.Ties.{manned_calm}
use Rattle.heap_cycle.specs.Region.{HasRegion}
use Rattle.heap_cycle.specs.Owned.{OwnedView, nothing_owned}
use Rattle.heap_engine.specs.View.{no_refusals}

null_places : (n : ℕ) → replicate n None ≡ places_of_slots [] (replicate n None)
null_places zero = refl
null_places (suc n) = ap (λ l. None ∷ l) (null_places n)

-- the parts of an empty heap
abbrev pub empty_parts : Heap → Shape → ℕ → List ObjectType → List ActionKind → Parts
empty_parts heap shape markers types callbacks = record {
  objects = record { shape = shape; types = types; callbacks = callbacks; nodes = []; seat = empty_view heap types; grey = no_grey markers };
  handles = record { places = replicate 256 None; slots = replicate 256 None; weak_places = replicate 64 None; weak = replicate 64 None; stack = empty_stack };
  cycle = record { phase = Idle; sweep = record { pages = shape.pages; cursor = shape.pages }; registered = []; weakly = []; ran = record { weak = []; prefinalised = [] }; rest = empty_state };
  region = nothing_owned;
}

-- each of them is what it is in an empty heap
pub parts_empty : (s : Parts) (heap : Heap) (shape : Shape) (markers : ℕ) (types : List ObjectType) (callbacks : List ActionKind) → s.objects ≡ (empty_parts heap shape markers types callbacks).objects
    → s.handles ≡ (empty_parts heap shape markers types callbacks).handles → s.cycle ≡ (empty_parts heap shape markers types callbacks).cycle → s.region ≡ nothing_owned → s ≡ empty_parts heap shape markers types callbacks
parts_empty s heap shape markers types callbacks objects handles cycle region =
    let none : Parts = empty_parts heap shape markers types callbacks in
    ap (λ (x : ObjectsView). record s { objects = x }) objects ∙ ap (λ (x : HandlesView). record s { objects = none.objects; handles = x }) handles
    ∙ ap (λ (x : CycleView). record none { cycle = x; region = s.region }) cycle ∙ ap (λ (x : OwnedView). record none { region = x }) region

-- no note was refused in groups in which nothing is noted
none_counted : (n : ℕ) → sum_by (λ (x : NotesState). x.refused) (replicate n no_notes) ≡ 0
none_counted zero = refl
none_counted (suc n) = omega (arith, sum_by-cons (λ (x : NotesState). x.refused) no_notes (replicate n no_notes), none_counted n)

pub refusals_empty : (markers : ℕ) → record { now = refused_in (no_grey markers); since = none_refused } ≡ no_refusals
refusals_empty markers = ap (λ n. record { now = record { pushes = 0; notes = 0 + (n + 0) }; since = none_refused }) (none_counted markers)

-- no marking goes on, so no marker ought to run
pub manned_empty : (s : Parts) (heap : Heap) (shape : Shape) (markers : ℕ) (types : List ObjectType) (callbacks : List ActionKind) → s ≡ empty_parts heap shape markers types callbacks
    → IsManned s
manned_empty s heap shape markers types callbacks is = subst IsManned (sym is) (manned_calm (empty_parts heap shape markers types callbacks) Idle refl refl)

-- an idle cycle, over slots that are all null and no objects, is ready
pub ready_empty : (s : Parts) (heap : Heap) (shape : Shape) (markers : ℕ) (types : List ObjectType) (callbacks : List ActionKind) → EmptyIsValid → HaveCallbacks (length callbacks) types
    → s ≡ empty_parts heap shape markers types callbacks → IsReady s
ready_empty s heap shape markers types callbacks law called is =
    let ready : IsReady (empty_parts heap shape markers types callbacks) = record {
      valid = law (setup_of (empty_parts heap shape markers types callbacks));
      called = called;
      tied = record {
        slots = null_places 256;
        weak = null_places 64;
        stack = record { addresses = refl; places = refl; inside = λ k d low. absurd (omega (arith, low)) };
        registered = λ k d low. absurd (omega arith);
        weakly = refl;
        sweep = record { pages = refl; cursor_is = refl };
        marks = (
          record {
            off = refl;
            clear = record {
              off = refl;
              unrefused = refl;
              none_listed = refl;
              whole = refl;
              unshared = λ none. refl;
              own = record { none_noted = refl; unrefused = refl };
              others = All-replicate IsCleared markers no_notes (record { none_noted = refl; unrefused = refl });
              many = length-replicate markers no_notes;
              none_running = refl;
            };
          },
          record { off = refl; marked = refl; traced = refl; dead = refl },
        );
        traced = refl;
        made = omega arith;
      };
    } in
    subst IsReady (sym is) ready

-- its region belongs to it
pub region_empty : (s : Parts) (heap : Heap) (shape : Shape) (markers : ℕ) (types : List ObjectType) (callbacks : List ActionKind) → s ≡ empty_parts heap shape markers types callbacks
    → HasRegion s
region_empty s heap shape markers types callbacks is =
    let region : HasRegion (empty_parts heap shape markers types callbacks) =
    record { opened = refl; placed = λ x n named. absurd (omega (arith, (named_is_target (slots_of []) x n named).1)); started = refl } in
    subst HasRegion (sym is) region

-- nothing is counted
pub counted_empty : (s : Parts) (heap : Heap) (shape : Shape) (markers : ℕ) (types : List ObjectType) (callbacks : List ActionKind) → s ≡ empty_parts heap shape markers types callbacks → IsCounted (state_of s)
counted_empty s heap shape markers types callbacks is =
    let none : IsCounted (state_of (empty_parts heap shape markers types callbacks)) = record { pauses = omega arith; full = omega arith; finalised = refl } in
    subst (λ (p : Parts). IsCounted (state_of p)) (sym is) none

-- four zeros were published of it
pub board_empty : (s : Parts) (heap : Heap) (shape : Shape) (markers : ℕ) (types : List ObjectType) (callbacks : List ActionKind) → s ≡ empty_parts heap shape markers types callbacks
    → ArePublished [] (state_of s) s.region
board_empty s heap shape markers types callbacks is =
    let none : ArePublished [] (state_of (empty_parts heap shape markers types callbacks)) nothing_owned = record { last = refl; before = refl } in
    subst (λ (p : Parts). ArePublished [] (state_of p) p.region) (sym is) none
