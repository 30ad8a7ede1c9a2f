-- A cycle from its start to its pause, over the parts of a heap.
use Rattle.std.specs.Prelude.{◌≡◌, ◌<◌, ℕ, true, false, length, List, [], ◌∷◌, Contains, Some}
use Rattle.gc_graph.specs.declared.command.Want.{Want}
use Rattle.gc_graph.specs.declared.line.Line.{Line}
use Rattle.gc_graph.specs.declared.line.Line.TheVariants as L
use Rattle.gc_graph.specs.declared.phase.Phase.TheVariants.{Marking, Sweeping}
use Rattle.gc_graph.specs.State.{State}
use Rattle.gc_graph.specs.Sweep.{SweepsToEnd}
use Rattle.cross_thread_region.specs.declared.chronicle.PlacedEntry.{PlacedEntry}
use Rattle.cross_thread_region.specs.Histories.{strong_place}
use Rattle.gc_graph.specs.CycleSteps.{IsPause, IsStart}
use Rattle.mark_worklist.specs.Shares.{last_count}
use Rattle.marker_core.specs.Bodies.{holds}
use Rattle.heap_roots.specs.Calls.{TakesMore}
use Rattle.heap_roots.specs.Owned.{piece_of}
use Rattle.heap_roots.specs.Refused.{RefusalsTold, IsToldTruly}
use Rattle.heap_roots.specs.Finished.{Finished}
use Rattle.heap_roots.specs.Crews.{IsIdleOrLong}
use Rattle.heap_roots.specs.Objects.{refused_of}
use Rattle.heap_cycle.specs.declared.parts.Parts.{Parts}
use Rattle.heap_cycle.specs.Region.{HasRegion}
use Rattle.heap_cycle.specs.Parts.{setup_of, state_of, AreTied, IsReady}
use Rattle.heap_cycle.specs.Printed.{ran_lines}

-- what the strong slots name is marked, and what the strong slots of the region with this history name
pub record AreSlotsMarked (s : Parts) (history : List PlacedEntry) : Type 0 where
  pub slots : (p : ℕ) → Contains s.handles.places (Some p) → holds s.objects.seat.marked p ≡ true
  pub shared : (x p : ℕ) → strong_place history x ≡ Some p → holds s.objects.seat.marked p ≡ true

-- no push was refused since the cycle began, as far as the count shows it
pub record HasNoRefusedPush (told : RefusalsTold) : Type 0 where
  pub same : told.now.pushes ≡ told.since.pushes
  pub seen : told.now.pushes < last_count

-- no note was, as far as the count shows it
pub record HasNoRefusedNote (told : RefusalsTold) : Type 0 where
  pub same : told.now.notes ≡ told.since.notes
  pub seen : told.now.notes < last_count

-- the open sweep was ended, in which these nodes were finalised; what threads have done was taken, and the start entry, and then
-- marking began
pub record HasBegun (old : Parts) (numbers : List ℕ) (new : Parts) : Type 0 where
  pub swept : State
  pub ended : SweepsToEnd old.objects.shape (state_of old) numbers swept
  pub start : IsStart (setup_of old) swept (piece_of old.region new.region) (state_of new)
  pub ready : IsReady new
  pub marking : new.cycle.phase ≡ Marking
  pub grown : TakesMore old.region new.region
  pub region : HasRegion new
  pub marked : AreSlotsMarked new new.region.taken
  pub home : new.objects.grey.running ≡ []
  pub setup : setup_of new ≡ setup_of old
  pub since : new.objects.grey.since ≡ refused_of old.objects
  pub ordinal : new.cycle.rest.ordinal ≡ old.cycle.rest.ordinal
  pub handles : new.handles ≡ old.handles

-- nothing is grey, unless a push was refused
abbrev pub IsNoneGrey : Parts → Type 0
IsNoneGrey s =
    s.objects.grey.marking.overflow ≡ false → (p : ℕ) → holds s.objects.seat.marked p ≡ true → holds s.objects.seat.traced p ≡ true

-- at the end of a step nothing was left to be found: without markers nothing is grey, unless a push was refused, and beside
-- markers nothing was found on any list
pub record HasFoundAll (old new : Parts) : Type 0 where
  pub alone : old.objects.grey.markers ≡ 0 → IsNoneGrey new
  pub beside : 0 < length old.objects.grey.running → IsIdleOrLong old.objects.grey new.objects.grey

-- the heap's markers run, each with a seat and a share of the list, and nothing else has changed
pub record HasManned (old new : Parts) : Type 0 where
  pub tied : AreTied new
  pub manned : length new.objects.grey.running ≡ new.objects.grey.markers
  pub setup : setup_of new ≡ setup_of old
  pub nodes : new.objects.nodes ≡ old.objects.nodes
  pub marked : new.objects.seat.marked ≡ old.objects.seat.marked
  pub since : new.objects.grey.since ≡ old.objects.grey.since
  pub others : new ≡ record old { objects = new.objects }

-- the line of a pause
abbrev pub pause_line : Finished → Line
pause_line result = L.Pause result.pause.kept result.pause.dead result.crew result.pause.traced result.pause.walked

-- the pause of a cycle at which so many markers run is a step of the graph, of which it tells, and leaves the parts tied, with the
-- region
pub record HasPaused (markers : ℕ) (want : Want) (old new : Parts) (result : Finished) : Type 0 where
  pub pause :
      IsPause (setup_of old) markers want (state_of old) (piece_of old.region new.region)
      (pause_line result ∷ ran_lines true new.cycle.ran) (state_of new)
  pub phase : new.cycle.phase ≡ Sweeping
  pub setup : setup_of new ≡ setup_of old
  pub ordinal : new.cycle.rest.ordinal ≡ old.cycle.rest.ordinal
  pub tied : AreTied new
  pub grown : TakesMore old.region new.region
  pub region : HasRegion new
  pub walked : IsToldTruly old.objects.grey.since (refused_of new.objects) result.pause.walked
