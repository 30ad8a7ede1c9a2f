-- The marks of each phase, what is kept of marking, and where its markers are.
use Rattle.std.specs.Prelude.{◌≡◌, ◌⊎◌, ℕ, ◌+◌, ◌<◌, ◌≤◌, Bool, true, false, List, [], length, map, Option, Contains, All}
use Rattle.gc_graph.specs.declared.phase.Phase.{Phase}
use Rattle.gc_graph.specs.declared.phase.Phase.TheVariants.{Idle, Marking, Sweeping}
use Rattle.gc_graph.specs.Graph.{has}
use Rattle.gc_graph.specs.State.{Node, IsLive, slot_targets}
use Rattle.mark_worklist.specs.Refusals.{TellsRefused}
use Rattle.mark_worklist.specs.Families.{at}
use Rattle.mark_worklist.specs.Joining.{AreFresh, IsSameList}
use Rattle.mark_worklist.specs.Shares.{ShareState, put_of, taken_by_share}
use Rattle.marker_core.specs.Bodies.{holds}
use Rattle.page_words.specs.Markers.{new_marker}
use Rattle.page_words.specs.Seat.{SeatView, IsQuiet}
use Rattle.marker_crew.specs.Note.{Note}
use Rattle.marker_crew.specs.Marking.{traced_count}
use Rattle.marker_crew.specs.Notes.{note_of}
use Rattle.atomic_pause.specs.UnderWay.{IsUnderWay}
use Rattle.marker_crew.specs.Crews.{Marker}
use Rattle.atomic_pause.specs.AmongNodes.{IsAmong}
use Rattle.atomic_pause.specs.Nodes.{place_of}
use Rattle.atomic_pause.specs.Pausing.{NamePlaces}
use Rattle.heap_objects.specs.Finalising.{IsSweptTo}
use Rattle.heap_objects.specs.Marking.{GreyView, IsClear, IsCleared, pushes_in, notes_in}
use Rattle.heap_objects.specs.Objects.{ObjectsView, refused_of, IsLiveAt}

-- no marking goes on, and nothing is left of it
pub record ObjectsAreAtRest (o : ObjectsView) : Type 0 where
  pub off : o.seat.on ≡ false
  pub clear : IsClear o.grey

-- the words may keep just what the set has, which has a flag for each node, and live nodes alone
pub record IsMayOf (nodes : List Node) (v : SeatView) (may : List Bool) : Type 0 where
  pub whole : length may ≡ length nodes
  pub live : (n : ℕ) → has may n ≡ true → IsLive nodes n
  pub same : (n : ℕ) → IsLive nodes n → holds v.may (place_of nodes n) ≡ has may n

-- no marker runs: no share of the list is out, which has none without markers; no note is of an object alone, and each marker
-- has notes here, in which there is nothing
pub record IsHome (g : GreyView) : Type 0 where
  pub whole : g.marking.list.whole ≡ true
  pub unshared : g.markers ≡ 0 → g.marking.list.shares ≡ []
  pub paired : (note : Note) → Contains g.notes.notes note → note.word ≡ 0 → ⊥
  pub others : All IsCleared g.others
  pub many : length g.others ≡ g.markers

-- a marker began with a seat that knew nothing, and noted nothing
pub record IsNewMarker (v : SeatView) (m : Marker) : Type 0 where
  pub seat : m.seat ≡ new_marker v
  pub notes : IsCleared m.notes

-- markers run: each began with nothing, and with a share of the list that the owner has a share of too, which counts the pushes that
-- were refused. What is listed the owner put there, which is marked. Unless a note was refused, each item that it took the owner claimed,
-- or found traced, or noted with word 0. Nothing but such an item is noted so, and of none of these it found a marked object: it
-- missed it, or it isn't a place of the heap
pub record IsOut (v : SeatView) (g : GreyView) : Type 0 where
  pub many : length g.running ≡ g.markers
  pub shared : g.marking.list.whole ≡ false
  pub first : List ShareState
  pub fresh : AreFresh g.markers first (map (λ m. m.share) g.running)
  pub family : IsSameList first g.marking.list.shares
  pub began : All (IsNewMarker v) g.running
  pub others : g.others ≡ []
  pub refused : g.marking.list.refused ≡ (at g.marking.list.shares 0).refused
  pub since : g.since.pushes ≤ g.earlier
  pub put : (p : ℕ) → Contains g.marking.list.items p → Contains (put_of (at g.marking.list.shares 0)) p
  pub marked : (p : ℕ) → Contains (put_of (at g.marking.list.shares 0)) p → holds v.marked p ≡ true
  pub taken :
      g.notes.overflow ≡ false → (p : ℕ) → Contains (taken_by_share (at g.marking.list.shares 0)) p
      → (holds v.traced p ≡ true) ⊎ (Contains g.found p ⊎ Contains g.notes.notes (note_of p 0))
  pub lone :
      (note : Note) → Contains g.notes.notes note → note.word ≡ 0
      → Contains (taken_by_share (at g.marking.list.shares 0)) note.holder × (Contains v.missed note.holder ⊎ (v.count ≤ note.holder))

-- as many seats are lent as markers run, and these are at home or out
pub record CrewIsLent (v : SeatView) (g : GreyView) : Type 0 where
  pub lent : v.lent ≡ length g.running
  pub home : g.running ≡ [] → IsHome g
  pub out : 0 < length g.running → IsOut v g

-- marking is under way: what may be kept are these nodes, the steps' count is that of the objects that the owner traced, its
-- crew is at home or out, and that a push or a note was refused comes to be told since it began exactly where the count rose
pub record HasMarking (may : List Bool) (o : ObjectsView) : Type 0 where
  pub under_way : IsUnderWay o.seat o.grey.marking o.grey.notes
  pub crew : CrewIsLent o.seat o.grey
  pub may_is : IsMayOf o.nodes o.seat may
  pub counted : traced_count o.seat ≡ o.grey.traced
  pub pushes_told : TellsRefused (record { told = false; count = o.grey.since.pushes }) (pushes_in o.grey)
  pub notes_told : TellsRefused (record { told = false; count = o.grey.since.notes }) (notes_in o.grey)

-- marking goes on, or nothing is left of it
abbrev pub GoesOnOrRests : ObjectsView → Type 0
GoesOnOrRests o = ((may : List Bool) × HasMarking may o) ⊎ ObjectsAreAtRest o

-- nothing is marked while the heap is idle; while marking goes on, these nodes may be kept; in an open sweep nothing is marked
-- below the address up to which all is swept, and from there on each object is marked or dead
abbrev pub HasMarks : Phase → ℕ → List Bool → ObjectsView → Type 0
HasMarks Idle limit may o = ObjectsAreAtRest o × IsQuiet o.seat
HasMarks Marking limit may o = HasMarking may o
HasMarks Sweeping limit may o = ObjectsAreAtRest o × IsSweptTo limit o.seat

-- how much had been refused when marking began stays, and while no marking goes on nothing is refused
pub record IsTellingOn (old new : ObjectsView) : Type 0 where
  pub since : new.grey.since ≡ old.grey.since
  pub still : old.seat.on ≡ false → refused_of new ≡ refused_of old

-- the slots hold the places of live nodes that are among the roots
pub record NameRoots (nodes : List Node) (roots : List ℕ) (places : List (Option ℕ)) : Type 0 where
  pub slots : List (Option ℕ)
  pub named : NamePlaces nodes slots places
  pub among : (n : ℕ) → IsAmong (slot_targets slots) n → IsAmong roots n

-- each place that is told, with 1, is that of a live node that is among the roots
abbrev pub TellsRoots : List Node → List ℕ → List ℕ → Type 0
TellsRoots nodes roots told = (p : ℕ) → Contains told (p + 1) → (n : ℕ) × IsAmong roots n × IsLiveAt nodes n p
