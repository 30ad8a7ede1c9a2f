-- A crew of markers, and what starting and joining it make of it.
use Rattle.std.specs.Prelude.{◌≡◌, ◌⊎◌, ℕ, ◌+◌, ◌<◌, ◌≤◌, true, false, List, [], ◌∷◌, ◌++◌, length, map, sum_by, slice_index_or, drop, take, None}
use Rattle.std.specs.List.{list_any}
use Rattle.pair_notes.specs.Notes.{NotesState}
use Rattle.page_words.specs.Markers.{MarkerSeatView, joined_with}
use Rattle.page_words.specs.Seat.{SeatView}
use Rattle.mark_worklist.specs.Shares.{ShareState, taken_by_share}
use Rattle.marker_crew.specs.declared.crew.CrewResult.{CrewResult}
use Rattle.marker_crew.specs.declared.draining.Drained.{Drained}
use Rattle.marker_crew.specs.Drains.{nothing_yet, AreDealtWith, IsIdle}
use Rattle.marker_crew.specs.Stages.{drain_stage, MarkerWorks}

-- a marker as it began: its seat, its share of the lists, and its notes
pub record Marker : Type 0 where
  pub seat : MarkerSeatView
  pub share : ShareState
  pub notes : NotesState

-- a marker at its end: what it has, and what its drain told
pub record Ending : Type 0 where
  pub seat : MarkerSeatView
  pub share : ShareState
  pub notes : NotesState
  pub drained : Drained

-- a marker that began so has drained, and ended so: it found the lists idle, or was told to stop, or took as many items as the
-- heap has words
pub record HasDrained (began : Marker) (end : Ending) : Type 0 where
  pub works : MarkerWorks (drain_stage began.seat began.share began.notes nothing_yet) (drain_stage end.seat end.share end.notes end.drained)
  pub taken : AreDealtWith began.share (drain_stage end.seat end.share end.notes end.drained)
  pub hand : end.seat.hand ≡ None
  pub most : end.drained.traced ≤ began.seat.count
  pub done : end.drained.more ≡ false → IsIdle end.share
  pub more : end.drained.more ≡ true → (end.seat.halted ≡ true) ⊎ (length (taken_by_share end.share) ≡ length (taken_by_share began.share) + began.seat.count)

-- a crew: how many markers it has, the groups of notes that are here (the owner's first; while it runs that one alone), the shares
-- that it brought back, and the markers that run, as they began
pub record CrewState : Type 0 where
  pub markers : ℕ
  pub notes : List NotesState
  pub shares : List ShareState
  pub running : List Marker

-- the groups that stand behind the owner's
abbrev pub markers_notes : CrewState → List NotesState
markers_notes s = drop 1 s.notes

-- each marker has a group of notes, and either all run or none does; while they run no share is here
pub record IsCrew (s : CrewState) : Type 0 where
  pub few : s.markers ≤ 8
  pub groups : length s.notes + length s.running ≡ s.markers + 1
  pub all : 0 < length s.running → length s.running ≡ s.markers
  pub no_share : 0 < length s.running → s.shares ≡ []

-- ---- start

-- the markers that begin with these, the first with the first ones, and so on
abbrev pub begun_with : List MarkerSeatView → List ShareState → List NotesState → List Marker
begun_with [] shares notes = []
begun_with (v ∷ seats) [] notes = []
begun_with (v ∷ seats) (h ∷ shares) [] = []
begun_with (v ∷ seats) (h ∷ shares) (n ∷ notes) = record { seat = v; share = h; notes = n } ∷ begun_with seats shares notes

-- the crew runs with these seats and shares and the markers' notes; the owner's notes alone are here
abbrev pub started_with : CrewState → List MarkerSeatView → List ShareState → CrewState
started_with s seats shares = record s { notes = take 1 s.notes; shares = []; running = begun_with seats shares (markers_notes s) }

-- ---- join

-- the seats were joined one after another
abbrev pub joined_with_all : SeatView → List MarkerSeatView → SeatView
joined_with_all v [] = v
joined_with_all v (m ∷ seats) = joined_with_all (joined_with v m) seats

-- the crew was joined: each marker has drained, and its seat, notes and share are back
pub record HasJoined (old : CrewState) (before : SeatView) (new : CrewState) (after : SeatView) (result : CrewResult) : Type 0 where
  pub ends : List Ending
  pub many : length ends ≡ length old.running
  pub each : (k : ℕ) (m : Marker) (e : Ending) → k < length ends → HasDrained (slice_index_or old.running k m) (slice_index_or ends k e)
  pub seat : after ≡ joined_with_all before (map (λ e. e.seat) ends)
  pub notes : new.notes ≡ old.notes ++ map (λ e. e.notes) ends
  pub shares : new.shares ≡ old.shares ++ map (λ e. e.share) ends
  pub running : new.running ≡ []
  pub markers : new.markers ≡ old.markers
  pub traced : result.traced ≡ sum_by (λ e. e.drained.traced) ends
  pub overflow : result.overflow ≡ list_any (λ e. e.drained.overflow) ends
