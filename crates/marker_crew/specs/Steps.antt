-- The owner's step of marking beside a crew.
use Rattle.std.specs.Prelude.{◌≡◌}
use Rattle.pair_notes.specs.Notes.{NotesState}
use Rattle.page_words.specs.Markers.{MarkerSeatView, lent_from, new_marker, joined_with}
use Rattle.page_words.specs.Seat.{SeatView}
use Rattle.mark_worklist.specs.Shares.{ShareState}
use Rattle.marker_crew.specs.declared.draining.Drained.{Drained}
use Rattle.marker_crew.specs.Drains.{nothing_yet, AreDealtWith}
use Rattle.marker_crew.specs.Stages.{drain_stage, MarkerWorks}

-- the owner lent a seat, with which items were taken and dealt with, as by a marker, and took it back
pub record HasStepped (before : SeatView) (h : ShareState) (n : NotesState) (after : SeatView) (k : ShareState) (o : NotesState) (drained : Drained) : Type 0 where
  pub marker : MarkerSeatView
  pub seat : after ≡ joined_with (lent_from before) marker
  pub works : MarkerWorks (drain_stage (new_marker before) h n nothing_yet) (drain_stage marker k o drained)
  pub taken : AreDealtWith h (drain_stage marker k o drained)
