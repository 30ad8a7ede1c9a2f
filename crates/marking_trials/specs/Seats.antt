-- Seats, shares and crews before they are at work, and after it.
use Rattle.std.specs.Prelude.{◌≡◌, ℕ, ◌+◌, ◌<◌, List, [], length, replicate, None}
use Rattle.mark_worklist.specs.Families.{at}
use Rattle.mark_worklist.specs.Joining.{AreFresh, IsSameList}
use Rattle.mark_worklist.specs.Shares.{ShareState, IsSameShare}
use Rattle.page_words.specs.Markers.{MarkerSeatView}
use Rattle.page_words.specs.Seat.{SeatView}
use Rattle.pair_notes.specs.Notes.{no_notes}
use Rattle.marker_crew.specs.Crews.{CrewState}

-- a seat of the same words and types, with nothing in hand
pub record IsNewSeat (v : SeatView) (m : MarkerSeatView) : Type 0 where
  pub heap : m.heap ≡ v.heap
  pub types : m.types ≡ v.types
  pub hand : m.hand ≡ None

-- a crew of so many markers that was never started
abbrev pub new_crew : ℕ → CrewState
new_crew markers = record { markers = markers; notes = replicate (markers + 1) no_notes; shares = []; running = [] }

-- so many shares of the owner's list, which were made with it and of which no call was made
pub record AreSharesOf (count : ℕ) (list shares : List ShareState) : Type 0 where
  pub first : List ShareState
  pub fresh : AreFresh count first shares
  pub same : IsSameList first list

-- the same shares in the same order, whatever calls were made
pub record AreSameShares (old new : List ShareState) : Type 0 where
  pub as_many : length new ≡ length old
  pub each : (k : ℕ) → k < length old → IsSameShare (at old k) (at new k)
