-- What a marker's seat knows of the words, and how each call changes that; and what lending a seat makes of the mutator's view.
use Rattle.std.specs.Prelude.{◌≡◌, ◌⊎◌, ℕ, ◌+◌, ◌<◌, ◌≤◌, Bool, List}
use Rattle.gc_graph.specs.State.{ObjectType}
use Rattle.marker_core.specs.declared.states.MarkerView.{MarkerView}
use Rattle.marker_core.specs.Bodies.{place_named}
use Rattle.marker_core.specs.MarkerSeats.{MarkerSide, seat_lent, seat_joined, marker_found_start, marker_polled, marker_looked, marker_claimed, marker_read, marker_marked}
use Rattle.marker_core.specs.Views.{fresh_view}
use Rattle.page_words.specs.Roles.{kind_lists}
use Rattle.page_words.specs.Seat.{Heap, SeatView, side, with_mutator}

-- a marker's view: which words it is for, the types of the heap's objects, and the marker's view of the words; the parts of the
-- first and the last are told of this view too
pub record MarkerSeatView : Type 0 where
  pub heap : Heap
  pub open heap use *
  pub types : List ObjectType
  pub marker : MarkerView
  pub open marker use *

-- what the step machine looks at in a marker's view
abbrev pub marker_side : MarkerSeatView → MarkerSide
marker_side v = record { count = v.count; types = kind_lists v.types; marker = v.marker }

-- the view after the marker's has changed
abbrev pub with_marker : MarkerSeatView → MarkerView → MarkerSeatView
with_marker v m = record v { marker = m }

-- ---- a seat is lent, and given back

-- the mutator has lent one seat more
abbrev pub lent_from : SeatView → SeatView
lent_from v = with_mutator v (seat_lent (side v))

-- the view of a seat that was just lent: it knows nothing
abbrev pub new_marker : SeatView → MarkerSeatView
new_marker v = record { heap = v.heap; types = v.types; marker = fresh_view }

-- the mutator knows what the marker knew
abbrev pub joined_with : SeatView → MarkerSeatView → SeatView
joined_with v given = with_mutator v (seat_joined (side v) given.marker)

-- ---- what the calls change: each is a step of the machine

-- the start bit of a was read, and found so
abbrev pub start_read : MarkerSeatView → ℕ → Bool → MarkerSeatView
start_read v a set = with_marker v (marker_found_start (marker_side v) a set)

-- the header at a was read
abbrev pub header_read : MarkerSeatView → ℕ → ℕ → MarkerSeatView
header_read v a header = with_marker v (marker_looked (marker_side v) a header)

-- the object at a was to be claimed by its header, and this one was found
abbrev pub claimed_as : MarkerSeatView → ℕ → ℕ → ℕ → MarkerSeatView
claimed_as v a header found = with_marker v (marker_claimed (marker_side v) a header found)

-- the word w was read for the object in hand
abbrev pub field_read : MarkerSeatView → ℕ → MarkerSeatView
field_read v w = with_marker v (marker_read (marker_side v) w)

-- the target in hand was marked, which had the mark before or not
abbrev pub marked_as : MarkerSeatView → ℕ → Bool → MarkerSeatView
marked_as v a was = with_marker v (marker_marked (marker_side v) a was)

-- the stop word was read, and says to stop or not
abbrev pub stop_read : MarkerSeatView → Bool → MarkerSeatView
stop_read v stop = with_marker v (marker_polled (marker_side v) stop)

-- the word is null, or names a place in the heap
abbrev pub IsReferenceWithin : ℕ → ℕ → Type 0
IsReferenceWithin count w = (w ≡ 0) ⊎ ((0 < w) × (place_named w + 2 ≤ count))
