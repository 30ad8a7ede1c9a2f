-- What a step of a marker's seat is: it rewrites one word by a function of what it found, and changes the marker's view by
-- another, and leaves the mutator's view and all other views as they are. Each law here says so of one kind of step, for every
-- state in which a view that is not spent is this one.
use Rattle.std.specs.Prelude.{◌≡◌, ℕ, ◌%◌, ◌<◌, ◌==◌, false, true, List, [], ◌∷◌, ◌++◌, Some, None, slice_index, slice_set}
use Rattle.object_headers.specs.Layout.{word_with_mark, word_with_traced}
use Rattle.marker_core.specs.declared.states.MarkerView.{MarkerView}
use Rattle.marker_core.specs.declared.states.MutatorView.{MutatorView}
use Rattle.marker_core.specs.declared.steps.CoreStep.{CoreStep}
use Rattle.marker_core.specs.declared.steps.CoreStep.TheVariants.{Split, Join, Bit, Look, Claim, Field, MarkerMark, Poll}
use Rattle.marker_core.specs.Layout.{bitmap_at, bit_is_set, stop_at, has_mark}
use Rattle.marker_core.specs.Bodies.{holds}
use Rattle.marker_core.specs.Views.{fresh_view, spent_view, view_at}
use Rattle.marker_core.specs.Seats.{SeatSide, core_of, with_view}
use Rattle.marker_core.specs.SeatSteps.{is_grey}
use Rattle.marker_core.specs.SeatLaws.{exchanged}
use Rattle.marker_core.specs.MarkerSeats.{MarkerSide, seat_beside, seat_lent, seat_joined, marker_found_start, marker_polled, marker_looked, marker_claimed, marker_wants_word, marker_read, marker_wants_mark, marker_marked}
use Rattle.marker_core.specs.Step.{core_step}
use Rattle.marker_core.specs.Core.{IsCoreOk}

-- in each state in which the view with this number is this one and not spent, the step of that view is allowed, makes this of
-- the word found at the address, and leaves this view for it; the mutator's view and the other views stay
abbrev pub IsMarkerStep : MarkerSide → (ℕ → CoreStep) → ℕ → (ℕ → ℕ) → (ℕ → MarkerView) → Type 0
IsMarkerStep v step at makes next =
    (m : MutatorView) (words : List ℕ) (markers : List MarkerView) (number : ℕ) → IsCoreOk (core_of (seat_beside v m) words markers)
    → view_at markers number ≡ v.marker → v.marker.spent ≡ false
    → core_step (core_of (seat_beside v m) words markers) (step number)
    ≡ Some
    (core_of (seat_beside v m) (slice_set words at (makes (slice_index words at))) (slice_set markers number (next (slice_index words at))))

-- a look at a start bit leaves the word
abbrev pub BitsAreSteps : Type 0
BitsAreSteps =
    (v : MarkerSide) (a : ℕ) → a < v.count
    → IsMarkerStep v (λ number. Bit number a) (bitmap_at v.count a) (λ found. found)
    (λ found. marker_found_start v a (bit_is_set found (a % 64)))

-- a look at the stop word leaves it
abbrev pub PollsAreSteps : Type 0
PollsAreSteps =
    (v : MarkerSide) → IsMarkerStep v (λ number. Poll number) (stop_at v.count) (λ found. found) (λ found. marker_polled v (found == 1))

-- a look at the header of a known place leaves it
abbrev pub LooksAreSteps : Type 0
LooksAreSteps =
    (v : MarkerSide) (a : ℕ) → holds v.known a ≡ true
    → IsMarkerStep v (λ number. Look number a) a (λ found. found) (marker_looked v a)

-- a claim compares the header with the grey one that was read last, which becomes a traced one
abbrev pub ClaimsAsAreSteps : Type 0
ClaimsAsAreSteps =
    (v : MarkerSide) (a header : ℕ) → holds v.known a ≡ true → v.hand ≡ None → v.last ≡ Some (a, header) → is_grey header ≡ true
    → IsMarkerStep v (λ number. Claim number a header) a (exchanged header (word_with_traced true header)) (marker_claimed v a header)

-- a look at the word that the hand wants leaves it
abbrev pub FieldsAreSteps : Type 0
FieldsAreSteps =
    (v : MarkerSide) (a : ℕ) → marker_wants_word v a ≡ true
    → IsMarkerStep v (λ number. Field number a) a (λ found. found) (marker_read v)

-- a mark sets the mark bit of the target in hand
abbrev pub MarksAsAreSteps : Type 0
MarksAsAreSteps =
    (v : MarkerSide) (a : ℕ) → marker_wants_mark v a ≡ true
    → IsMarkerStep v (λ number. MarkerMark number a) a (word_with_mark true) (λ found. marker_marked v a (has_mark found))

-- ---- a view is lent, and given back

-- while marking goes on a view may be lent, and is then the last one
abbrev pub SplitsAreSteps : Type 0
SplitsAreSteps =
    (v : SeatSide) (words : List ℕ) (markers : List MarkerView) → v.on ≡ true
    → core_step (core_of v words markers) Split ≡ Some (core_of (with_view v (seat_lent v)) words (markers ++ fresh_view ∷ []))

-- a view that is not spent and has no hand may be given back, and is then spent
abbrev pub JoinsAreSteps : Type 0
JoinsAreSteps =
    (v : SeatSide) (words : List ℕ) (markers : List MarkerView) (number : ℕ) → (view_at markers number).spent ≡ false
    → (view_at markers number).hand ≡ None
    → core_step (core_of v words markers) (Join number)
    ≡ Some (core_of (with_view v (seat_joined v (view_at markers number))) words (slice_set markers number spent_view))
