-- What a step of the mutator's seat is: it rewrites one word by a function of what it found, and changes the mutator's view by
-- another. Each law here says so of one kind of step, for every state with that view.
use Rattle.std.specs.Prelude.{◌≡◌, ◌≢◌, ℕ, ◌+◌, ◌-◌, ◌%◌, ◌^◌, ◌<◌, ◌≤◌, ◌==◌, ◌&&◌, Bool, true, false, List, length, Some, if◌then◌else◌, slice_index, slice_set, bit_and, bit_or, Contains}
use Rattle.object_headers.specs.Offsets.{serial_offset, first_field}
use Rattle.object_headers.specs.Layout.{header_word, word_with_mark, word_with_traced}
use Rattle.marker_core.specs.declared.states.Body.{Body}
use Rattle.marker_core.specs.declared.states.MarkerView.{MarkerView}
use Rattle.marker_core.specs.declared.states.MutatorView.{MutatorView}
use Rattle.marker_core.specs.declared.states.Why.{Why}
use Rattle.marker_core.specs.declared.steps.CoreStep.{CoreStep}
use Rattle.marker_core.specs.declared.steps.CoreStep.TheVariants.{Load, Fill, Store, Publish, Retract, Mark, Header, Stop}
use Rattle.marker_core.specs.Layout.{bitmap_at, stop_at, has_mark}
use Rattle.marker_core.specs.Bodies.{refers, word_in, role_in, end_of, in_body}
use Rattle.marker_core.specs.Seats.{SeatSide, core_of, with_view}
use Rattle.marker_core.specs.SeatSteps.{seat_can_load, seat_loaded, seat_can_fill, seat_filled, seat_can_store, seat_stored, seat_published, seat_can_retract, seat_retracted, seat_can_mark, seat_marked, seat_can_claim, seat_claimed, seat_can_unmark, seat_unmarked, seat_can_begin, seat_begun, seat_can_end, seat_ended}
use Rattle.marker_core.specs.Step.{core_step}
use Rattle.marker_core.specs.Matching.{IsWhole}
use Rattle.marker_core.specs.Core.{IsCoreOk}

-- in each state with this view the step is allowed, makes this of the word found at the address, and leaves this view for it
abbrev pub IsSeatStep : SeatSide → CoreStep → ℕ → (ℕ → ℕ) → (ℕ → MutatorView) → Type 0
IsSeatStep v step at makes next =
    (words : List ℕ) (markers : List MarkerView) → IsCoreOk (core_of v words markers)
    → core_step (core_of v words markers) step
    ≡ Some (core_of (with_view v (next (slice_index words at))) (slice_set words at (makes (slice_index words at))) markers)

-- a load leaves the word
abbrev pub LoadsAreSteps : Type 0
LoadsAreSteps =
    (v : SeatSide) (a : ℕ) (why : Why) → seat_can_load v a why ≡ true
    → IsSeatStep v (Load a why) a (λ found. found) (seat_loaded v a why)

-- a fill and a store overwrite it
abbrev pub FillsAreSteps : Type 0
FillsAreSteps =
    (v : SeatSide) (a w : ℕ) → seat_can_fill v a ≡ true → IsSeatStep v (Fill a w) a (λ found. w) (λ found. seat_filled v a w)

-- a store overwrites a field word
abbrev pub StoresAreSteps : Type 0
StoresAreSteps =
    (v : SeatSide) (a w : ℕ) → seat_can_store v a w ≡ true → IsSeatStep v (Store a w) a (λ found. w) (λ found. seat_stored v a w)

-- the words of the body were filled: a live header without mark and traced bit, a serial number that no body has, and fields in
-- which each reference is null; it is of one of the types, and no body has one of its words
pub record IsReadyToPublish (v : SeatSide) (b : Body) : Type 0 where
  pub header : Contains v.filled (b.place, header_word true false false b.ty b.size)
  pub serial : Contains v.filled (b.place + serial_offset, b.serial)
  pub fields : (i : ℕ) → i < length b.fields → Contains v.filled (b.place + first_field + i, word_in b i)
  pub null : (i : ℕ) → i < length b.fields → refers (role_in v.types b i) ≡ true → word_in b i ≡ 0
  pub whole : IsWhole v.count v.types b
  pub apart : (a : ℕ) → b.place ≤ a → a < end_of b → in_body v.bodies a ≡ false
  pub number : b.serial < 2 ^ 32
  pub unused : (c : Body) → Contains v.bodies c → c.serial ≢ b.serial

-- a publication sets the object's start bit
abbrev pub PublishesAreSteps : Type 0
PublishesAreSteps =
    (v : SeatSide) (b : Body) → IsReadyToPublish v b
    → IsSeatStep v (Publish b.place) (bitmap_at v.count b.place) (λ found. bit_or found (2 ^ (b.place % 64))) (λ found. seat_published v b)

-- a retraction clears it
abbrev pub RetractsAreSteps : Type 0
RetractsAreSteps =
    (v : SeatSide) (a : ℕ) → seat_can_retract v a ≡ true
    → IsSeatStep v (Retract a) (bitmap_at v.count a) (λ found. bit_and found (18446744073709551615 - 2 ^ (a % 64))) (λ found. seat_retracted v a)

-- a mark sets the mark bit
abbrev pub MarksAreSteps : Type 0
MarksAreSteps =
    (v : SeatSide) (a : ℕ) → seat_can_mark v a ≡ true
    → IsSeatStep v (Mark a) a (word_with_mark true) (λ found. seat_marked v a (has_mark found))

-- the word is the header of the body at a, with the mark and without the traced bit
abbrev pub IsGreyHeader : SeatSide → ℕ → ℕ → Type 0
IsGreyHeader v a header =
    (b : Body) → Contains v.bodies b → b.place ≡ a → header ≡ header_word true true false b.ty b.size

-- the new word, where the expected one was found
abbrev pub exchanged : ℕ → ℕ → ℕ → ℕ
exchanged expected new found = if found == expected then new else found

-- a claim is a comparison with the grey header, which becomes a traced one
abbrev pub ClaimsAreSteps : Type 0
ClaimsAreSteps =
    (v : SeatSide) (a header : ℕ) → seat_can_claim v a ≡ true → IsGreyHeader v a header
    → IsSeatStep v (Header a true) a (exchanged header (word_with_traced true header)) (seat_claimed v a)

-- clearing an object's marks clears both bits
abbrev pub UnmarksAreSteps : Type 0
UnmarksAreSteps =
    (v : SeatSide) (a : ℕ) → seat_can_unmark v a ≡ true
    → IsSeatStep v (Header a false) a (λ found. word_with_traced false (word_with_mark false found)) (λ found. seat_unmarked v a)

-- marking begins with the stop word 0
abbrev pub BeginsAreSteps : Type 0
BeginsAreSteps =
    (v : SeatSide) (roots : List ℕ) → seat_can_begin v ≡ true
    → IsSeatStep v (Stop false roots) (stop_at v.count) (λ found. 0) (λ found. seat_begun v roots)

-- marking ends where it goes on and no view is lent
abbrev pub seat_ends : SeatSide → Bool
seat_ends v = v.on && (v.lent == 0)

-- the stop word 1 tells markers to stop, and ends marking where no view is lent
abbrev pub seat_stopped : SeatSide → MutatorView
seat_stopped v = if seat_ends v then seat_ended v else v.mutator

-- setting the stop word to 1 is one step, whether it ends marking or not
abbrev pub StopsAreSteps : Type 0
StopsAreSteps =
    (v : SeatSide) (roots : List ℕ) → (seat_ends v ≡ true → seat_can_end v ≡ true)
    → IsSeatStep v (Stop true roots) (stop_at v.count) (λ found. 1) (λ found. seat_stopped v)
