-- The steps of the mutator that read and write words, on whole states: when each is allowed, and what it makes of the state. What
-- the mutator's own view says of each is in `SeatSteps`.
use Rattle.std.specs.Prelude.{ℕ, ◌+◌, ◌==◌, ◌&&◌, not, nat_le, Bool, true, false, List, if◌then◌else◌, slice_index, slice_set}
use Rattle.std.specs.List.{list_any, list_all, range_with_len, slice_range}
use Rattle.object_headers.specs.Offsets.{serial_offset, first_field}
use Rattle.object_headers.specs.Layout.{word_with_mark, word_with_traced}
use Rattle.marker_core.specs.declared.states.Body.{Body}
use Rattle.marker_core.specs.declared.states.CoreState.{CoreState}
use Rattle.marker_core.specs.declared.states.Why.{Why}
use Rattle.marker_core.specs.Layout.{with_start, without_start, is_marked, type_in, size_in}
use Rattle.marker_core.specs.Bodies.{end_of}
use Rattle.marker_core.specs.Seats.{seat_of}
use Rattle.marker_core.specs.SeatSteps.{seat_can_load, seat_loaded, seat_can_fill, seat_filled, seat_can_store, seat_stored, overlaps, is_whole_object, is_new_serial, seat_published, seat_can_retract, seat_retracted, seat_can_mark, seat_marked, seat_can_claim, is_grey, seat_claimed, seat_can_unmark, seat_unmarked}

-- ---- load

-- the seat may load the word at a
abbrev pub can_load : CoreState → ℕ → Why → Bool
can_load s a why = seat_can_load (seat_of s) a why

-- the word at a was loaded
abbrev pub core_loaded : CoreState → ℕ → Why → CoreState
core_loaded s a why = record s { mutator = seat_loaded (seat_of s) a why (slice_index s.words a) }

-- ---- fill

-- the seat may fill the word at a
abbrev pub can_fill : CoreState → ℕ → Bool
can_fill s a = seat_can_fill (seat_of s) a

-- the word at a was filled with w
abbrev pub core_filled : CoreState → ℕ → ℕ → CoreState
core_filled s a w = record s { words = slice_set s.words a w; mutator = seat_filled (seat_of s) a w }

-- ---- store

-- the seat may store w at a
abbrev pub can_store : CoreState → ℕ → ℕ → Bool
can_store s a w = seat_can_store (seat_of s) a w

-- w was stored at a
abbrev pub core_stored : CoreState → ℕ → ℕ → CoreState
core_stored s a w = record s { words = slice_set s.words a w; mutator = seat_stored (seat_of s) a w }

-- ---- publish

-- the object that the words from a on tell of
abbrev pub body_at : List ℕ → ℕ → Body
body_at words a =
    let header = slice_index words a in
    record {
      place = a;
      ty = type_in header;
      size = size_in header;
      serial = slice_index words (a + serial_offset);
      fields = slice_range words (a + first_field) (a + size_in header);
    }

-- its words are filled, and no other body has one of them
abbrev pub is_in_free_words : CoreState → Body → Bool
is_in_free_words s b =
    nat_le (end_of b) s.count
    && not (list_any (overlaps b) s.mutator.bodies)
    && list_all
    (λ i. list_any (λ f. (f.0 == b.place + i) && (f.1 == slice_index s.words (b.place + i))) s.mutator.filled)
    (range_with_len 0 b.size)

-- a whole object with a new serial number stands at a in free words
abbrev pub can_publish : CoreState → ℕ → Bool
can_publish s a =
    let b = body_at s.words a in
    is_whole_object s.types (slice_index s.words a) b && is_in_free_words s b && is_new_serial s.mutator.bodies b.serial

-- the object at a was published
abbrev pub core_published : CoreState → ℕ → CoreState
core_published s a =
    record s { words = with_start s.count s.words a; mutator = seat_published (seat_of s) (body_at s.words a) }

-- ---- retract

-- the seat may retract the object at a
abbrev pub can_retract : CoreState → ℕ → Bool
can_retract s a = seat_can_retract (seat_of s) a

-- the dead object at a was retracted
abbrev pub core_retracted : CoreState → ℕ → CoreState
core_retracted s a = record s { words = without_start s.count s.words a; mutator = seat_retracted (seat_of s) a }

-- ---- mark

-- the seat may mark the object at a
abbrev pub can_mark : CoreState → ℕ → Bool
can_mark s a = seat_can_mark (seat_of s) a

-- the object at a was marked
abbrev pub marked : CoreState → ℕ → CoreState
marked s a = record s {
  words = slice_set s.words a (word_with_mark true (slice_index s.words a));
  mutator = seat_marked (seat_of s) a (is_marked s.words a);
}

-- ---- claim and unmark

-- the seat may claim the object at a
abbrev pub can_claim : CoreState → ℕ → Bool
can_claim s a = seat_can_claim (seat_of s) a

-- the object at a was claimed, if it was grey
abbrev pub claimed : CoreState → ℕ → CoreState
claimed s a =
    let header = slice_index s.words a in
    record s {
      words = if is_grey header then slice_set s.words a (word_with_traced true header) else s.words;
      mutator = seat_claimed (seat_of s) a header;
    }

-- the seat may clear the marks of the object at a
abbrev pub can_unmark : CoreState → ℕ → Bool
can_unmark s a = seat_can_unmark (seat_of s) a

-- the header at a has neither mark nor traced bit
abbrev pub unmarked : CoreState → ℕ → CoreState
unmarked s a = record s {
  words = slice_set s.words a (word_with_traced false (word_with_mark false (slice_index s.words a)));
  mutator = seat_unmarked (seat_of s) a;
}
