-- The steps of a marker.
use Rattle.std.specs.Prelude.{ℕ, ◌==◌, ◌&&◌, ◌||◌, not, nat_lt, Bool, true, false, List, [], ◌∷◌, ◌++◌, if◌then◌else◌, Option, Some, None, slice_index, slice_set}
use Rattle.std.specs.Option.{is_none}
use Rattle.object_headers.specs.Layout.{word_with_mark, word_with_traced}
use Rattle.marker_core.specs.declared.states.CoreState.{CoreState}
use Rattle.marker_core.specs.declared.states.MarkerView.{MarkerView}
use Rattle.marker_core.specs.Layout.{stop_at, is_start, has_mark, has_traced}
use Rattle.marker_core.specs.Bodies.{holds, place_named}
use Rattle.marker_core.specs.Views.{view_at}
use Rattle.marker_core.specs.Hands.{hand_claimed, hand_read, hand_looked, hand_moved, wants_word, wants_key, wants_mark, wants, noted_pair, each_hand}
use Rattle.marker_core.specs.SeatSteps.{is_grey}

-- the marker's view is another
abbrev pub with_marker_view : CoreState → ℕ → MarkerView → CoreState
with_marker_view s marker v = record s { markers = slice_set s.markers marker v }

-- ---- a start bit is read

-- a view that is not spent may read the start bit of each address of the heap
abbrev pub can_read_bit : CoreState → ℕ → ℕ → Bool
can_read_bit s marker a = not (view_at s.markers marker).spent && nat_lt a s.count

-- a place whose bit is set is known from then on, and any other is missed
abbrev pub bit_read : CoreState → ℕ → ℕ → CoreState
bit_read s marker a =
    let v = view_at s.markers marker in
    let set = is_start s.count s.words a in
    with_marker_view s marker (record v {
      known = if set then v.known ++ a ∷ [] else v.known;
      missed = if set then v.missed else v.missed ++ a ∷ [];
    })

-- ---- a header is read

-- only the headers of known places are read
abbrev pub can_look : CoreState → ℕ → ℕ → Bool
can_look s marker a = holds (view_at s.markers marker).known a

-- the header at a was read
abbrev pub looked : CoreState → ℕ → ℕ → CoreState
looked s marker a =
    let v = view_at s.markers marker in
    let header = slice_index s.words a in
    let key = wants (λ h. wants_key h.part a) v.hand in
    with_marker_view s marker (record v {
      hand = if key then each_hand (hand_looked s.types header) v.hand else v.hand;
      noted = if key then v.noted ++ noted_pair header v.hand else v.noted;
      done = if has_traced header then v.done ++ a ∷ [] else v.done;
      missed = if is_none v.hand && not (has_mark header) && not (has_traced header) then v.missed ++ a ∷ [] else v.missed;
      last = Some (a, header);
    })

-- ---- an object is claimed by the header that was read last

-- this header word was the last one that the view read, at a
abbrev pub is_last : Option (ℕ × ℕ) → ℕ → ℕ → Bool
is_last None a header = false
is_last (Some last) a header = (last.0 == a) && (last.1 == header)

-- a known place is claimed by an empty hand, where the header read last was grey
abbrev pub can_claim_as : CoreState → ℕ → ℕ → ℕ → Bool
can_claim_as s marker a header =
    let v = view_at s.markers marker in
    holds v.known a && is_none v.hand && is_last v.last a header && is_grey header

-- where the header is still the one that was read, the object is traced and in the hand
abbrev pub core_claimed_as : CoreState → ℕ → ℕ → ℕ → CoreState
core_claimed_as s marker a header =
    let v = view_at s.markers marker in
    let found = slice_index s.words a in
    if found == header
    then record s {
      words = slice_set s.words a (word_with_traced true found);
      markers = slice_set s.markers marker (record v { traced = v.traced ++ a ∷ []; hand = hand_claimed s.types a found });
    }
    else with_marker_view s marker (record v {
      done = if has_traced found then v.done ++ a ∷ [] else v.done;
      missed = if has_traced found then v.missed else v.missed ++ a ∷ [];
    })

-- ---- a field word of the object in hand is read

-- the hand wants the word at a
abbrev pub can_read_field : CoreState → ℕ → ℕ → Bool
can_read_field s marker a = wants (λ h. wants_word h h.part a) (view_at s.markers marker).hand

-- what was read is the place of an object
abbrev pub known_by : ℕ → List ℕ
known_by w = if w == 0 then [] else (place_named w) ∷ []

-- the hand has read the word at a
abbrev pub core_field_read : CoreState → ℕ → ℕ → CoreState
core_field_read s marker a =
    let v = view_at s.markers marker in
    let w = slice_index s.words a in
    with_marker_view s marker (record v { hand = each_hand (hand_read s.types w) v.hand; known = v.known ++ known_by w })

-- ---- the target in hand is marked

-- the hand wants the object at a to be marked
abbrev pub can_mark_as : CoreState → ℕ → ℕ → Bool
can_mark_as s marker a = wants (λ h. wants_mark h.part a) (view_at s.markers marker).hand

-- the object at a is marked, and the hand moves on
abbrev pub core_marked_as : CoreState → ℕ → ℕ → CoreState
core_marked_as s marker a =
    let v = view_at s.markers marker in
    let header = slice_index s.words a in
    record s {
      words = slice_set s.words a (word_with_mark true header);
      markers = slice_set s.markers marker (record v {
        marked = if has_mark header then v.marked else v.marked ++ a ∷ [];
        hand = each_hand (hand_moved s.types) v.hand;
      });
    }

-- ---- the stop word is read

-- a view that is not spent may read the stop word
abbrev pub can_poll : CoreState → ℕ → Bool
can_poll s marker = not (view_at s.markers marker).spent

-- a view that has read the stop word as 1 is halted
abbrev pub polled : CoreState → ℕ → CoreState
polled s marker =
    let v = view_at s.markers marker in
    with_marker_view s marker (record v { halted = v.halted || (slice_index s.words (stop_at s.count) == 1) })
