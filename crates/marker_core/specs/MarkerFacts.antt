-- What a seat of a marker may rely on, whatever the mutator and the other markers do: what a word that it finds tells, and what
-- is true of its view.
use Rattle.std.specs.Prelude.{◌≡◌, ◌⊎◌, ℕ, ◌+◌, ◌*◌, ◌/◌, ◌%◌, ◌^◌, ◌<◌, ◌≤◌, true, false, List, length, Some, slice_index}
use Rattle.object_headers.specs.Offsets.{first_field}
use Rattle.object_headers.specs.Layout.{header_word}
use Rattle.marker_core.specs.declared.states.Hand.{Hand}
use Rattle.marker_core.specs.declared.states.MarkerView.{MarkerView}
use Rattle.marker_core.specs.declared.states.MutatorView.{MutatorView}
use Rattle.marker_core.specs.declared.states.Part.TheVariants.{Mark, Key, Value}
use Rattle.marker_core.specs.declared.states.Role.TheVariants.{KeyWord}
use Rattle.marker_core.specs.Layout.{bitmap_at, bit_is_set, stop_at, has_mark, has_traced}
use Rattle.marker_core.specs.Bodies.{field_word_count, is_traced_role, kinds_of_type, holds, place_named}
use Rattle.marker_core.specs.Hands.{role_at_hand}
use Rattle.marker_core.specs.Views.{view_at}
use Rattle.marker_core.specs.Seats.{SeatSide, core_of}
use Rattle.marker_core.specs.MarkerSeats.{MarkerSide, seat_beside, marker_wants_word}
use Rattle.marker_core.specs.Matching.{AreTypes}
use Rattle.marker_core.specs.Core.{IsCoreOk}

-- ---- what a word tells

-- w is the header of an object at a, of one of the types and with room for its fields, which lies in the heap; what is traced is
-- marked; and where the object is in hand, its type is that of the hand
pub record IsObjectHeader (v : MarkerSide) (a w : ℕ) : Type 0 where
  pub ty : ℕ
  pub size : ℕ
  pub word : w ≡ header_word true (has_mark w) (has_traced w) ty size
  pub known_type : ty < length v.types
  pub room : 2 + field_word_count (kinds_of_type v.types ty) ≤ size
  pub small : size < 2 ^ 26
  pub inside : a + size ≤ v.count
  pub traced_is_marked : has_traced w ≡ true → has_mark w ≡ true
  pub in_hand : (h : Hand) → v.hand ≡ Some h → h.place ≡ a → h.ty ≡ ty

-- the marker may find w at a: a known place has an object's header and its start bit; bits that this marker set are set, and so is
-- the traced bit of what it found traced; the word that the hand wants is null or names a place in the heap; the stop word is 1
-- where this marker has read it so
pub record MarkerMayFind (v : MarkerSide) (a w : ℕ) : Type 0 where
  pub header : holds v.known a ≡ true → IsObjectHeader v a w
  pub marked : holds v.marked a ≡ true → has_mark w ≡ true
  pub traced : holds v.traced a ≡ true → has_traced w ≡ true
  pub done : holds v.done a ≡ true → has_traced w ≡ true
  pub start : (p : ℕ) → holds v.known p ≡ true → bitmap_at v.count p ≡ a → bit_is_set w (p % 64) ≡ true
  pub reference : marker_wants_word v a ≡ true → (w ≡ 0) ⊎ ((0 < w) × (place_named w + 2 ≤ v.count))
  pub stop : a ≡ stop_at v.count → v.halted ≡ true → w ≡ 1

-- each word of a state is one that the marker may find there
abbrev pub MarkerWordsMayBeFound : Type 0
MarkerWordsMayBeFound =
    (v : MarkerSide) (m : MutatorView) (words : List ℕ) (markers : List MarkerView) (number a : ℕ)
    → IsCoreOk (core_of (seat_beside v m) words markers) → view_at markers number ≡ v.marker → v.marker.spent ≡ false
    → MarkerMayFind v a (slice_index words a)

-- ---- what a view tells

-- the hand is at a strong word or a pair of its type, whose fields lie in the heap; a target and a key in it are places there, and
-- it has a key or the value of a pair at a pair alone
pub record IsMarkerHand (v : MarkerSide) (h : Hand) : Type 0 where
  pub known_type : h.ty < length v.types
  pub past_serial : first_field ≤ h.next
  pub at_hand : is_traced_role (role_at_hand v.types h) ≡ true
  pub within : h.next < 2 + field_word_count (kinds_of_type v.types h.ty)
  pub pair_within : role_at_hand v.types h ≡ KeyWord → h.next + 1 < 2 + field_word_count (kinds_of_type v.types h.ty)
  pub inside : h.place + (2 + field_word_count (kinds_of_type v.types h.ty)) ≤ v.count
  pub target : (t : ℕ) → h.part ≡ Mark t → t + 2 ≤ v.count
  pub key : (k : ℕ) → h.part ≡ Key k → (k + 2 ≤ v.count) × (role_at_hand v.types h ≡ KeyWord)
  pub value : h.part ≡ Value → role_at_hand v.types h ≡ KeyWord

-- what is true of the view of a marker in every state: what is known, marked or traced is a place in the heap, and what is in hand
-- is an object there
pub record IsMarkerOk (v : MarkerSide) : Type 0 where
  pub are_types : AreTypes v.types
  pub small : v.count < 2 ^ 32
  pub bits : v.count ≡ 64 * (v.count / 64)
  pub known_below : (a : ℕ) → holds v.known a ≡ true → a + 2 ≤ v.count
  pub marked_below : (a : ℕ) → holds v.marked a ≡ true → a + 2 ≤ v.count
  pub traced_below : (a : ℕ) → holds v.traced a ≡ true → a + 2 ≤ v.count
  pub hand_is : (h : Hand) → v.hand ≡ Some h → IsMarkerHand v h

-- the view of each marker in each state is such a one
abbrev pub MarkersAreOk : Type 0
MarkersAreOk =
    (v : MarkerSide) (m : MutatorView) (words : List ℕ) (markers : List MarkerView) (number : ℕ)
    → IsCoreOk (core_of (seat_beside v m) words markers) → view_at markers number ≡ v.marker → v.marker.spent ≡ false → IsMarkerOk v

-- ---- what a lent view tells of the mutator's

-- while a view is lent marking goes on, and the mutator counts it
abbrev pub LentWhileOn : Type 0
LentWhileOn =
    (v : SeatSide) (words : List ℕ) (markers : List MarkerView) (number : ℕ) → IsCoreOk (core_of v words markers)
    → (view_at markers number).spent ≡ false → (v.on ≡ true) × (0 < v.lent)
