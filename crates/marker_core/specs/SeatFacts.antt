-- What a seat of the mutator may rely on, whatever the markers do: what a word that it finds tells, and what is true of its view.
use Rattle.std.specs.Prelude.{◌≡◌, ◌⊎◌, ℕ, ◌+◌, ◌%◌, ◌<◌, ◌≤◌, Bool, true, false, List, [], length, Some, None, slice_index, Contains}
use Rattle.object_headers.specs.Offsets.{serial_offset, first_field}
use Rattle.object_headers.specs.Layout.{header_word}
use Rattle.marker_core.specs.declared.states.Body.{Body}
use Rattle.marker_core.specs.declared.states.Hand.{Hand}
use Rattle.marker_core.specs.declared.states.MarkerView.{MarkerView}
use Rattle.marker_core.specs.declared.states.Part.TheVariants.{Mark, Key}
use Rattle.marker_core.specs.declared.states.Role.TheVariants.{StrongWord, KeyWord}
use Rattle.marker_core.specs.Layout.{bitmap_at, bit_is_set, has_mark, has_traced}
use Rattle.marker_core.specs.Bodies.{word_in, role_in, is_place, in_body, holds, place_named}
use Rattle.marker_core.specs.Closed.{IsClosedOver}
use Rattle.marker_core.specs.Views.{times}
use Rattle.marker_core.specs.Seats.{SeatSide, core_of}
use Rattle.marker_core.specs.Matching.{AreTypes, AreWhole, LieApart, SerialsDiffer, ReferencesNameBodies}
use Rattle.marker_core.specs.Tracing.{IsPairAt}
use Rattle.marker_core.specs.Core.{IsCoreOk}

-- ---- what a word tells

-- a bit that the seat set is set; where no view is lent, no other one is
pub record IsBitTold (lent : ℕ) (own bit : Bool) : Type 0 where
  pub set : own ≡ true → bit ≡ true
  pub alone : lent ≡ 0 → bit ≡ own

-- w is the header of the body at a: its type and size are told, its mark and traced bit as far as the seat set them or no view
-- is lent, and what has the mark may be kept
pub record IsHeaderAt (v : SeatSide) (a w : ℕ) : Type 0 where
  pub word : (b : Body) → Contains v.bodies b → b.place ≡ a → w ≡ header_word true (has_mark w) (has_traced w) b.ty b.size
  pub mark : IsBitTold v.lent (holds v.marked a) (has_mark w)
  pub traced : IsBitTold v.lent (holds v.traced a) (has_traced w)
  pub traced_is_marked : has_traced w ≡ true → has_mark w ≡ true
  pub may : v.on ≡ true → has_mark w ≡ true → holds v.may a ≡ true

-- w may be found at a
pub record MayBeFound (v : SeatSide) (a w : ℕ) : Type 0 where
  pub header : is_place v.bodies a ≡ true → IsHeaderAt v a w
  pub serial : (b : Body) → Contains v.bodies b → b.place + serial_offset ≡ a → w ≡ b.serial
  pub field : (b : Body) (i : ℕ) → Contains v.bodies b → i < length b.fields → b.place + first_field + i ≡ a → w ≡ word_in b i
  pub filled : (f : ℕ × ℕ) → Contains v.filled f → f.0 ≡ a → w ≡ f.1
  pub start : (p : ℕ) → p < v.count → bitmap_at v.count p ≡ a → bit_is_set w (p % 64) ≡ is_place v.bodies p

-- each word of a state is one that the seat may find there
abbrev pub WordsMayBeFound : Type 0
WordsMayBeFound =
    (v : SeatSide) (words : List ℕ) (markers : List MarkerView) (a : ℕ) → IsCoreOk (core_of v words markers)
    → MayBeFound v a (slice_index words a)

-- ---- what a view tells

-- what is in hand is an object that may be kept, and so is what was loaded to be marked; a key in hand is an object
pub record IsHandOf (v : SeatSide) (h : Hand) : Type 0 where
  pub holder : (is_place v.bodies h.place ≡ true) × (holds v.may h.place ≡ true)
  pub target : (t : ℕ) → h.part ≡ Mark t → (is_place v.bodies t ≡ true) × (holds v.may t ≡ true)
  pub key : (k : ℕ) → h.part ≡ Key k → is_place v.bodies k ≡ true

-- what the strong words of traced bodies name is marked
abbrev pub TracedTargetsMarked : SeatSide → Type 0
TracedTargetsMarked v =
    (b : Body) (i : ℕ) → Contains v.bodies b → holds v.traced b.place ≡ true → role_in v.types b i ≡ StrongWord → 0 < word_in b i
    → holds v.marked (place_named (word_in b i)) ≡ true

-- each pair of a traced body has a null key, or a value that is null or marked, or was noted
abbrev pub TracedPairsNoted : SeatSide → Type 0
TracedPairsNoted v =
    (b : Body) (i : ℕ) → Contains v.bodies b → holds v.traced b.place ≡ true → role_in v.types b i ≡ KeyWord → 0 < word_in b i
    → 0 < word_in b (i + 1) → (holds v.marked (place_named (word_in b (i + 1))) ≡ true) ⊎ Contains v.noted (b.place, i + first_field)

-- while marking goes on nothing is dead, what may be kept are bodies, it is closed and has what is marked, and what is in hand
-- or waits for its mark is an object that may be kept; what was noted are pairs of bodies; where no view is lent, what was found
-- traced the mutator traced, and where there is none in hand or waiting either, the strong targets of traced bodies are marked,
-- and their pairs accounted for
pub record IsMarking (v : SeatSide) : Type 0 where
  pub no_dead : v.dead ≡ []
  pub are_places : (a : ℕ) → holds v.may a ≡ true → is_place v.bodies a ≡ true
  pub closed : IsClosedOver v.types v.bodies (holds v.may)
  pub marked_in : (a : ℕ) → holds v.marked a ≡ true → holds v.may a ≡ true
  pub hand : (h : Hand) → v.hand ≡ Some h → IsHandOf v h
  pub pending_in : (t : ℕ) → v.pending ≡ Some t → holds v.may t ≡ true
  pub noted_are_pairs : (p offset : ℕ) → Contains v.noted (p, offset) → IsPairAt v.types v.bodies p offset
  pub done_are_traced : v.lent ≡ 0 → (a : ℕ) → holds v.done a ≡ true → holds v.traced a ≡ true
  pub traced_targets : v.lent ≡ 0 → v.hand ≡ None → v.pending ≡ None → TracedTargetsMarked v
  pub traced_pairs : v.lent ≡ 0 → v.hand ≡ None → v.pending ≡ None → TracedPairsNoted v

-- while no marking goes on nothing waits for its mark, nothing is in hand, and no view is lent
pub record IsAtRest (v : SeatSide) : Type 0 where
  pub no_pending : v.pending ≡ None
  pub no_hand : v.hand ≡ None
  pub none_lent : v.lent ≡ 0

-- what is true of the view in every state: bodies are whole and lie apart, with serial numbers that differ; filled words lie
-- outside them; a reference of a body that isn't dead is null or names a body; what is marked, traced or dead is a body's place,
-- and no place is traced twice
pub record IsViewOk (v : SeatSide) : Type 0 where
  pub are_types : AreTypes v.types
  pub bodies_are_whole : AreWhole v.count v.types v.bodies
  pub bodies_lie_apart : LieApart v.bodies
  pub serials_differ : SerialsDiffer v.bodies
  pub filled_outside : (f : ℕ × ℕ) → Contains v.filled f → (f.0 < v.count) × (in_body v.bodies f.0 ≡ false)
  pub references_name_bodies : ReferencesNameBodies v.types v.bodies v.dead
  pub marked_are_bodies : (a : ℕ) → holds v.marked a ≡ true → is_place v.bodies a ≡ true
  pub traced_are_bodies : (a : ℕ) → holds v.traced a ≡ true → is_place v.bodies a ≡ true
  pub traced_once : (a : ℕ) → times a v.traced ≤ 1
  pub traced_are_marked : v.lent ≡ 0 → (a : ℕ) → holds v.traced a ≡ true → holds v.marked a ≡ true
  pub dead_are_unmarked : (a : ℕ) → holds v.dead a ≡ true → (is_place v.bodies a ≡ true) × (holds v.marked a ≡ false)
  pub marking : v.on ≡ true → IsMarking v
  pub at_rest : v.on ≡ false → IsAtRest v

-- the view of each state is such a one
abbrev pub ViewsAreOk : Type 0
ViewsAreOk = (v : SeatSide) (words : List ℕ) (markers : List MarkerView) → IsCoreOk (core_of v words markers) → IsViewOk v
