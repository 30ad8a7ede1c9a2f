-- The steps of clearing: one body, and one handle of it.
use Rattle.std.specs.Prelude.{◌≡◌, ℕ, ◌+◌, ◌-◌, ◌/◌, ◌≤◌, ◌==◌, Bool, true, List, map, slice_index, slice_set, if◌then◌else◌, Contains}
use Rattle.gc_graph.specs.declared.kind.Kind.{Kind}
use Rattle.gc_graph.specs.declared.kind.Kind.TheVariants.{Weak, Pair}
use Rattle.gc_graph.specs.State.{ObjectType}
use Rattle.gc_graph.specs.Fields.{words_of_kind}
use Rattle.object_headers.specs.Offsets.{first_field}
use Rattle.type_table.specs.Types.{declared_kinds, offsets_of_kind}
use Rattle.type_table.specs.Layouts.{kinds_of_words}
use Rattle.marker_core.specs.Bodies.{IsReference, holds}
use Rattle.marker_core.specs.declared.states.Body.{Body}
use Rattle.page_words.specs.Bodies.{kind_in}
use Rattle.page_words.specs.Seat.{SeatView, block_words, with_bodies}
use Rattle.member_fields.specs.Words.{IsWordIn}
use Rattle.weak_clearing.specs.declared.weak_handles.WeakHandles.{WeakHandles}
use Rattle.weak_clearing.specs.declared.weak_handles.WeakHandles.TheVariants.{Fields, Pairs}
use Rattle.weak_clearing.specs.Clearing.{names_unmarked, clear_words, clear_pair_words}

-- one of the bodies is marked, and has the place and the type
abbrev pub IsMarkedOf : SeatView → ℕ → ℕ → Type 0
IsMarkedOf v a ty = (b : Body) × Contains v.bodies b × (b.place ≡ a) × (b.ty ≡ ty) × (holds v.marked a ≡ true)

-- the kind of the fields that are such handles
abbrev pub kind_of_handles : WeakHandles → Kind
kind_of_handles Fields = Weak
kind_of_handles Pairs = Pair

-- the object at `holder` has such a handle at this offset: a weak field's word, or the key of a pair and its value after it.
-- That word is null or refers to a body
pub record HasHandle (handles : WeakHandles) (v : SeatView) (holder word : ℕ) : Type 0 where
  pub body : Body
  pub there : Contains v.bodies body
  pub place : body.place ≡ holder
  pub first : first_field ≤ word
  pub last : word + words_of_kind (kind_of_handles handles) ≤ body.size
  pub told : Contains (offsets_of_kind (kind_of_handles handles) (declared_kinds v.types body.ty)) word
  pub kind : kind_in v.types body (word - first_field) ≡ kind_of_handles handles
  pub reference : IsReference v.bodies (slice_index body.fields (word - first_field))

-- the answer is whether what the word at this offset of the object at `holder` holds names a body that is not marked
abbrev pub NamesUnmarked : SeatView → ℕ → ℕ → Bool → Type 0
NamesUnmarked v holder word answer = (w : ℕ) × IsWordIn v holder word w × (answer ≡ names_unmarked v.marked w)

-- the words of the handle whose first one has the number i are null
abbrev pub nulled : WeakHandles → ℕ → List ℕ → List ℕ
nulled Fields i words = slice_set words i 0
nulled Pairs i words = slice_set (slice_set words (i + 1) 0) i 0

-- so they are, where the first one names a body that is not marked
abbrev pub words_cleared_at : WeakHandles → List ℕ → ℕ → List ℕ → List ℕ
words_cleared_at handles marked i words = if names_unmarked marked (slice_index words i) then nulled handles i words else words

-- the body, with the handle at this offset cleared where it is the one at `holder`
abbrev pub clear_handle_in : WeakHandles → List ℕ → ℕ → ℕ → Body → Body
clear_handle_in handles marked holder word b =
    if b.place == holder then record b { fields = words_cleared_at handles marked (word - first_field) b.fields } else b

-- the handle at this offset of the object at `holder` was cleared
abbrev pub handle_cleared : WeakHandles → SeatView → ℕ → ℕ → SeatView
handle_cleared handles v holder word = with_bodies v (map (clear_handle_in handles v.marked holder word) v.bodies)

-- the words of a body, where these are the kinds of its fields, with the handles among them cleared
abbrev pub clear_words_of : WeakHandles → List ℕ → List Kind → List ℕ → List ℕ
clear_words_of Fields marked kinds words = clear_words marked (kinds_of_words kinds) words
clear_words_of Pairs marked kinds words = clear_pair_words marked kinds words

-- the handles of a marked body are cleared, and a body that is not marked stays as it is
abbrev pub clear_handles : WeakHandles → List ObjectType → List ℕ → Body → Body
clear_handles handles types marked b =
    if holds marked b.place then record b { fields = clear_words_of handles marked (declared_kinds types b.ty) b.fields } else b

-- the handles of the body at a were cleared
abbrev pub body_cleared : WeakHandles → SeatView → ℕ → SeatView
body_cleared handles v a =
    with_bodies v (map (λ b. if b.place == a then clear_handles handles v.types v.marked b else b) v.bodies)

-- the handles of the bodies that start in the block were cleared
abbrev pub block_cleared : WeakHandles → SeatView → ℕ → SeatView
block_cleared handles v block =
    with_bodies v (map (λ b. if b.place / block_words == block then clear_handles handles v.types v.marked b else b) v.bodies)

-- the handles of each body were cleared
abbrev pub all_cleared : WeakHandles → SeatView → SeatView
all_cleared handles v = with_bodies v (map (clear_handles handles v.types v.marked) v.bodies)
