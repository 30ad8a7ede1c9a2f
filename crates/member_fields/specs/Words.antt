-- The field words of an object, each named by its offset from the object's place.
use Rattle.std.specs.Prelude.{◌≡◌, ℕ, ◌+◌, ◌-◌, ◌<◌, ◌≤◌, ◌==◌, Bool, true, map, if◌then◌else◌, slice_index, slice_set, Contains}
use Rattle.gc_graph.specs.declared.kind.Kind.{Kind}
use Rattle.gc_graph.specs.declared.kind.Kind.TheVariants.{Pair}
use Rattle.object_headers.specs.Offsets.{first_field}
use Rattle.marker_core.specs.declared.states.Body.{Body}
use Rattle.page_words.specs.Bodies.{IsKeyWord, kind_in}
use Rattle.page_words.specs.Seat.{SeatView, with_bodies}

-- the object at `holder` has a field word at this offset, and the kind of the word passes the test
pub record HasFieldWord (is_so : Kind → Bool) (v : SeatView) (holder word : ℕ) : Type 0 where
  pub body : Body
  pub there : Contains v.bodies body
  pub place : body.place ≡ holder
  pub first : first_field ≤ word
  pub last : word < body.size
  pub kind : is_so (kind_in v.types body (word - first_field)) ≡ true

-- the same, whatever its kind
abbrev pub HasWordOfSomeKind : SeatView → ℕ → ℕ → Type 0
HasWordOfSomeKind v holder word = (is_so : Kind → Bool) × HasFieldWord is_so v holder word

-- the same, of a kind that isn't that of pairs
abbrev pub HasLoneWord : SeatView → ℕ → ℕ → Type 0
HasLoneWord v holder word = (is_so : Kind → Bool) × (is_so Pair ≡ true → ⊥) × HasFieldWord is_so v holder word

-- the object at `holder` has a pair whose key is the word at this offset; its value is the next word
pub record HasPair (v : SeatView) (holder word : ℕ) : Type 0 where
  pub body : Body
  pub there : Contains v.bodies body
  pub place : body.place ≡ holder
  pub first : first_field ≤ word
  pub last : word + 1 < body.size
  pub key : IsKeyWord v.types body (word - first_field)

-- w is what the word at this offset of the object at `holder` holds
abbrev pub IsWordIn : SeatView → ℕ → ℕ → ℕ → Type 0
IsWordIn v holder word w = (b : Body) → Contains v.bodies b → b.place ≡ holder → w ≡ slice_index b.fields (word - first_field)

-- the body, with w in its word at this offset where it is the one at `holder`
abbrev pub with_word_in : ℕ → ℕ → ℕ → Body → Body
with_word_in holder word w b = if b.place == holder then record b { fields = slice_set b.fields (word - first_field) w } else b

-- the word at this offset of the object at `holder` was written, and no other
abbrev pub written : SeatView → ℕ → ℕ → ℕ → SeatView
written v holder word w = with_bodies v (map (with_word_in holder word w) v.bodies)

-- both words of the pair whose key is at this offset were written, and no other
abbrev pub pair_written : SeatView → ℕ → ℕ → ℕ → ℕ → SeatView
pair_written v holder word key value = written (written v holder (word + 1) value) holder word key
