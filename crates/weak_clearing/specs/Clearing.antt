-- What weak clearing leaves of the objects, as the words of each tell them (`include/cppgc/member.h`).
use Rattle.std.specs.Prelude.{◌≡◌, ℕ, zero, suc, ◌<◌, ◌≤◌, Bool, true, false, not, List, [], ◌∷◌, length, map, slice_index, if◌then◌else◌, Contains}
use Rattle.gc_graph.specs.declared.kind.Kind.{Kind}
use Rattle.gc_graph.specs.declared.kind.Kind.TheVariants.{Strong, Weak, Pair, Plain}
use Rattle.gc_graph.specs.Fields.{field_words}
use Rattle.gc_graph.specs.State.{ObjectType}
use Rattle.type_table.specs.Types.{declared_kinds}
use Rattle.type_table.specs.Layouts.{kinds_of_words}
use Rattle.marker_core.specs.Bodies.{IsReference, holds}
use Rattle.marker_core.specs.declared.states.Body.{Body}
use Rattle.page_words.specs.Bodies.{kind_in}
use Rattle.page_words.specs.Seat.{SeatView, with_bodies}

-- the body is of one of the types and has a word for each declared field, and each of its words of fields of the kind is null
-- or refers to a body
pub record HasReferencesOf (kind : Kind) (types : List ObjectType) (bodies : List Body) (b : Body) : Type 0 where
  pub typed : b.ty < length types
  pub whole : field_words (declared_kinds types b.ty) ≤ length b.fields
  pub named : (i : ℕ) → kind_in types b i ≡ kind → IsReference bodies (slice_index b.fields i)

-- so has each marked body
abbrev pub MarkedHaveReferencesOf : Kind → SeatView → Type 0
MarkedHaveReferencesOf kind v =
    (b : Body) → Contains v.bodies b → holds v.marked b.place ≡ true → HasReferencesOf kind v.types v.bodies b

-- each weak word of a marked body is null or refers to a body
abbrev pub MarkedHaveWeakReferences : SeatView → Type 0
MarkedHaveWeakReferences v = MarkedHaveReferencesOf Weak v

-- whether a reference names a body that is not marked
abbrev pub names_unmarked : List ℕ → ℕ → Bool
names_unmarked marked zero = false
names_unmarked marked (suc place) = not (holds marked place)

-- a weak word becomes null where it names a body that is not marked
abbrev pub clear_weak : List ℕ → ℕ → ℕ
clear_weak marked w = if names_unmarked marked w then 0 else w

-- of the words of a field, by its kind, only a weak one's is cleared
abbrev pub clear_word : List ℕ → Kind → ℕ → ℕ
clear_word marked Weak w = clear_weak marked w
clear_word marked Strong w = w
clear_word marked Pair w = w
clear_word marked Plain w = w

-- the words of a body, where these are the kinds of the first of them; those after them are plain, and stay
abbrev pub clear_words : List ℕ → List Kind → List ℕ → List ℕ
clear_words marked [] words = words
clear_words marked (kind ∷ kinds) [] = []
clear_words marked (kind ∷ kinds) (w ∷ words) = clear_word marked kind w ∷ clear_words marked kinds words

-- the weak words of a marked body are cleared, and a body that is not marked stays as it is
abbrev pub clear_body : List ObjectType → List ℕ → Body → Body
clear_body types marked b =
    if holds marked b.place then record b { fields = clear_words marked (kinds_of_words (declared_kinds types b.ty)) b.fields } else b

-- each body was cleared, and nothing else changed
abbrev pub with_weak_cleared : SeatView → SeatView
with_weak_cleared v = with_bodies v (map (clear_body v.types v.marked) v.bodies)

-- ---- pairs (`include/cppgc/ephemeron-pair.h`)

-- the words of a body, where these are the kinds of its fields: both words of a pair become null where its key names a body
-- that is not marked, and every other word stays
abbrev pub clear_pair_words : List ℕ → List Kind → List ℕ → List ℕ
clear_pair_words marked [] words = words
clear_pair_words marked (kind ∷ kinds) [] = []
clear_pair_words marked (Strong ∷ kinds) (w ∷ words) = w ∷ clear_pair_words marked kinds words
clear_pair_words marked (Weak ∷ kinds) (w ∷ words) = w ∷ clear_pair_words marked kinds words
clear_pair_words marked (Plain ∷ kinds) (w ∷ words) = w ∷ clear_pair_words marked kinds words
clear_pair_words marked (Pair ∷ kinds) (key ∷ []) = key ∷ []
clear_pair_words marked (Pair ∷ kinds) (key ∷ value ∷ words) =
    (if names_unmarked marked key then 0 else key) ∷ (if names_unmarked marked key then 0 else value) ∷ clear_pair_words marked kinds words

-- the pairs of a marked body are cleared, and a body that is not marked stays as it is
abbrev pub clear_pairs_of : List ObjectType → List ℕ → Body → Body
clear_pairs_of types marked b =
    if holds marked b.place then record b { fields = clear_pair_words marked (declared_kinds types b.ty) b.fields } else b

-- each body's pairs were cleared, and nothing else changed
abbrev pub with_pairs_cleared : SeatView → SeatView
with_pairs_cleared v = with_bodies v (map (clear_pairs_of v.types v.marked) v.bodies)
