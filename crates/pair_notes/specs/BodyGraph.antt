-- The words of bodies by the fields of their types, and the objects that bodies stand for.
use Rattle.std.specs.Prelude.{◌≡◌, ℕ, zero, suc, ◌+◌, ◌-◌, ◌<◌, ◌≤◌, List, [], ◌∷◌, length, map, slice_index, slice_index_or, Contains, All, ⊤}
use Rattle.gc_graph.specs.declared.kind.Kind.{Kind}
use Rattle.gc_graph.specs.declared.kind.Kind.TheVariants.{Strong, Weak, Pair, Plain}
use Rattle.gc_graph.specs.declared.kind.Value.{Value}
use Rattle.gc_graph.specs.declared.kind.Value.TheVariants.{Null, Ref, Word}
use Rattle.gc_graph.specs.Graph.{Object}
use Rattle.gc_graph.specs.State.{ObjectType, no_type}
use Rattle.gc_graph.specs.Fields.{field_words}
use Rattle.object_headers.specs.Offsets.{first_field}
use Rattle.page_words.specs.Types.{declared_kinds, offsets_of_kind}
use Rattle.page_words.specs.MachineBodies.{IsReference}
use Rattle.page_words.specs.Body.{Body}

-- no two bodies have one place
abbrev pub PlacesDiffer : List Body → Type 0
PlacesDiffer [] = ⊤
PlacesDiffer (b ∷ bodies) = All (λ c. c.place ≡ b.place → ⊥) bodies × PlacesDiffer bodies

-- the offsets of the body's strong fields, by its type
abbrev pub strong_offsets : List ObjectType → Body → List ℕ
strong_offsets types b = offsets_of_kind Strong (declared_kinds types b.ty)

-- the offsets of the keys of the body's pairs, by its type; a pair's value stands after its key
abbrev pub pair_offsets : List ObjectType → Body → List ℕ
pair_offsets types b = offsets_of_kind Pair (declared_kinds types b.ty)

-- the body's field word at an offset from its place
abbrev pub word_at : Body → ℕ → ℕ
word_at b offset = slice_index b.fields (offset - first_field)

-- each body is of one of the types and has a word for each field, and each of its strong fields and each key and value
-- of its pairs is null or names a body
pub record AreReferences (types : List ObjectType) (bodies : List Body) : Type 0 where
  pub typed : (b : Body) → Contains bodies b → b.ty < length types
  pub whole : (b : Body) → Contains bodies b → field_words (declared_kinds types b.ty) ≤ length b.fields
  pub named :
      (b : Body) (offset : ℕ) → Contains bodies b → Contains (strong_offsets types b) offset → IsReference bodies (word_at b offset)
  pub keys :
      (b : Body) (offset : ℕ) → Contains bodies b → Contains (pair_offsets types b) offset → IsReference bodies (word_at b offset)
  pub values :
      (b : Body) (offset : ℕ) → Contains bodies b → Contains (pair_offsets types b) offset
      → IsReference bodies (word_at b (offset + 1))

-- there is a body at the place, and this is its type
abbrev pub HasType : List Body → ℕ → ℕ → Type 0
HasType bodies place ty = (b : Body) × Contains bodies b × (b.place ≡ place) × (b.ty ≡ ty)

-- there is a body at the place, and it has a strong field at the offset
abbrev pub HasStrong : List ObjectType → List Body → ℕ → ℕ → Type 0
HasStrong types bodies place offset =
    (b : Body) × Contains bodies b × (b.place ≡ place) × Contains (strong_offsets types b) offset

-- there is a body at the place, and it has a pair at the offset
abbrev pub BodyHasPair : List ObjectType → List Body → ℕ → ℕ → Type 0
BodyHasPair types bodies place offset =
    (b : Body) × Contains bodies b × (b.place ≡ place) × Contains (pair_offsets types b) offset

-- no type has a pair
abbrev pub HaveNoPairs : List ObjectType → Type 0
HaveNoPairs types = (ty : ℕ) → ty < length types → offsets_of_kind Pair (declared_kinds types ty) ≡ []

-- there is a body at the place, and it has a field word at the offset
abbrev pub BodyHasWord : List Body → ℕ → ℕ → Type 0
BodyHasWord bodies place offset =
    (b : Body) × Contains bodies b × (b.place ≡ place) × (first_field ≤ offset) × (offset - first_field < length b.fields)

-- ---- the object that a body stands for

-- what a reference word stands for: null, or what lies at the place
abbrev pub reference_in : ℕ → Value
reference_in zero = Null
reference_in (suc place) = Ref place

-- what the words of fields of these kinds stand for, and the extra words after them
abbrev pub values_in : List Kind → List ℕ → List Value
values_in (Strong ∷ kinds) (w ∷ words) = reference_in w ∷ values_in kinds words
values_in (Weak ∷ kinds) (w ∷ words) = reference_in w ∷ values_in kinds words
values_in (Pair ∷ kinds) (key ∷ value ∷ words) = reference_in key ∷ reference_in value ∷ values_in kinds words
values_in (Pair ∷ kinds) (key ∷ []) = reference_in key ∷ []
values_in (Plain ∷ kinds) (w ∷ words) = Word w ∷ values_in kinds words
values_in (kind ∷ kinds) [] = []
values_in [] words = map (λ w. Word w) words

-- the object that the body stands for, by its type and its words
abbrev pub object_in : List ObjectType → Body → Object
object_in types b = record {
  ty = b.ty;
  extra = length b.fields - field_words (slice_index_or types b.ty no_type).kinds;
  kinds = (slice_index_or types b.ty no_type).kinds;
  values = values_in (slice_index_or types b.ty no_type).kinds b.fields;
}
