-- What the words of an object are, by its type.
use Rattle.std.specs.Prelude.{◌≡◌, ℕ, ◌+◌, ◌-◌, ◌<◌, ◌≤◌, Bool, false, not, List, slice_index_or, Contains}
use Rattle.gc_graph.specs.declared.kind.Kind.{Kind}
use Rattle.gc_graph.specs.declared.kind.Kind.TheVariants.{Pair, Plain}
use Rattle.gc_graph.specs.State.{ObjectType}
use Rattle.gc_graph.specs.Fields.{is_plain}
use Rattle.object_headers.specs.Offsets.{first_field}
use Rattle.type_table.specs.Types.{declared_kinds, offsets_of_kind}
use Rattle.type_table.specs.Layouts.{kinds_of_words}
use Rattle.marker_core.specs.declared.states.Body.{Body}
use Rattle.marker_core.specs.Bodies.{end_of, fields_at}

-- the kind of the field to which the body's field word with the number i belongs; what comes after the declared fields is plain
abbrev pub kind_in : List ObjectType → Body → ℕ → Kind
kind_in types b i = slice_index_or (kinds_of_words (declared_kinds types b.ty)) i Plain

-- the body's field word with the number i holds a reference: it is a strong or a weak field's, or one of a pair's two
abbrev pub is_reference_word : List ObjectType → Body → ℕ → Bool
is_reference_word types b i = not (is_plain (kind_in types b i))

-- the word at a is a field word of one of the bodies, and is plain
abbrev pub IsPlainWordAt : List ObjectType → List Body → ℕ → Type 0
IsPlainWordAt types bodies a =
    (b : Body) × Contains bodies b × (fields_at b ≤ a) × (a < end_of b) × (is_reference_word types b (a - fields_at b) ≡ false)

-- the body's field word with the number i is the key of a pair; the pair's value is in the word after it
abbrev pub IsKeyWord : List ObjectType → Body → ℕ → Type 0
IsKeyWord types b i = Contains (offsets_of_kind Pair (declared_kinds types b.ty)) (i + first_field)
