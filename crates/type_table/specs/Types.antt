-- Where the fields of a type stand in an object's words (`include/cppgc/member.h`, `ephemeron-pair.h`, `allocation.h`).
use Rattle.std.specs.Prelude.{◌≡◌, ℕ, ◌+◌, ◌-◌, ◌<◌, ◌≤◌, Bool, true, false, List, length, map, take, slice_index_or}
use Rattle.std.specs.List.{filter, range_with_len}
use Rattle.gc_graph.specs.declared.kind.Kind.{Kind}
use Rattle.gc_graph.specs.declared.kind.Kind.TheVariants.{Strong, Weak, Pair, Plain}
use Rattle.gc_graph.specs.State.{ObjectType, no_type}
use Rattle.gc_graph.specs.Fields.{words_of_kind, field_words}
use Rattle.object_headers.specs.Offsets.{first_field}

-- the type with a number
abbrev pub type_of : List ObjectType → ℕ → ObjectType
type_of types t = slice_index_or types t no_type

-- the kinds of its declared fields
abbrev pub declared_kinds : List ObjectType → ℕ → List Kind
declared_kinds types t = (type_of types t).kinds

-- the declared fields, and one for each extra word
abbrev pub count_with : List Kind → ℕ → ℕ
count_with kinds extra = length kinds + extra

-- a header, a serial number, the words of the declared fields, and the extra words
abbrev pub size_with : List Kind → ℕ → ℕ
size_with kinds extra = first_field + (field_words kinds + extra)

-- an extra word is a plain field
abbrev pub kind_of : List Kind → ℕ → Kind
kind_of kinds field = slice_index_or kinds field Plain

-- how many words stand between the header and a field's first word, the header counted
abbrev pub offset_of : List Kind → ℕ → ℕ
offset_of kinds field = first_field + (field_words (take field kinds) + (field - length kinds))

-- a field whose kind passes the test
abbrev pub is_field : (Kind → Bool) → List Kind → ℕ → Bool
is_field is_so kinds field = is_so (kind_of kinds field)

-- the declared fields whose kind passes the test, in their order
abbrev pub fields_where : (Kind → Bool) → List Kind → List ℕ
fields_where is_so kinds = filter (is_field is_so kinds) (range_with_len 0 (length kinds))

-- the offsets of these fields
abbrev pub offsets_where : (Kind → Bool) → List Kind → List ℕ
offsets_where is_so kinds = map (offset_of kinds) (fields_where is_so kinds)

-- the kind is this one
abbrev pub is_kind : Kind → Kind → Bool
is_kind Strong Strong = true
is_kind Weak Weak = true
is_kind Pair Pair = true
is_kind Plain Plain = true
is_kind wanted kind = false

-- the offsets of the declared fields of a kind, in their order
abbrev pub offsets_of_kind : Kind → List Kind → List ℕ
offsets_of_kind kind kinds = offsets_where (is_kind kind) kinds

-- the word at an offset is one of a field's
pub record IsWordOfField (kinds : List Kind) (field word : ℕ) : Type 0 where
  pub first : offset_of kinds field ≤ word
  pub last : word < offset_of kinds field + words_of_kind (kind_of kinds field)

-- what is told of a field: that there is one, its kind, and its offset
pub record IsFieldAt (kinds : List Kind) (extra field : ℕ) (found : Kind × ℕ) : Type 0 where
  pub there : field < count_with kinds extra
  pub kind : found.0 ≡ kind_of kinds field
  pub offset : found.1 ≡ offset_of kinds field
