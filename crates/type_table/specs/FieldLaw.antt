-- Where the words of fields are, whatever the kinds of a type are.
use Rattle.std.specs.Prelude.{◌≡◌, ℕ, ◌-◌, ◌<◌, Bool, true, List, length, Contains, slice_index_or}
use Rattle.gc_graph.specs.declared.kind.Kind.{Kind}
use Rattle.gc_graph.specs.declared.kind.Kind.TheVariants.{Plain}
use Rattle.object_headers.specs.Offsets.{first_field}
use Rattle.type_table.specs.Types.{kind_of, offset_of, offsets_where, IsWordOfField}
use Rattle.type_table.specs.Layouts.{kinds_of_words}

-- the field is a declared one whose kind passes the test, and its first word is at the offset
pub record BeginsAt (is_so : Kind → Bool) (kinds : List Kind) (offset field : ℕ) : Type 0 where
  pub declared : field < length kinds
  pub kind : is_so (kind_of kinds field) ≡ true
  pub offset_is : offset ≡ offset_of kinds field

-- the offsets that are told of a kind are those at which its fields begin; each word has the kind of its field, and belongs
-- to no other field
pub record FieldsStandApart : Type 0 where
  pub begin :
      (is_so : Kind → Bool) (kinds : List Kind) (offset : ℕ) → Contains (offsets_where is_so kinds) offset
      → (field : ℕ) × BeginsAt is_so kinds offset field
  pub told :
      (is_so : Kind → Bool) (kinds : List Kind) (offset field : ℕ) → BeginsAt is_so kinds offset field
      → Contains (offsets_where is_so kinds) offset
  pub kind :
      (kinds : List Kind) (field word : ℕ) → IsWordOfField kinds field word
      → slice_index_or (kinds_of_words kinds) (word - first_field) Plain ≡ kind_of kinds field
  pub apart :
      (kinds : List Kind) (field other word : ℕ) → IsWordOfField kinds field word → IsWordOfField kinds other word → field ≡ other
