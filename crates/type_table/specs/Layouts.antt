-- What a table has worked out of each type.
use Rattle.std.specs.Prelude.{ℕ, List, length, map, replicate}
use Rattle.std.specs.List.{flat_map, range_with_len}
use Rattle.gc_graph.specs.declared.kind.Kind.{Kind}
use Rattle.gc_graph.specs.declared.kind.Kind.TheVariants.{Strong, Weak, Pair}
use Rattle.gc_graph.specs.State.{ObjectType}
use Rattle.gc_graph.specs.Fields.{words_of_kind, field_words}
use Rattle.type_table.specs.declared.traced.TracedWord.{TracedWord}
use Rattle.type_table.specs.Types.{offset_of, offsets_of_kind}
use Rattle.type_table.specs.TracedWords.{traced_words_of}

-- how many words the declared fields take, the offset of each field, the kind of each word's field, the offsets of the
-- strong fields, of the weak ones and of the pairs, and what tracing reads
pub record LayoutState : Type 0 where
  pub words : ℕ
  pub offsets : List ℕ
  pub kinds : List Kind
  pub strong : List ℕ
  pub weak : List ℕ
  pub pairs : List ℕ
  pub traced : List TracedWord

-- the offsets of the declared fields, in their order
abbrev pub offsets_of : List Kind → List ℕ
offsets_of kinds = map (offset_of kinds) (range_with_len 0 (length kinds))

-- the kind of the field to which each word belongs
abbrev pub kinds_of_words : List Kind → List Kind
kinds_of_words kinds = flat_map (λ kind. replicate (words_of_kind kind) kind) kinds

-- the layout of fields of these kinds
abbrev pub layout_of : List Kind → LayoutState
layout_of kinds = record {
  words = field_words kinds;
  offsets = offsets_of kinds;
  kinds = kinds_of_words kinds;
  strong = offsets_of_kind Strong kinds;
  weak = offsets_of_kind Weak kinds;
  pairs = offsets_of_kind Pair kinds;
  traced = traced_words_of kinds;
}

-- the layouts of types, by number
abbrev pub layouts_of : List ObjectType → List LayoutState
layouts_of types = map (λ type. layout_of type.kinds) types
