-- The words of an object at which tracing stops: its strong fields and its pairs, in the order of their offsets.
use Rattle.std.specs.Prelude.{ℕ, ◌+◌, List, [], ◌∷◌, Option, Some, None}
use Rattle.gc_graph.specs.declared.kind.Kind.{Kind}
use Rattle.gc_graph.specs.declared.kind.Kind.TheVariants.{Strong, Pair}
use Rattle.gc_graph.specs.Fields.{words_of_kind}
use Rattle.object_headers.specs.Offsets.{first_field}
use Rattle.type_table.specs.declared.traced.TracedWord.{TracedWord}
use Rattle.type_table.specs.declared.traced.TracedWord.TheVariants.{StrongAt, PairAt}

-- what a field of the kind is to tracing, whose first word is at the offset
abbrev pub traced_word : Kind → ℕ → Option TracedWord
traced_word Strong offset = Some (StrongAt offset)
traced_word Pair offset = Some (PairAt offset)
traced_word kind offset = None

-- one more at the front, where there is one
abbrev pub and_then : Option TracedWord → List TracedWord → List TracedWord
and_then None words = words
and_then (Some word) words = word ∷ words

-- the traced words of fields of these kinds, the first of which begins at the offset
abbrev pub traced_from : ℕ → List Kind → List TracedWord
traced_from offset [] = []
traced_from offset (kind ∷ kinds) = and_then (traced_word kind offset) (traced_from (offset + words_of_kind kind) kinds)

-- those of an object
abbrev pub traced_words_of : List Kind → List TracedWord
traced_words_of kinds = traced_from first_field kinds

-- the offset of a traced word
abbrev pub offset_in : TracedWord → ℕ
offset_in (StrongAt offset) = offset
offset_in (PairAt offset) = offset

-- the offsets of the strong fields among traced words
abbrev pub strong_among : List TracedWord → List ℕ
strong_among [] = []
strong_among (StrongAt offset ∷ words) = offset ∷ strong_among words
strong_among (PairAt offset ∷ words) = strong_among words

-- the offsets of the pairs among traced words
abbrev pub pairs_among : List TracedWord → List ℕ
pairs_among [] = []
pairs_among (StrongAt offset ∷ words) = pairs_among words
pairs_among (PairAt offset ∷ words) = offset ∷ pairs_among words
