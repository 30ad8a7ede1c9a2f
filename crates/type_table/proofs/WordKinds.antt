-- The kind of each word.
use Rattle.std.proofs.Common.{◌≡◌, ℕ, ◌+◌, ◌-◌, ◌<◌, ◌≤◌, List, length, get_or, take, replicate, sym, ap, ◌∙◌, inl, inr, arith}
use Rattle.std.specs.List.{flat_map}
use Rattle.std.proofs.lemmas.Bool.{cases_lt}
use Rattle.std.proofs.lemmas.List.{get_or_past, take_all, get_or-replicate, length-replicate}
use Rattle.std.proofs.lemmas.List.Concat.{get_or-flat_map}
use Rattle.gc_graph.specs.declared.kind.Kind.{Kind}
use Rattle.gc_graph.specs.declared.kind.Kind.TheVariants.{Plain}
use Rattle.gc_graph.specs.Fields.{words_of_kind, field_words}
use Rattle.type_table.specs.Types.{kind_of, offset_of, IsWordOfField}
use Rattle.type_table.specs.Layouts.{kinds_of_words}
use Rattle.type_table.specs.KindLaws.{length-kinds_of_words}

declared : (kinds : List Kind) (field word : ℕ) → field < length kinds → IsWordOfField kinds field word
    → get_or (kinds_of_words kinds) (word - 2) Plain ≡ kind_of kinds field
declared kinds field word low is =
    let f : Kind → List Kind = λ kind. replicate (words_of_kind kind) kind in
    let before = length-kinds_of_words (take field kinds) in
    let j : ℕ = word - offset_of kinds field in
    let inside : j < words_of_kind (kind_of kinds field) = omega (arith, is.first, is.last) in
    let at : word - 2 ≡ length (flat_map f (take field kinds)) + j = omega (arith, is.first, before) in
    ap (λ n. get_or (kinds_of_words kinds) n Plain) at
    ∙ get_or-flat_map f kinds field j Plain Plain low (omega (arith, length-replicate (words_of_kind (kind_of kinds field)) (kind_of kinds field)))
    ∙ get_or-replicate (words_of_kind (kind_of kinds field)) j (kind_of kinds field) Plain inside

extra : (kinds : List Kind) (field word : ℕ) → length kinds ≤ field → IsWordOfField kinds field word
    → get_or (kinds_of_words kinds) (word - 2) Plain ≡ kind_of kinds field
extra kinds field word past is =
    let all : take field kinds ≡ kinds = take_all field kinds past in
    let words : field_words (take field kinds) ≡ field_words kinds = ap field_words all in
    get_or_past (kinds_of_words kinds) (word - 2) Plain (omega (arith, length-kinds_of_words kinds, words, is.first))
    ∙ sym (get_or_past kinds field Plain past)

pub kind_at : (kinds : List Kind) (field word : ℕ) → IsWordOfField kinds field word → get_or (kinds_of_words kinds) (word - 2) Plain ≡ kind_of kinds field
kind_at kinds field word is =
    elim (cases_lt field (length kinds)) [
      | inl low ↦ declared kinds field word low is
      | inr past ↦ extra kinds field word past is
    ]
