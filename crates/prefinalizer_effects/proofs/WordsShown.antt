-- The shown words one by one.
use Rattle.std.proofs.Common.{◌≡◌, ℕ, zero, suc, ◌+◌, ◌-◌, ◌<◌, ◌≤◌, List, [], ◌∷◌, ◌++◌, length, take, set, get_or, refl, sym, ap, ◌∙◌, inl, inr, arith}
use mathlib.Core.Logic.{◌⊎◌}
use Rattle.std.proofs.lemmas.Bool.{cases_lt}
use Rattle.std.proofs.lemmas.List.{take_more, take_more_set, take_all}
use Rattle.std.proofs.lemmas.List.Sums.{sum_by-cons}
use Rattle.gc_graph.specs.declared.kind.Kind.{Kind}
use Rattle.gc_graph.specs.declared.kind.Kind.TheVariants.{Plain}
use Rattle.gc_graph.specs.Fields.{words_of_kind, field_words}
use Rattle.type_table.specs.Types.{kind_of, IsWordOfField}
use Rattle.type_table.specs.FieldLaw.{FieldsStandApart}
use Rattle.type_table.specs.Layouts.{kinds_of_words}
use Rattle.prefinalizer_effects.specs.Shown.{shown_field_word, shown_of_kinds}
use Rattle.type_table.specs.KindLaws.{length-kinds_of_words}

-- ---- the kinds of words

-- each word of the declared fields belongs to one of them
pub word_has_field : (kinds : List Kind) (i : ℕ) → i < field_words kinds → (field : ℕ) × IsWordOfField kinds field (2 + i)
word_has_field [] i low = absurd (omega arith)
word_has_field (kind ∷ kinds) i low = elim (cases_lt i (words_of_kind kind)) [
  | inl first ↦ (0, record { first = omega arith; last = omega (arith, first) })
  | inr past ↦
      (let rest = word_has_field kinds (i - words_of_kind kind) (omega (arith, low, past, sum_by-cons words_of_kind kind kinds)) in
      let more : field_words (kind ∷ take rest.0 kinds) ≡ words_of_kind kind + field_words (take rest.0 kinds) = sum_by-cons words_of_kind kind (take rest.0 kinds) in
      (suc rest.0, record { first = omega (arith, rest.1.first, past, more); last = omega (arith, rest.1.last, past, more) }))
]

-- ---- the words

pub shown_length : (kinds : List Kind) (words : List ℕ) → length kinds ≤ length words → length (shown_of_kinds kinds words) ≡ length kinds
shown_length [] words low = refl
shown_length (kind ∷ kinds) [] low = absurd (omega arith)
shown_length (kind ∷ kinds) (w ∷ words) low = omega (arith, shown_length kinds words (omega arith))

pub shown_at : (kinds : List Kind) (words : List ℕ) (i : ℕ) → i < length kinds → length kinds ≤ length words
    → get_or (shown_of_kinds kinds words) i 0 ≡ shown_field_word (get_or kinds i Plain) (get_or words i 0)
shown_at [] words i low long = absurd (omega arith)
shown_at (kind ∷ kinds) [] i low long = absurd (omega arith)
shown_at (kind ∷ kinds) (w ∷ words) zero low long = refl
shown_at (kind ∷ kinds) (w ∷ words) (suc i) low long = shown_at kinds words i (omega arith) (omega arith)

-- one more word was written to the front
pub one_more_shown : (into xs : List ℕ) (i x : ℕ) → i < length into → i < length xs → x ≡ get_or xs i 0 → take i into ≡ take i xs
    → take (i + 1) (set into i x) ≡ take (i + 1) xs
one_more_shown into xs i x room low is front =
    take_more_set into i x room ∙ ap (λ ys. ys ++ x ∷ []) front ∙ ap (λ y. take i xs ++ y ∷ []) is ∙ sym (take_more xs i 0 low)

-- what is shown of the word with the number i
pub word_shown : (kinds : List Kind) (fields : List ℕ) (i : ℕ) (kind : Kind) (w x : ℕ) → FieldsStandApart → i < field_words kinds → field_words kinds ≤ length fields
    → ((field : ℕ) → IsWordOfField kinds field (2 + i) → kind ≡ kind_of kinds field) → w ≡ get_or fields i 0 → x ≡ shown_field_word kind w
    → x ≡ get_or (shown_of_kinds (kinds_of_words kinds) fields) i 0
word_shown kinds fields i kind w x law low long tells is told =
    let found = word_has_field kinds i low in
    let index : 2 + i - 2 ≡ i = omega arith in
    let known : get_or (kinds_of_words kinds) i Plain ≡ kind =
    ap (λ j. get_or (kinds_of_words kinds) j Plain) (sym index) ∙ law.kind kinds found.0 (2 + i) found.1 ∙ sym (tells found.0 found.1) in
    told ∙ ap (shown_field_word kind) is ∙ ap (λ k. shown_field_word k (get_or fields i 0)) (sym known)
    ∙ sym (shown_at (kinds_of_words kinds) fields i (omega (arith, length-kinds_of_words kinds)) (omega (arith, length-kinds_of_words kinds)))

-- all words that are there, or the first 64
pub first_words : (xs : List ℕ) (count : ℕ) → (count ≡ 64) ⊎ ((count ≡ length xs) × (length xs ≤ 64)) → take count xs ≡ take 64 xs
first_words xs count (inl all) = ap (λ n. take n xs) all
first_words xs count (inr (all, few)) = take_all count xs (omega arith) ∙ sym (take_all 64 xs few)
