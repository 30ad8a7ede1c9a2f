-- How many words fields take, and where each begins.
use Rattle.std.proofs.Common.{◌≡◌, ℕ, zero, suc, ◌+◌, ◌*◌, ◌<◌, ◌≤◌, Bool, true, false, cond, List, [], ◌∷◌, ◌++◌, length, get_or, take, map, ap, ◌∙◌, arith, append-nil}
use Rattle.std.specs.List.{filter, range_with_len}
use Rattle.std.proofs.lemmas.List.{map-append, get_or_default}
use Rattle.std.proofs.lemmas.List.FromFn.{get_or-map-range_with_len, length-map-range_with_len}
use Rattle.std.proofs.lemmas.List.Elements.{filter-append}
use Rattle.std.proofs.lemmas.List.Sums.{sum_by_more, sum_by-take-le, sum_by-le}
use Rattle.gc_graph.specs.declared.kind.Kind.{Kind}
use Rattle.gc_graph.specs.declared.kind.Kind.TheVariants.{Strong, Weak, Pair, Plain}
use Rattle.gc_graph.specs.Fields.{words_of_kind, field_words}
use Rattle.type_table.specs.Types.{kind_of, offset_of, is_field}
use Rattle.type_table.specs.Layouts.{offsets_of}

one_or_two : (kind : Kind) → words_of_kind kind ≤ 2
one_or_two Strong = omega arith
one_or_two Weak = omega arith
one_or_two Pair = omega arith
one_or_two Plain = omega arith

pub words_few : (kinds : List Kind) → field_words kinds ≤ 2 * length kinds
words_few kinds = omega (arith, sum_by-le words_of_kind 2 kinds (λ k d low. one_or_two (get_or kinds k d)))

pub words_so_far : (kinds : List Kind) (n : ℕ) → field_words (take n kinds) ≤ 2 * length kinds
words_so_far kinds n = omega (arith, words_few kinds, sum_by-take-le words_of_kind kinds n)

pub next_offset : (kinds : List Kind) (i : ℕ) (d : Kind) → i < length kinds
    → offset_of kinds (i + 1) ≡ offset_of kinds i + words_of_kind (get_or kinds i d)
next_offset kinds i d low = omega (arith, sum_by_more words_of_kind kinds i d low)

pub offset_few : (kinds : List Kind) (i : ℕ) → i ≤ length kinds → offset_of kinds i ≤ 2 + 2 * length kinds
offset_few kinds i low = omega (arith, words_so_far kinds i)

range_more : (a n : ℕ) → range_with_len a (n + 1) ≡ range_with_len a n ++ (a + n) ∷ []
range_more a zero = let e : a ≡ a + 0 = omega arith in ap (λ x. x ∷ []) e
range_more a (suc n) =
    let longer : suc n + 1 ≡ suc (n + 1) = omega arith in
    let last : a + 1 + n ≡ a + suc n = omega arith in
    ap (λ m. range_with_len a m) longer
    ∙ ap (λ xs. a ∷ xs) (range_more (a + 1) n ∙ ap (λ x. range_with_len (a + 1) n ++ x ∷ []) last)

fields_more : (is_so : Kind → Bool) (kinds : List Kind) (n : ℕ)
    → filter (is_field is_so kinds) (range_with_len 0 (n + 1))
    ≡ filter (is_field is_so kinds) (range_with_len 0 n) ++ cond (is_so (kind_of kinds n)) (n ∷ []) []
fields_more is_so kinds n =
    let here : 0 + n ≡ n = omega arith in
    ap (λ xs. filter (is_field is_so kinds) xs) (range_more 0 n ∙ ap (λ x. range_with_len 0 n ++ x ∷ []) here)
    ∙ filter-append (is_field is_so kinds) (range_with_len 0 n) (n ∷ [])

-- the offsets of the fields below a number whose kind passes
abbrev pub offsets_below : (Kind → Bool) → List Kind → ℕ → List ℕ
offsets_below is_so kinds n = map (offset_of kinds) (filter (is_field is_so kinds) (range_with_len 0 n))

pub offset_told : (is_so : Kind → Bool) (kinds : List Kind) (n : ℕ) (d : Kind) → n < length kinds → is_so (get_or kinds n d) ≡ true
    → offsets_below is_so kinds (n + 1) ≡ offsets_below is_so kinds n ++ offset_of kinds n ∷ []
offset_told is_so kinds n d low so =
    let here : is_so (kind_of kinds n) ≡ true = ap is_so (get_or_default kinds n Plain d low) ∙ so in
    ap (map (offset_of kinds)) (fields_more is_so kinds n ∙ ap (λ b. filter (is_field is_so kinds) (range_with_len 0 n) ++ cond b (n ∷ []) []) here)
    ∙ map-append (offset_of kinds) (filter (is_field is_so kinds) (range_with_len 0 n)) (n ∷ [])

pub offset_skipped : (is_so : Kind → Bool) (kinds : List Kind) (n : ℕ) (d : Kind) → n < length kinds → is_so (get_or kinds n d) ≡ false
    → offsets_below is_so kinds (n + 1) ≡ offsets_below is_so kinds n
offset_skipped is_so kinds n d low other =
    let here : is_so (kind_of kinds n) ≡ false = ap is_so (get_or_default kinds n Plain d low) ∙ other in
    ap (map (offset_of kinds)) (fields_more is_so kinds n ∙ ap (λ b. filter (is_field is_so kinds) (range_with_len 0 n) ++ cond b (n ∷ []) []) here
    ∙ append-nil (filter (is_field is_so kinds) (range_with_len 0 n)))

pub offset_at : (kinds : List Kind) (offsets : List ℕ) (i : ℕ) → i < length kinds → offsets ≡ offsets_of kinds → get_or offsets i 0 ≡ offset_of kinds i
offset_at kinds offsets i low is =
    ap (λ xs. get_or xs i 0) is ∙ get_or-map-range_with_len (offset_of kinds) 0 (length kinds) i i 0 low (omega arith)

pub offsets_many : (kinds : List Kind) → length (offsets_of kinds) ≡ length kinds
offsets_many kinds = length-map-range_with_len (offset_of kinds) 0 (length kinds)
