-- The words of the handles at the told offsets are those that clearing changes.
use Rattle.std.proofs.Common.{◌≡◌, ℕ, zero, suc, ◌+◌, ◌-◌, ◌<◌, ◌≤◌, Bool, true, false, cond, List, [], ◌∷◌, ◌++◌, length, get_or, set, take, map, refl, sym, ap, ◌∙◌, subst, arith}
use Rattle.std.specs.List.{filter, range_with_len}
use Rattle.std.proofs.lemmas.List.{length-append}
use Rattle.std.proofs.Math.Seq.{take-append_seam}
use Rattle.std.proofs.lemmas.List.Sums.{sum_by-cons, sum_by-append}
use Rattle.gc_graph.specs.declared.kind.Kind.{Kind}
use Rattle.gc_graph.specs.declared.kind.Kind.TheVariants.{Strong, Weak, Pair, Plain}
use Rattle.gc_graph.specs.Fields.{words_of_kind, field_words}
use Rattle.type_table.specs.Types.{offset_of, is_kind, is_field, offsets_of_kind}
use Rattle.type_table.specs.Layouts.{kinds_of_words}
use Rattle.weak_clearing.specs.declared.weak_handles.WeakHandles.{WeakHandles}
use Rattle.weak_clearing.specs.declared.weak_handles.WeakHandles.TheVariants.{Fields, Pairs}
use Rattle.weak_clearing.specs.Clearing.{names_unmarked, clear_words, clear_pair_words}
use Rattle.weak_clearing.specs.Steps.{kind_of_handles, words_cleared_at, clear_words_of}
use Rattle.weak_clearing.proofs.Lists.{at_seam, set_seam, append_one, length_push}
use Rattle.type_table.specs.KindLaws.{same_kind}

-- ---- handles cleared one after the other

-- those at these offsets
abbrev pub clear_listed : WeakHandles → List ℕ → List ℕ → List ℕ → List ℕ
clear_listed handles marked [] words = words
clear_listed handles marked (offset ∷ offsets) words = clear_listed handles marked offsets (words_cleared_at handles marked (offset - 2) words)

pub clear_listed-push : (handles : WeakHandles) (marked offsets : List ℕ) (offset : ℕ) (words : List ℕ)
    → clear_listed handles marked (offsets ++ offset ∷ []) words ≡ words_cleared_at handles marked (offset - 2) (clear_listed handles marked offsets words)
clear_listed-push handles marked [] offset words = refl
clear_listed-push handles marked (o ∷ offsets) offset words = clear_listed-push handles marked offsets offset (words_cleared_at handles marked (o - 2) words)

-- ---- the offsets of the fields of a kind, when the first of all fields begins at this one

abbrev pub begin_from : Kind → ℕ → List Kind → List ℕ
begin_from wanted offset [] = []
begin_from wanted offset (kind ∷ kinds) =
    let rest : List ℕ = begin_from wanted (offset + words_of_kind kind) kinds in cond (is_kind wanted kind) (offset ∷ rest) rest

-- the words after the first so many, where the first field begins after these
abbrev cleared_after : WeakHandles → List ℕ → List Kind → ℕ → List ℕ → List ℕ
cleared_after handles marked kinds many words = clear_listed handles marked (begin_from (kind_of_handles handles) (2 + many) kinds) words

one_word : (handles : WeakHandles) (marked : List ℕ) (kinds : List Kind) (before : List ℕ) (v : ℕ) (words rest : List ℕ)
    → cleared_after handles marked kinds (length (before ++ v ∷ [])) ((before ++ v ∷ []) ++ words) ≡ (before ++ v ∷ []) ++ rest
    → clear_listed handles marked (begin_from (kind_of_handles handles) (2 + length before + 1) kinds) (before ++ v ∷ words) ≡ before ++ v ∷ rest
one_word handles marked kinds before v words rest is =
    let same : 2 + length before + 1 ≡ 2 + length (before ++ v ∷ []) = omega (arith, length_push before v) in
    ap (λ o. clear_listed handles marked (begin_from (kind_of_handles handles) o kinds) (before ++ v ∷ words)) same
    ∙ ap (cleared_after handles marked kinds (length (before ++ v ∷ []))) (append_one before v words) ∙ is ∙ sym (append_one before v rest)

two_words : (handles : WeakHandles) (marked : List ℕ) (kinds : List Kind) (before : List ℕ) (v w : ℕ) (words rest : List ℕ)
    → cleared_after handles marked kinds (length ((before ++ v ∷ []) ++ w ∷ [])) (((before ++ v ∷ []) ++ w ∷ []) ++ words) ≡ ((before ++ v ∷ []) ++ w ∷ []) ++ rest
    → clear_listed handles marked (begin_from (kind_of_handles handles) (2 + length before + 2) kinds) (before ++ v ∷ w ∷ words) ≡ before ++ v ∷ w ∷ rest
two_words handles marked kinds before v w words rest is =
    let first : List ℕ = before ++ v ∷ [] in
    let same : 2 + length before + 2 ≡ 2 + length first + 1 = omega (arith, length_push before v) in
    ap (λ o. clear_listed handles marked (begin_from (kind_of_handles handles) o kinds) (before ++ v ∷ w ∷ words)) same
    ∙ ap (clear_listed handles marked (begin_from (kind_of_handles handles) (2 + length first + 1) kinds)) (append_one before v (w ∷ words))
    ∙ one_word handles marked kinds first w words rest is ∙ sym (append_one before v (w ∷ rest))

-- ---- one handle

module _ (marked before : List ℕ) where
  one_nulled : (t : Bool) (w : ℕ) (words : List ℕ) → cond t (set (before ++ w ∷ words) (length before) 0) (before ++ w ∷ words) ≡ before ++ cond t 0 w ∷ words
  one_nulled true w words = set_seam before w 0 words
  one_nulled false w words = refl

  weak_here : (w : ℕ) (words : List ℕ)
      → words_cleared_at Fields marked (2 + length before - 2) (before ++ w ∷ words) ≡ before ++ cond (names_unmarked marked w) 0 w ∷ words
  weak_here w words =
      let at : 2 + length before - 2 ≡ length before = omega arith in
      ap (λ i. words_cleared_at Fields marked i (before ++ w ∷ words)) at
      ∙ ap (λ x. cond (names_unmarked marked x) (set (before ++ w ∷ words) (length before) 0) (before ++ w ∷ words)) (at_seam before w 0 words)
      ∙ one_nulled (names_unmarked marked w) w words

  value_nulled : (k w : ℕ) (words : List ℕ) → set (before ++ k ∷ w ∷ words) (length before + 1) 0 ≡ before ++ k ∷ 0 ∷ words
  value_nulled k w words =
      ap (λ ws. set ws (length before + 1) 0) (append_one before k (w ∷ words))
      ∙ ap (λ i. set ((before ++ k ∷ []) ++ w ∷ words) i 0) (sym (length_push before k))
      ∙ set_seam (before ++ k ∷ []) w 0 words ∙ sym (append_one before k (0 ∷ words))

  both_nulled : (t : Bool) (k w : ℕ) (words : List ℕ)
      → cond t (set (set (before ++ k ∷ w ∷ words) (length before + 1) 0) (length before) 0) (before ++ k ∷ w ∷ words) ≡ before ++ cond t 0 k ∷ cond t 0 w ∷ words
  both_nulled true k w words = ap (λ ws. set ws (length before) 0) (value_nulled k w words) ∙ set_seam before k 0 (0 ∷ words)
  both_nulled false k w words = refl

  pair_here : (k w : ℕ) (words : List ℕ)
      → words_cleared_at Pairs marked (2 + length before - 2) (before ++ k ∷ w ∷ words)
      ≡ before ++ cond (names_unmarked marked k) 0 k ∷ cond (names_unmarked marked k) 0 w ∷ words
  pair_here k w words =
      let all : List ℕ = before ++ k ∷ w ∷ words in
      let at : 2 + length before - 2 ≡ length before = omega arith in
      ap (λ i. words_cleared_at Pairs marked i all) at
      ∙ ap (λ x. cond (names_unmarked marked x) (set (set all (length before + 1) 0) (length before) 0) all) (at_seam before k 0 (w ∷ words))
      ∙ both_nulled (names_unmarked marked k) k w words

-- ---- all of them

pub some_word : (kind : Kind) (kinds : List Kind) → field_words (kind ∷ kinds) ≤ 0 → ⊥
some_word kind kinds few = omega (arith, few, sum_by-cons words_of_kind kind kinds, some kind) where
  some : (kind : Kind) → 1 ≤ words_of_kind kind
  some Strong = omega arith
  some Weak = omega arith
  some Pair = omega arith
  some Plain = omega arith

cleared_from : (handles : WeakHandles) (marked : List ℕ) (kinds : List Kind) (before words : List ℕ) → field_words kinds ≤ length words
    → cleared_after handles marked kinds (length before) (before ++ words) ≡ before ++ clear_words_of handles marked kinds words
cleared_from Fields marked [] before words few = refl
cleared_from Pairs marked [] before words few = refl
cleared_from Fields marked (kind ∷ kinds) before [] few = absurd (some_word kind kinds few)
cleared_from Pairs marked (kind ∷ kinds) before [] few = absurd (some_word kind kinds few)
cleared_from Fields marked (Strong ∷ kinds) before (w ∷ words) few =
    one_word Fields marked kinds before w words (clear_words marked (kinds_of_words kinds) words)
    (cleared_from Fields marked kinds (before ++ w ∷ []) words (omega (arith, few, sum_by-cons words_of_kind Strong kinds)))
cleared_from Fields marked (Plain ∷ kinds) before (w ∷ words) few =
    one_word Fields marked kinds before w words (clear_words marked (kinds_of_words kinds) words)
    (cleared_from Fields marked kinds (before ++ w ∷ []) words (omega (arith, few, sum_by-cons words_of_kind Plain kinds)))
cleared_from Fields marked (Weak ∷ kinds) before (w ∷ words) few =
    let v : ℕ = cond (names_unmarked marked w) 0 w in
    ap (clear_listed Fields marked (begin_from Weak (2 + length before + 1) kinds)) (weak_here marked before w words)
    ∙ one_word Fields marked kinds before v words (clear_words marked (kinds_of_words kinds) words)
    (cleared_from Fields marked kinds (before ++ v ∷ []) words (omega (arith, few, sum_by-cons words_of_kind Weak kinds)))
cleared_from Pairs marked (Strong ∷ kinds) before (w ∷ words) few =
    one_word Pairs marked kinds before w words (clear_pair_words marked kinds words)
    (cleared_from Pairs marked kinds (before ++ w ∷ []) words (omega (arith, few, sum_by-cons words_of_kind Strong kinds)))
cleared_from Pairs marked (Plain ∷ kinds) before (w ∷ words) few =
    one_word Pairs marked kinds before w words (clear_pair_words marked kinds words)
    (cleared_from Pairs marked kinds (before ++ w ∷ []) words (omega (arith, few, sum_by-cons words_of_kind Plain kinds)))
cleared_from Pairs marked (Weak ∷ kinds) before (w ∷ words) few =
    one_word Pairs marked kinds before w words (clear_pair_words marked kinds words)
    (cleared_from Pairs marked kinds (before ++ w ∷ []) words (omega (arith, few, sum_by-cons words_of_kind Weak kinds)))
cleared_from Fields marked (Pair ∷ kinds) before (k ∷ []) few = absurd (omega (arith, few, sum_by-cons words_of_kind Pair kinds))
cleared_from Pairs marked (Pair ∷ kinds) before (k ∷ []) few = absurd (omega (arith, few, sum_by-cons words_of_kind Pair kinds))
cleared_from Fields marked (Pair ∷ kinds) before (k ∷ w ∷ words) few =
    two_words Fields marked kinds before k w words (clear_words marked (kinds_of_words kinds) words)
    (cleared_from Fields marked kinds ((before ++ k ∷ []) ++ w ∷ []) words (omega (arith, few, sum_by-cons words_of_kind Pair kinds)))
cleared_from Pairs marked (Pair ∷ kinds) before (k ∷ w ∷ words) few =
    let key : ℕ = cond (names_unmarked marked k) 0 k in
    let value : ℕ = cond (names_unmarked marked k) 0 w in
    ap (clear_listed Pairs marked (begin_from Pair (2 + length before + 2) kinds)) (pair_here marked before k w words)
    ∙ two_words Pairs marked kinds before key value words (clear_pair_words marked kinds words)
    (cleared_from Pairs marked kinds ((before ++ key ∷ []) ++ value ∷ []) words (omega (arith, few, sum_by-cons words_of_kind Pair kinds)))

-- ---- these are the offsets that a type table tells

abbrev told_from : Kind → List Kind → ℕ → ℕ → List ℕ
told_from wanted kinds first count = map (offset_of kinds) (filter (is_field (is_kind wanted) kinds) (range_with_len first count))

offset_at : (before : List Kind) (kind : Kind) (kinds : List Kind) → offset_of (before ++ kind ∷ kinds) (length before) ≡ 2 + field_words before
offset_at before kind kinds =
    let all : List Kind = before ++ kind ∷ kinds in
    let words : field_words (take (length before) all) ≡ field_words before = ap field_words (take-append_seam before (kind ∷ kinds)) in
    omega (arith, words, length-append before (kind ∷ kinds))

told_after : (wanted : Kind) (before : List Kind) (kind : Kind) (kinds : List Kind)
    → told_from wanted ((before ++ kind ∷ []) ++ kinds) (length (before ++ kind ∷ [])) (length kinds) ≡ begin_from wanted (2 + field_words (before ++ kind ∷ [])) kinds
    → told_from wanted (before ++ kind ∷ kinds) (length before + 1) (length kinds) ≡ begin_from wanted (2 + field_words before + words_of_kind kind) kinds
told_after wanted before kind kinds is =
    let first : length before + 1 ≡ length (before ++ kind ∷ []) = omega (arith, length_push before kind) in
    let offset : 2 + field_words (before ++ kind ∷ []) ≡ 2 + field_words before + words_of_kind kind =
    omega (arith, sum_by-append words_of_kind before (kind ∷ []), sum_by-cons words_of_kind kind []) in
    ap (λ l. told_from wanted l (length before + 1) (length kinds)) (append_one before kind kinds)
    ∙ ap (λ n. told_from wanted ((before ++ kind ∷ []) ++ kinds) n (length kinds)) first
    ∙ is ∙ ap (λ o. begin_from wanted o kinds) offset

told_here : (wanted : Kind) (before : List Kind) (kind : Kind) (kinds : List Kind)
    → told_from wanted (before ++ kind ∷ kinds) (length before) (length (kind ∷ kinds))
    ≡ map (offset_of (before ++ kind ∷ kinds)) (
    let rest : List ℕ = filter (is_field (is_kind wanted) (before ++ kind ∷ kinds)) (range_with_len (length before + 1) (length kinds)) in
    cond (is_kind wanted kind) (length before ∷ rest) rest
    )
told_here wanted before kind kinds =
    let rest : List ℕ = filter (is_field (is_kind wanted) (before ++ kind ∷ kinds)) (range_with_len (length before + 1) (length kinds)) in
    ap (λ k. map (offset_of (before ++ kind ∷ kinds)) (cond (is_kind wanted k) (length before ∷ rest) rest)) (at_seam before kind Plain kinds)

told_next : (t : Bool) (f : ℕ → ℕ) (n offset : ℕ) (rest later : List ℕ) → f n ≡ offset → map f rest ≡ later
    → map f (cond t (n ∷ rest) rest) ≡ cond t (offset ∷ later) later
told_next true f n offset rest later at is = ap (λ o. o ∷ map f rest) at ∙ ap (λ os. offset ∷ os) is
told_next false f n offset rest later at is = is

pub told_is : (wanted : Kind) (before kinds : List Kind) → told_from wanted (before ++ kinds) (length before) (length kinds) ≡ begin_from wanted (2 + field_words before) kinds
told_is wanted before [] = refl
told_is wanted before (kind ∷ kinds) =
    told_here wanted before kind kinds
    ∙ told_next (is_kind wanted kind) (offset_of (before ++ kind ∷ kinds)) (length before) (2 + field_words before)
    (filter (is_field (is_kind wanted) (before ++ kind ∷ kinds)) (range_with_len (length before + 1) (length kinds)))
    (begin_from wanted (2 + field_words before + words_of_kind kind) kinds) (offset_at before kind kinds)
    (told_after wanted before kind kinds (told_is wanted (before ++ kind ∷ []) kinds))

-- clearing the handles at the told offsets, one after the other, clears the words by the kinds of their fields
pub listed_are_cleared : (handles : WeakHandles) (marked : List ℕ) (kinds : List Kind) (words : List ℕ) → field_words kinds ≤ length words
    → clear_listed handles marked (offsets_of_kind (kind_of_handles handles) kinds) words ≡ clear_words_of handles marked kinds words
listed_are_cleared handles marked kinds words few =
    ap (λ offsets. clear_listed handles marked offsets words) (told_is (kind_of_handles handles) [] kinds) ∙ cleared_from handles marked kinds [] words few

-- ---- each of these offsets is of a field of the kind

-- the word at the offset, where the first one has this offset, is the first one of a field of the kind
pub record BeginsField (wanted : Kind) (first : ℕ) (kinds : List Kind) (offset : ℕ) : Type 0 where
  pub index : ℕ
  pub at : offset ≡ first + index
  pub low : index + words_of_kind wanted ≤ field_words kinds
  pub kind : get_or (kinds_of_words kinds) index Plain ≡ wanted

kind_first : (kind : Kind) (kinds : List Kind) → get_or (kinds_of_words (kind ∷ kinds)) 0 Plain ≡ kind
kind_first Strong kinds = refl
kind_first Weak kinds = refl
kind_first Pair kinds = refl
kind_first Plain kinds = refl

kind_later : (kind : Kind) (kinds : List Kind) (i : ℕ) → get_or (kinds_of_words (kind ∷ kinds)) (i + words_of_kind kind) Plain ≡ get_or (kinds_of_words kinds) i Plain
kind_later Strong kinds i = let one : i + 1 ≡ suc i = omega arith in ap (λ n. get_or (kinds_of_words (Strong ∷ kinds)) n Plain) one
kind_later Weak kinds i = let one : i + 1 ≡ suc i = omega arith in ap (λ n. get_or (kinds_of_words (Weak ∷ kinds)) n Plain) one
kind_later Pair kinds i = let two : i + 2 ≡ suc (suc i) = omega arith in ap (λ n. get_or (kinds_of_words (Pair ∷ kinds)) n Plain) two
kind_later Plain kinds i = let one : i + 1 ≡ suc i = omega arith in ap (λ n. get_or (kinds_of_words (Plain ∷ kinds)) n Plain) one

begins_here : (wanted : Kind) (first : ℕ) (kind : Kind) (kinds : List Kind) → kind ≡ wanted → BeginsField wanted first (kind ∷ kinds) first
begins_here wanted first kind kinds same = record {
  index = 0;
  at = omega arith;
  low = omega (arith, sum_by-cons words_of_kind kind kinds, ap words_of_kind same);
  kind = kind_first kind kinds ∙ same;
}

begins_later : (wanted : Kind) (first : ℕ) (kind : Kind) (kinds : List Kind) (offset : ℕ) → BeginsField wanted (first + words_of_kind kind) kinds offset
    → BeginsField wanted first (kind ∷ kinds) offset
begins_later wanted first kind kinds offset rest = record {
  index = rest.index + words_of_kind kind;
  at = omega (arith, rest.at);
  low = omega (arith, rest.low, sum_by-cons words_of_kind kind kinds);
  kind = kind_later kind kinds rest.index ∙ rest.kind;
}

one_of : (P : ℕ → Type 0) (t : Bool) (offset : ℕ) (rest : List ℕ) (k : ℕ) → k < length (cond t (offset ∷ rest) rest) → (t ≡ true → P offset)
    → ((j : ℕ) → j < length rest → P (get_or rest j 0)) → P (get_or (cond t (offset ∷ rest) rest) k 0)
one_of P false offset rest k low here each = each k low
one_of P true offset rest zero low here each = here refl
one_of P true offset rest (suc k) low here each = each k (omega arith)

begin_from_at : (wanted : Kind) (first : ℕ) (kinds : List Kind) (k : ℕ) → k < length (begin_from wanted first kinds)
    → BeginsField wanted first kinds (get_or (begin_from wanted first kinds) k 0)
begin_from_at wanted first [] k low = absurd (omega arith)
begin_from_at wanted first (kind ∷ kinds) k low =
    let rest : List ℕ = begin_from wanted (first + words_of_kind kind) kinds in
    one_of (BeginsField wanted first (kind ∷ kinds)) (is_kind wanted kind) first rest k low (λ is. begins_here wanted first kind kinds (same_kind wanted kind is))
    (λ j inside. begins_later wanted first kind kinds (get_or rest j 0) (begin_from_at wanted (first + words_of_kind kind) kinds j inside))

pub field_told : (wanted : Kind) (kinds : List Kind) (told : List ℕ) (k : ℕ) → told ≡ offsets_of_kind wanted kinds → k < length told
    → BeginsField wanted 2 kinds (get_or told k 0)
field_told wanted kinds told k is low =
    let all : told ≡ begin_from wanted 2 kinds = is ∙ told_is wanted [] kinds in
    subst (λ l. BeginsField wanted 2 kinds (get_or l k 0)) (sym all) (begin_from_at wanted 2 kinds k (subst (λ l. k < length l) all low))
