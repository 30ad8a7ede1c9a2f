-- The bits of the dying words at the told offsets are the mask of all of them.
use Rattle.std.proofs.Common.{◌≡◌, ℕ, zero, suc, ◌+◌, ◌-◌, ◌*◌, ◌%◌, ◌^◌, ◌<◌, ◌≤◌, Bool, true, false, cond, List, [], ◌∷◌, ◌++◌, length, get_or, take, refl, sym, ap, ◌∙◌, subst, arith}
use Rattle.std.specs.List.{sum_by}
use Rattle.std.proofs.Math.Nat.{pow-suc, mul_assoc}
use Rattle.std.proofs.lemmas.List.Sums.{sum_by-cons, sum_by_more, sum_by-take-le}
use Rattle.std.proofs.lemmas.Nat.{pow_pos, one_shl}
use Rattle.gc_graph.specs.declared.kind.Kind.{Kind}
use Rattle.gc_graph.specs.declared.kind.Kind.TheVariants.{Strong, Weak, Pair, Plain}
use Rattle.gc_graph.specs.Fields.{words_of_kind, field_words}
use Rattle.gc_graph.specs.Pause.{mask_of}
use Rattle.type_table.specs.Types.{offsets_of_kind}
use Rattle.type_table.specs.Layouts.{kinds_of_words}
use Rattle.type_table.specs.KindLaws.{length-kinds_of_words}
use Rattle.weak_clearing.specs.Clearing.{names_unmarked}
use Rattle.weak_clearing.specs.Dying.{dying_flags}
use Rattle.weak_clearing.proofs.HandleWords.{begin_from, told_is, some_word}
use Rattle.weak_clearing.proofs.Lists.{at_seam, append_one, length_push}

-- the bit of the word at an offset, where it names a body that is not marked
abbrev pub weight : List ℕ → List ℕ → ℕ → ℕ
weight marked words offset = cond (names_unmarked marked (get_or words (offset - 2) 0)) (2 ^ (offset - 2)) 0

-- ---- the bits together

module _ (marked : List ℕ) where
  next_word : (before : List ℕ) (w : ℕ) (words offsets : List ℕ) (mask : ℕ)
      → sum_by (weight marked ((before ++ w ∷ []) ++ words)) offsets ≡ 2 ^ length (before ++ w ∷ []) * mask
      → sum_by (weight marked (before ++ w ∷ words)) offsets ≡ 2 ^ length before * (2 * mask)
  next_word before w words offsets mask is =
      let one_on : length (before ++ w ∷ []) ≡ suc (length before) = omega (arith, length_push before w) in
      ap (λ all. sum_by (weight marked all) offsets) (append_one before w words) ∙ is
      ∙ ap (λ n. n * mask) (ap (λ n. 2 ^ n) one_on ∙ pow-suc 2 (length before)) ∙ mul_assoc (2 ^ length before) 2 mask

  one_weight : (before : List ℕ) (w : ℕ) (words : List ℕ)
      → weight marked (before ++ w ∷ words) (2 + length before) ≡ cond (names_unmarked marked w) (2 ^ length before) 0
  one_weight before w words =
      let at : 2 + length before - 2 ≡ length before = omega arith in
      ap (λ i. cond (names_unmarked marked (get_or (before ++ w ∷ words) i 0)) (2 ^ i) 0) at
      ∙ ap (λ x. cond (names_unmarked marked x) (2 ^ length before) 0) (at_seam before w 0 words)

  one_flag : (flag : Bool) (power mask : ℕ) → cond flag power 0 + power * (2 * mask) ≡ power * (cond flag 1 0 + 2 * mask)
  one_flag true power mask = omega arith
  one_flag false power mask = omega arith

  -- the bits of the words after the first one, which doesn't count
  rest_weights : (kinds : List Kind) (before : List ℕ) (w : ℕ) (words : List ℕ) (mask : ℕ)
      → sum_by (weight marked ((before ++ w ∷ []) ++ words)) (begin_from Weak (2 + length (before ++ w ∷ [])) kinds) ≡ 2 ^ length (before ++ w ∷ []) * mask
      → sum_by (weight marked (before ++ w ∷ words)) (begin_from Weak (2 + length before + 1) kinds) ≡ 2 ^ length before * (2 * mask)
  rest_weights kinds before w words mask is =
      let same : 2 + length before + 1 ≡ 2 + length (before ++ w ∷ []) = omega (arith, length_push before w) in
      ap (λ offset. sum_by (weight marked (before ++ w ∷ words)) (begin_from Weak offset kinds)) same
      ∙ next_word before w words (begin_from Weak (2 + length (before ++ w ∷ [])) kinds) mask is

  no_flag : (power mask : ℕ) → power * (2 * mask) ≡ power * (0 + 2 * mask)
  no_flag power mask = omega arith

  weights_from : (kinds : List Kind) (before words : List ℕ) → field_words kinds ≤ length words
      → sum_by (weight marked (before ++ words)) (begin_from Weak (2 + length before) kinds)
      ≡ 2 ^ length before * mask_of (dying_flags marked (kinds_of_words kinds) words)
  weights_from [] before words few = omega arith
  weights_from (kind ∷ kinds) before [] few = absurd (some_word kind kinds few)
  weights_from (Strong ∷ kinds) before (w ∷ words) few =
      rest_weights kinds before w words (mask_of (dying_flags marked (kinds_of_words kinds) words))
      (weights_from kinds (before ++ w ∷ []) words (omega (arith, few, sum_by-cons words_of_kind Strong kinds))) ∙ no_flag _ _
  weights_from (Plain ∷ kinds) before (w ∷ words) few =
      rest_weights kinds before w words (mask_of (dying_flags marked (kinds_of_words kinds) words))
      (weights_from kinds (before ++ w ∷ []) words (omega (arith, few, sum_by-cons words_of_kind Plain kinds))) ∙ no_flag _ _
  weights_from (Weak ∷ kinds) before (w ∷ words) few =
      let mask : ℕ = mask_of (dying_flags marked (kinds_of_words kinds) words) in
      let rest : List ℕ = begin_from Weak (2 + length before + 1) kinds in
      sum_by-cons (weight marked (before ++ w ∷ words)) (2 + length before) rest
      ∙ ap (λ n. n + sum_by (weight marked (before ++ w ∷ words)) rest) (one_weight before w words)
      ∙ ap (λ n. cond (names_unmarked marked w) (2 ^ length before) 0 + n)
      (rest_weights kinds before w words mask (weights_from kinds (before ++ w ∷ []) words (omega (arith, few, sum_by-cons words_of_kind Weak kinds))))
      ∙ one_flag (names_unmarked marked w) (2 ^ length before) mask
  weights_from (Pair ∷ kinds) before (k ∷ []) few = absurd (omega (arith, few, sum_by-cons words_of_kind Pair kinds))
  weights_from (Pair ∷ kinds) before (k ∷ w ∷ words) few =
      let mask : ℕ = mask_of (dying_flags marked (kinds_of_words kinds) words) in
      let key : List ℕ = before ++ k ∷ [] in
      let same : 2 + length before + 2 ≡ 2 + length key + 1 = omega (arith, length_push before k) in
      ap (λ offset. sum_by (weight marked (before ++ k ∷ w ∷ words)) (begin_from Weak offset kinds)) same
      ∙ next_word before k (w ∷ words) (begin_from Weak (2 + length key + 1) kinds) (2 * mask)
      (rest_weights kinds key w words mask (weights_from kinds (key ++ w ∷ []) words (omega (arith, few, sum_by-cons words_of_kind Pair kinds))))
      ∙ (let both : 2 ^ length before * (2 * (2 * mask)) ≡ 2 ^ length before * (0 + 2 * (0 + 2 * mask)) = omega arith in both)

  -- the bits of the words at the told offsets are those of all words that are dying
  pub weights_are : (kinds : List Kind) (words : List ℕ) → field_words kinds ≤ length words
      → sum_by (weight marked words) (offsets_of_kind Weak kinds) ≡ mask_of (dying_flags marked (kinds_of_words kinds) words)
  weights_are kinds words few =
      ap (sum_by (weight marked words)) (told_is Weak [] kinds) ∙ weights_from kinds [] words few
      ∙ (let one : 2 ^ 0 * mask_of (dying_flags marked (kinds_of_words kinds) words) ≡ mask_of (dying_flags marked (kinds_of_words kinds) words) = omega arith in one)

-- ---- they fit a word

few_flags : (marked : List ℕ) (kinds : List Kind) (words : List ℕ) → length (dying_flags marked kinds words) ≤ length kinds
few_flags marked [] words = omega arith
few_flags marked (kind ∷ kinds) [] = omega arith
few_flags marked (kind ∷ kinds) (w ∷ words) = omega (arith, few_flags marked kinds words)

one_bit : (flag : Bool) → cond flag 1 0 ≤ 1
one_bit true = omega arith
one_bit false = omega arith

mask_below : (flags : List Bool) (n : ℕ) → length flags ≤ n → mask_of flags < 2 ^ n
mask_below [] n few = pow_pos n
mask_below (flag ∷ flags) zero few = absurd (omega arith)
mask_below (flag ∷ flags) (suc n) few = omega (arith, mask_below flags n (omega arith), one_bit flag, pow-suc 2 n)

pub weights_below : (marked : List ℕ) (kinds : List Kind) (words : List ℕ) → field_words kinds ≤ length words → field_words kinds ≤ 64
    → sum_by (weight marked words) (offsets_of_kind Weak kinds) < 2 ^ 64
weights_below marked kinds words long few =
    subst (λ n. n < 2 ^ 64) (sym (weights_are marked kinds words long))
    (mask_below (dying_flags marked (kinds_of_words kinds) words) 64 (omega (arith, few_flags marked (kinds_of_words kinds) words, length-kinds_of_words kinds, few)))

-- ---- the word at one more offset

module _ (marked words told : List ℕ) (k mask : ℕ) (low : k < length told) (so_far : mask ≡ sum_by (weight marked words) (take k told)) where
  next_weight : (flag : Bool) → names_unmarked marked (get_or words (get_or told k 0 - 2) 0) ≡ flag
      → mask + cond flag (2 ^ (get_or told k 0 - 2)) 0 ≡ sum_by (weight marked words) (take (k + 1) told)
  next_weight flag named =
      ap (λ n. n + cond flag (2 ^ (get_or told k 0 - 2)) 0) so_far
      ∙ ap (λ t. sum_by (weight marked words) (take k told) + cond t (2 ^ (get_or told k 0 - 2)) 0) (sym named)
      ∙ sym (sum_by_more (weight marked words) told k 0 low)

  -- its bit is added, where it is dying
  pub one_dying : (after : ℕ) → names_unmarked marked (get_or words (get_or told k 0 - 2) 0) ≡ true → get_or told k 0 - 2 < 64
      → after ≡ mask + 1 * 2 ^ (get_or told k 0 - 2) % 2 ^ 64 → after ≡ sum_by (weight marked words) (take (k + 1) told)
  one_dying after named few is = is ∙ ap (λ n. mask + n) (one_shl (get_or told k 0 - 2) 64 few) ∙ next_weight true named

  pub none_dying : (after : ℕ) → names_unmarked marked (get_or words (get_or told k 0 - 2) 0) ≡ false → after ≡ mask
      → after ≡ sum_by (weight marked words) (take (k + 1) told)
  none_dying after named is = is ∙ (let same : mask ≡ mask + 0 = omega arith in same) ∙ next_weight false named

  pub still_fits : names_unmarked marked (get_or words (get_or told k 0 - 2) 0) ≡ true → get_or told k 0 - 2 < 64
      → sum_by (weight marked words) told < 2 ^ 64 → mask + 1 * 2 ^ (get_or told k 0 - 2) % 2 ^ 64 < 2 ^ 64
  still_fits named few below = omega (arith, below, one_dying _ named few refl, sum_by-take-le (weight marked words) told (k + 1))
