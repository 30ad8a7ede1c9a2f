-- From the ranks of words to the reason that they give.
use Rattle.std.proofs.Common.{◌≡◌, ℕ, ◌≤◌, ◌==◌, ◌||◌, ◌&&◌, nat_le, codes, not, min, Bool, true, false, Option, Some, None, cond, List, [], ◌∷◌, length, refl, sym, ap, ◌∙◌, arith}
use Rattle.gc_graph.specs.declared.command.Command.{Command}
use Rattle.gc_graph.specs.Words.{is_text}
use Rattle.gc_graph.specs.Forms.{Place, Form, form_of}
use Rattle.gc_graph.specs.Forms.Form.{Missing, Known}
use Rattle.gc_graph.specs.Reasons.{Reason, Bounds, number_of, reason_of_command, any_word, rest_of, is_unknown, is_bad, is_outside, is_half, is_half_null, first_is, has_unknown_word, has_bad_number, has_other_count, has_outside, is_any_too_large, type_of_words, has_too_many}
use Rattle.gc_graph.specs.Reasons.Reason.{UnknownWord, BadNumber, Count, Range}
use Rattle.command_text.specs.Ranks.{rank_by, rank_at, lowest, count_rank, half_rank, many_rank, form_rank, reason_ranked}

-- ---- two ranks in one

rank_ge2 : (u b c o : Bool) → 2 ≤ rank_by u b c o
rank_ge2 true b c o = omega arith
rank_ge2 false true c o = omega arith
rank_ge2 false false true o = omega arith
rank_ge2 false false false true = omega arith
rank_ge2 false false false false = omega arith

rank_ge3 : (b c o : Bool) → 3 ≤ rank_by false b c o
rank_ge3 true c o = omega arith
rank_ge3 false true o = omega arith
rank_ge3 false false true = omega arith
rank_ge3 false false false = omega arith

rank_ge4 : (c o : Bool) → 4 ≤ rank_by false false c o
rank_ge4 true o = omega arith
rank_ge4 false true = omega arith
rank_ge4 false false = omega arith

rank_ge5 : (o : Bool) → 5 ≤ rank_by false false false o
rank_ge5 true = omega arith
rank_ge5 false = omega arith

-- the rank of two sets of faults is the lower of theirs
pub rank_or : (u b c o u' b' c' o' : Bool)
    → rank_by (u || u') (b || b') (c || c') (o || o') ≡ min (rank_by u b c o) (rank_by u' b' c' o')
rank_or true b c o u' b' c' o' = omega (arith, rank_ge2 u' b' c' o')
rank_or false true c o true b' c' o' = refl
rank_or false true c o false b' c' o' = omega (arith, rank_ge3 b' c' o')
rank_or false false true o true b' c' o' = refl
rank_or false false true o false true c' o' = refl
rank_or false false true o false false c' o' = omega (arith, rank_ge4 c' o')
rank_or false false false true true b' c' o' = refl
rank_or false false false true false true c' o' = refl
rank_or false false false true false false true o' = refl
rank_or false false false true false false false o' = omega (arith, rank_ge5 o')
rank_or false false false false true b' c' o' = refl
rank_or false false false false false true c' o' = refl
rank_or false false false false false false true o' = refl
rank_or false false false false false false false true = refl
rank_or false false false false false false false false = refl

-- ---- the words at their places

pub lowest_is : (bounds : Bounds) (places : List Place) (words : List (List ℕ))
    → lowest bounds places words
    ≡ rank_by (any_word is_unknown places words) (any_word is_bad places words) false (any_word (is_outside bounds) places words)
lowest_is bounds [] words = refl
lowest_is bounds (place ∷ places) [] = refl
lowest_is bounds (place ∷ places) (word ∷ words) =
    ap (min (rank_at bounds place word)) (lowest_is bounds places words)
    ∙ sym (rank_or (is_unknown place word) (is_bad place word) false (is_outside bounds place word)
    (any_word is_unknown places words) (any_word is_bad places words) false (any_word (is_outside bounds) places words))

-- ---- forms

or_false : (b : Bool) → (b || false) ≡ b
or_false true = refl
or_false false = refl

half_many : (half same many : Bool)
    → rank_by false half (not same) many ≡ min (cond half 3 9) (min (cond same 9 4) (cond many 5 9))
half_many true true true = refl
half_many true true false = refl
half_many true false true = refl
half_many true false false = refl
half_many false true true = refl
half_many false true false = refl
half_many false false true = refl
half_many false false false = refl

known_by : (u b o half same many : Bool)
    → rank_by u (b || half) (not same) (o || many)
    ≡ min (rank_by u b false o) (min (cond half 3 9) (min (cond same 9 4) (cond many 5 9)))
known_by u b o half same many =
    ap (λ x. rank_by x (b || half) (not same) (o || many)) (sym (or_false u))
    ∙ rank_or u b false o false half (not same) many
    ∙ ap (min (rank_by u b false o)) (half_many half same many)

-- the rank of a form with its places
pub known_rank : (bounds : Bounds) (places : List Place) (command : List ℕ → Option Command) (words : List (List ℕ))
    → form_rank bounds (Known places command) words
    ≡ min (lowest bounds places (rest_of words))
    (min (half_rank words) (min (count_rank (length (rest_of words)) (length places)) (many_rank bounds words)))
known_rank bounds places command words =
    let rest : List (List ℕ) = rest_of words in
    known_by (any_word is_unknown places rest) (any_word is_bad places rest) (any_word (is_outside bounds) places rest)
    (is_half_null words) (length rest == length places) (has_too_many bounds words)
    ∙ ap (λ n. min n (min (half_rank words) (min (count_rank (length rest) (length places)) (many_rank bounds words))))
    (sym (lowest_is bounds places rest))

missing_by : (u b o many : Bool) → rank_by u b true (o || many) ≡ min (rank_by u b false o) 4
missing_by true b o many = refl
missing_by false true o many = refl
missing_by false false true many = refl
missing_by false false false many = refl

-- the rank of a form of which the word that chooses it isn't there
pub missing_rank : (bounds : Bounds) (places : List Place) (words : List (List ℕ))
    → form_rank bounds (Missing places) words ≡ min (lowest bounds places (rest_of words)) 4
missing_rank bounds places words =
    let rest : List (List ℕ) = rest_of words in
    missing_by (any_word is_unknown places rest) (any_word is_bad places rest) (any_word (is_outside bounds) places rest)
    (has_too_many bounds words)
    ∙ ap (λ n. min n 4) (sym (lowest_is bounds places rest))

-- ---- the reason

reason_by : (u b c o : Bool)
    → cond u (Some UnknownWord) (cond b (Some BadNumber) (cond c (Some Count) (cond o (Some Range) None))) ≡ reason_ranked (rank_by u b c o)
reason_by true b c o = refl
reason_by false true c o = refl
reason_by false false true o = refl
reason_by false false false true = refl
reason_by false false false false = refl

-- the reason that words give is that of their rank
pub ranked : (bounds : Bounds) (words : List (List ℕ)) → reason_of_command bounds words ≡ reason_ranked (form_rank bounds (form_of words) words)
ranked bounds words =
    let form : Form = form_of words in
    reason_by (has_unknown_word form words) (has_bad_number form words) (has_other_count form words)
    (has_outside bounds form words || has_too_many bounds words)

-- a rank below 9 is the number of its reason
rank_tells : (u b c o : Bool) → (rank_by u b c o ≡ 9 → ⊥)
    → (why : Reason) × (rank_by u b c o ≡ number_of why) × (reason_ranked (rank_by u b c o) ≡ Some why)
rank_tells true b c o low = (UnknownWord, refl, refl)
rank_tells false true c o low = (BadNumber, refl, refl)
rank_tells false false true o low = (Count, refl, refl)
rank_tells false false false true low = (Range, refl, refl)
rank_tells false false false false low = absurd (low refl)

-- words without a reason have rank 9
pub faultless : (bounds : Bounds) (words : List (List ℕ)) → form_rank bounds (form_of words) words ≡ 9 → reason_of_command bounds words ≡ None
faultless bounds words e = ranked bounds words ∙ ap reason_ranked e

-- and others the number of their reason
pub faulty : (bounds : Bounds) (words : List (List ℕ)) → (form_rank bounds (form_of words) words ≡ 9 → ⊥)
    → (why : Reason) × (form_rank bounds (form_of words) words ≡ number_of why) × (reason_of_command bounds words ≡ Some why)
faulty bounds words low =
    let form : Form = form_of words in
    let tells : (why : Reason) × (form_rank bounds form words ≡ number_of why) × (reason_ranked (form_rank bounds form words) ≡ Some why) =
    rank_tells (has_unknown_word form words) (has_bad_number form words) (has_other_count form words)
    (has_outside bounds form words || has_too_many bounds words) low in
    (tells.0, tells.1, ranked bounds words ∙ tells.2)

-- ---- what only some lines can have

-- only a pair is half null
pub half_elsewhere : (first : List ℕ) (rest : List (List ℕ)) → is_text first (codes "pair") ≡ false → half_rank (first ∷ rest) ≡ 9
half_elsewhere first [] other = refl
half_elsewhere first (p ∷ []) other = refl
half_elsewhere first (p ∷ f ∷ []) other = refl
half_elsewhere first (p ∷ f ∷ k ∷ []) other = refl
half_elsewhere first (p ∷ f ∷ k ∷ v ∷ more) other = ap (λ b. cond (b && is_half k v) 3 9) other

-- and only a type line has too many callbacks or types before it
pub many_elsewhere : (bounds : Bounds) (words : List (List ℕ)) → first_is (codes "type") words ≡ false → many_rank bounds words ≡ 9
many_elsewhere bounds words other = ap (λ b. cond (b && (is_any_too_large (type_of_words words) || nat_le 16383 bounds.types)) 5 9) other
