-- The reasons of a type line, as the grammar says them and by its parts.
use Rattle.std.proofs.Common.{◌≡◌, ℕ, ◌+◌, ◌==◌, ◌&&◌, ◌||◌, Bool, true, false, not, cond, Option, Some, None, List, [], ◌∷◌, ◌++◌, length, drop, refl, sym, ap, ◌∙◌, arith}
use Rattle.std.specs.Prelude.{codes, replicate, nat_lt, nat_le}
use Rattle.std.specs.List.{list_all, list_any}
use Rattle.std.proofs.lemmas.Bool.{eq-eqb, ne_eqb}
use Rattle.std.proofs.lemmas.List.{append-nil, length-append, length-replicate}
use Rattle.gc_graph.specs.Words.{is_text, is_number}
use Rattle.gc_graph.specs.Forms.{Place, first_list, second_list, list_places, lacking, type_places}
use Rattle.gc_graph.specs.Forms.Place.{Letters, Callback}
use Rattle.gc_graph.specs.Reasons.{Reason, Bounds, are_letters, is_beyond, is_unknown, is_bad, is_outside, any_word, is_half_null, type_said, is_too_large, reason_of_words}
use Rattle.gc_graph.specs.Reasons.Reason.{UnknownWord, BadNumber, Count, Range}
use Rattle.heap_script.specs.TypeLines.{is_misnamed, has_numbers, is_bare, has_beyond, or_range, reason_of_type}
use Rattle.heap_script.proofs.WeakWords.{both_lists, weak_named}

-- ---- the words at their places

any_append : (is_so : Place → List ℕ → Bool) (places more : List Place) (words rest : List (List ℕ)) → length places ≡ length words
    → any_word is_so (places ++ more) (words ++ rest) ≡ (any_word is_so places words || any_word is_so more rest)
any_append is_so [] more [] rest same = refl
any_append is_so [] more (word ∷ words) rest same = absurd (omega (arith, same))
any_append is_so (place ∷ places) more [] rest same = absurd (omega (arith, same))
any_append is_so (place ∷ places) more (word ∷ words) rest same =
    ap (λ b. is_so place word || b) (any_append is_so places more words rest (omega (arith, same)))
    ∙ regroup (is_so place word) (any_word is_so places words) (any_word is_so more rest) where
      regroup : (a b c : Bool) → (a || (b || c)) ≡ ((a || b) || c)
      regroup true b c = refl
      regroup false b c = refl

as_many : (name : List ℕ) (list : List (List ℕ)) → length (list_places name list) ≡ length list
as_many name [] = refl
as_many name (word ∷ numbers) = omega (arith, length-replicate (length numbers) Callback)

any_past : (is_so : Place → List ℕ → Bool) (places : List Place) → any_word is_so places [] ≡ false
any_past is_so [] = refl
any_past is_so (place ∷ places) = refl

-- the word before the numbers, or one of them
abbrev any_of_list : (Place → List ℕ → Bool) → List ℕ → List (List ℕ) → Bool
any_of_list is_so name list = any_word is_so (list_places name list) list

or_false : (b : Bool) → (b || false) ≡ b
or_false true = refl
or_false false = refl

-- the letters, and both lists
any_of_lists : (is_so : Place → List ℕ → Bool) (letters : List ℕ) (first second words : List (List ℕ)) → first ++ second ≡ words
    → any_word is_so (Letters ∷ (list_places (codes "pre") first ++ (list_places (codes "weak") second ++ (lacking first ++ lacking second)))) (letters ∷ words)
    ≡ (is_so Letters letters || (any_of_list is_so (codes "pre") first || any_of_list is_so (codes "weak") second))
any_of_lists is_so letters first second words whole =
    let lack : List Place = lacking first ++ lacking second in
    let rest : List Place = list_places (codes "weak") second ++ lack in
    ap (λ b. is_so Letters letters || b)
    (ap (any_word is_so (list_places (codes "pre") first ++ rest)) (sym whole)
    ∙ any_append is_so (list_places (codes "pre") first) rest first second (as_many (codes "pre") first)
    ∙ ap (λ b. any_of_list is_so (codes "pre") first || b)
    (ap (any_word is_so rest) (sym (append-nil second))
    ∙ any_append is_so (list_places (codes "weak") second) lack second [] (as_many (codes "weak") second)
    ∙ ap (λ b. any_of_list is_so (codes "weak") second || b) (any_past is_so lack)
    ∙ or_false (any_of_list is_so (codes "weak") second)))

any_callback : (is_so : Place → List ℕ → Bool) (words : List (List ℕ))
    → any_word is_so (replicate (length words) Callback) words ≡ list_any (is_so Callback) words
any_callback is_so [] = refl
any_callback is_so (word ∷ words) = ap (λ rest. is_so Callback word || rest) (any_callback is_so words)

none_unknown : (words : List (List ℕ)) → list_any (is_unknown Callback) words ≡ false
none_unknown [] = refl
none_unknown (word ∷ words) = none_unknown words

list_unknown : (name : List ℕ) (list : List (List ℕ)) → any_of_list is_unknown name list ≡ is_misnamed name list
list_unknown name [] = refl
list_unknown name (word ∷ numbers) =
    ap (λ b. not (is_text word name) || b) (any_callback is_unknown numbers ∙ none_unknown numbers) ∙ or_false (not (is_text word name))

not_both : (a b : Bool) → (not a || not b) ≡ not (a && b)
not_both true b = refl
not_both false b = refl

bad_callbacks : (words : List (List ℕ)) → list_any (is_bad Callback) words ≡ not (list_all is_number words)
bad_callbacks [] = refl
bad_callbacks (word ∷ words) =
    ap (λ rest. not (is_number word) || rest) (bad_callbacks words) ∙ not_both (is_number word) (list_all is_number words)

list_bad : (name : List ℕ) (list : List (List ℕ)) → any_of_list is_bad name list ≡ not (has_numbers list)
list_bad name [] = refl
list_bad name (word ∷ numbers) = any_callback is_bad numbers ∙ bad_callbacks numbers

list_outside : (bounds : Bounds) (name : List ℕ) (list : List (List ℕ))
    → any_of_list (is_outside bounds) name list ≡ list_any (is_beyond 0 bounds.callbacks) (drop 1 list)
list_outside bounds name [] = refl
list_outside bounds name (word ∷ numbers) = any_callback (is_outside bounds) numbers

-- a list lacks a callback exactly where its name stands alone
lack_bare : (list : List (List ℕ)) → length (lacking list) ≡ cond (is_bare list) 1 0
lack_bare [] = refl
lack_bare (word ∷ []) = refl
lack_bare (word ∷ number ∷ numbers) =
    ap (λ (b : Bool). cond b 1 0) (sym (ne_eqb (length (word ∷ number ∷ numbers)) 1 (λ e. omega (arith, e))))

count_by : (first second : Bool) (n : ℕ) (lack : ℕ) → lack ≡ cond first 1 0 + cond second 1 0 → (n == n + lack) ≡ not (first || second)
count_by true second n lack e = ne_eqb n (n + lack) (λ same. omega (arith, same, e))
count_by false true n lack e = ne_eqb n (n + lack) (λ same. omega (arith, same, e))
count_by false false n lack e = eq-eqb n (n + lack) (omega (arith, e))

same_count : (letters : List ℕ) (first second words : List (List ℕ)) → first ++ second ≡ words
    → (length (letters ∷ words)
    == length (Letters ∷ (list_places (codes "pre") first ++ (list_places (codes "weak") second ++ (lacking first ++ lacking second)))))
    ≡ not (is_bare first || is_bare second)
same_count letters first second words whole =
    let n : ℕ = length (letters ∷ words) in
    let places : List Place = Letters ∷ (list_places (codes "pre") first ++ (list_places (codes "weak") second ++ (lacking first ++ lacking second))) in
    let lack : ℕ = length (lacking first) + length (lacking second) in
    let many : length places ≡ n + lack = omega (
      arith,
      length-append (list_places (codes "pre") first) (list_places (codes "weak") second ++ (lacking first ++ lacking second)),
      length-append (list_places (codes "weak") second) (lacking first ++ lacking second),
      length-append (lacking first) (lacking second),
      as_many (codes "pre") first,
      as_many (codes "weak") second,
      length-append first second,
      ap length whole,
    ) in
    ap (λ (m : ℕ). n == m) many ∙ count_by (is_bare first) (is_bare second) n lack (omega (arith, lack_bare first, lack_bare second))

-- no type line is a pair
no_pair : (more : List (List ℕ)) → is_half_null (codes "type" ∷ more) ≡ false
no_pair [] = refl
no_pair (a ∷ []) = refl
no_pair (a ∷ b ∷ []) = refl
no_pair (a ∷ b ∷ c ∷ []) = refl
no_pair (a ∷ b ∷ c ∷ d ∷ more) = refl

-- ---- the reason, from what holds of the words

abbrev by_ranks : Bool → Bool → Bool → Bool → Option Reason
by_ranks unknown bad count outside =
    cond unknown (Some UnknownWord) (cond bad (Some BadNumber) (cond count (Some Count) (cond outside (Some Range) None)))

same_ranks : {a b c d e f g h : Bool} → a ≡ e → b ≡ f → c ≡ g → d ≡ h → by_ranks a b c d ≡ by_ranks e f g h
same_ranks p q r s = cc

over_alike : (long beyond large types : Bool) → ((long || beyond) || (large || types)) ≡ (long || (beyond || (large || types)))
over_alike true beyond large types = refl
over_alike false beyond large types = refl

with_lists : (letters misnamed plain bare over : Bool)
    → by_ranks (not letters || misnamed) (not plain) bare over
    ≡ cond (not letters) (Some UnknownWord)
    (or_range over (cond misnamed (Some UnknownWord) (cond (not plain) (Some BadNumber) (cond bare (Some Count) None))))
with_lists false misnamed plain bare over = refl
with_lists true true plain bare over = refl
with_lists true false false bare over = refl
with_lists true false true true over = refl
with_lists true false true false over = refl

not_not : (b : Bool) → not (not b) ≡ b
not_not true = refl
not_not false = refl

-- ---- the whole line

pub type_reason : (version : ℕ) (bounds : Bounds) (more : List (List ℕ))
    → reason_of_words version bounds (codes "type" ∷ more) ≡ reason_of_type version bounds more
type_reason version bounds [] = refl
type_reason version bounds (letters ∷ words) =
    let first : List (List ℕ) = first_list version words in
    let second : List (List ℕ) = second_list version words in
    let whole : first ++ second ≡ words = both_lists (version == 2) words in
    let named : is_misnamed (codes "weak") second ≡ false = weak_named (version == 2) words in
    same_ranks
    (any_of_lists is_unknown letters first second words whole
    ∙ ap (λ b. not (are_letters letters) || (b || any_of_list is_unknown (codes "weak") second)) (list_unknown (codes "pre") first)
    ∙ ap (λ b. not (are_letters letters) || (is_misnamed (codes "pre") first || b)) (list_unknown (codes "weak") second ∙ named)
    ∙ ap (λ b. not (are_letters letters) || b) (or_false (is_misnamed (codes "pre") first)))
    (ap (λ b. any_word is_bad (type_places version (letters ∷ words)) (letters ∷ words) || b) (no_pair (letters ∷ words))
    ∙ or_false (any_word is_bad (type_places version (letters ∷ words)) (letters ∷ words))
    ∙ any_of_lists is_bad letters first second words whole
    ∙ ap (λ b. b || any_of_list is_bad (codes "weak") second) (list_bad (codes "pre") first)
    ∙ ap (λ b. not (has_numbers first) || b) (list_bad (codes "weak") second)
    ∙ not_both (has_numbers first) (has_numbers second))
    (ap not (same_count letters first second words whole) ∙ not_not (is_bare first || is_bare second))
    (ap (λ b. b || (is_too_large (type_said letters words) || nat_le 16383 bounds.types))
    (any_of_lists (is_outside bounds) letters first second words whole
    ∙ ap (λ b. nat_lt 64 (length letters) || (b || any_of_list (is_outside bounds) (codes "weak") second)) (list_outside bounds (codes "pre") first)
    ∙ ap (λ b. nat_lt 64 (length letters) || (list_any (is_beyond 0 bounds.callbacks) (drop 1 first) || b)) (list_outside bounds (codes "weak") second))
    ∙ over_alike (nat_lt 64 (length letters)) (has_beyond version bounds.callbacks words) (is_too_large (type_said letters words)) (nat_le 16383 bounds.types))
    ∙ with_lists (are_letters letters) (is_misnamed (codes "pre") first) (has_numbers first && has_numbers second) (is_bare first || is_bare second)
    (nat_lt 64 (length letters) || (has_beyond version bounds.callbacks words || (is_too_large (type_said letters words) || nat_le 16383 bounds.types)))
