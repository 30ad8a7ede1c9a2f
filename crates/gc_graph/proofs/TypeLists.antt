-- The two lists of a type line: the prefinalizers and the weak callbacks.
use Rattle.std.proofs.Common.{◌≡◌, ℕ, ◌<◌, Bool, true, false, cond, List, [], ◌∷◌, ◌++◌, length, map, replicate, All, refl, sym, ap, ◌∙◌, subst, inl, inr, arith}
use Rattle.std.specs.Prelude.{codes, not, ◌==◌}
use Rattle.std.specs.List.{list_all}
use Rattle.std.specs.Cmp.Lexicographic.{bytes_decides}
use Rattle.std.proofs.lemmas.Bool.{cases_Bool, cond-false, and_from, and_parts, or_from, or_parts, not-false, true≢false, eqb-true}
use Rattle.std.proofs.lemmas.List.{append-nil, length-replicate}
use Rattle.std.proofs.lemmas.List.Elements.{All-nil, All-cons}
use Rattle.gc_graph.specs.Words.{is_text, is_number}
use Rattle.gc_graph.specs.Forms.{Place, before_weak, from_weak, first_list, second_list, list_places, lacking, type_places}
use Rattle.gc_graph.specs.Forms.Place.{Letters, Callback}
use Rattle.gc_graph.specs.Reasons.{Bounds, value_of, is_unknown, is_bad, is_outside, is_beyond, any_word, numbers_of}
use Rattle.gc_graph.proofs.SaidNumbers.{number_fits}

-- ---- the word `weak`

-- no number is this word
no_weak : (word : List ℕ) → is_number word ≡ true → is_text word (codes "weak") ≡ false
no_weak word number = elim (cases_Bool (is_text word (codes "weak"))) [
  | inl is ↦ absurd (true≢false (sym number ∙ ap is_number ((bytes_decides word (codes "weak")).0 is)))
  | inr other ↦ other
]

-- the words stand before it
record AreBefore (words : List (List ℕ)) : Type 0 where
  before : before_weak words ≡ words
  after : from_weak words ≡ []

one_before : (word : List ℕ) (words : List (List ℕ)) → is_text word (codes "weak") ≡ false → AreBefore words → AreBefore (word ∷ words)
one_before word words other more = record {
  before = cond-false (is_text word (codes "weak")) [] (word ∷ before_weak words) other ∙ ap (λ ws. word ∷ ws) more.before;
  after = cond-false (is_text word (codes "weak")) (word ∷ words) (from_weak words) other ∙ more.after;
}

numbers_before : (words : List (List ℕ)) → list_all is_number words ≡ true → AreBefore words
numbers_before [] all = record { before = refl; after = refl }
numbers_before (word ∷ words) all =
    let parts = and_parts (is_number word) (list_all is_number words) all in
    one_before word words (no_weak word parts.0) (numbers_before words parts.1)

-- each word stands before it or from it on
both_lists : (words : List (List ℕ)) → before_weak words ++ from_weak words ≡ words
both_lists [] = refl
both_lists (word ∷ words) = by_word (is_text word (codes "weak")) (both_lists words) where
  by_word : (is : Bool) → before_weak words ++ from_weak words ≡ words
      → cond is [] (word ∷ before_weak words) ++ cond is (word ∷ words) (from_weak words) ≡ word ∷ words
  by_word true rest = refl
  by_word false rest = ap (λ ws. word ∷ ws) rest

lists_by : (second : Bool) (words : List (List ℕ)) → cond second (before_weak words) words ++ cond second (from_weak words) [] ≡ words
lists_by true words = both_lists words
lists_by false words = append-nil words

-- ---- words that have no fault at their places

abbrev IsNone : (Place → List ℕ → Bool) → List Place → List (List ℕ) → Type 0
IsNone is_so places words = any_word is_so places words ≡ false

none_parts : (is_so : Place → List ℕ → Bool) (places more : List Place) (words rest : List (List ℕ)) → length places ≡ length words
    → IsNone is_so (places ++ more) (words ++ rest) → IsNone is_so places words × IsNone is_so more rest
none_parts is_so [] more [] rest same none = (refl, none)
none_parts is_so [] more (word ∷ words) rest same none = absurd (omega (arith, same))
none_parts is_so (place ∷ places) more [] rest same none = absurd (omega (arith, same))
none_parts is_so (place ∷ places) more (word ∷ words) rest same none =
    let parts = or_parts (is_so place word) (any_word is_so (places ++ more) (words ++ rest)) none in
    let others = none_parts is_so places more words rest (omega (arith, same)) parts.1 in
    (or_from (is_so place word) (any_word is_so places words) parts.0 others.0, others.1)

as_many : (name : List ℕ) (list : List (List ℕ)) → length (list_places name list) ≡ length list
as_many name [] = refl
as_many name (word ∷ numbers) = omega (arith, length-replicate (length numbers) Callback)

-- no word of a list has the fault at its place
abbrev IsGoodList : (Place → List ℕ → Bool) → List ℕ → List (List ℕ) → Type 0
IsGoodList is_so name list = IsNone is_so (list_places name list) list

-- where no word after the letters has it, none of either list has it
list_parts : (is_so : Place → List ℕ → Bool) (letters : List ℕ) (first second words : List (List ℕ)) (lack : List Place) → first ++ second ≡ words
    → IsNone is_so (Letters ∷ (list_places (codes "pre") first ++ (list_places (codes "weak") second ++ lack))) (letters ∷ words)
    → IsGoodList is_so (codes "pre") first × IsGoodList is_so (codes "weak") second
list_parts is_so letters first second words lack whole none =
    let both : IsNone is_so (list_places (codes "pre") first ++ (list_places (codes "weak") second ++ lack)) (first ++ second) =
    ap (any_word is_so (list_places (codes "pre") first ++ (list_places (codes "weak") second ++ lack))) whole
    ∙ (or_parts (is_so Letters letters) _ none).1 in
    let parts = none_parts is_so (list_places (codes "pre") first) (list_places (codes "weak") second ++ lack) first second (as_many (codes "pre") first) both in
    let last : IsNone is_so (list_places (codes "weak") second ++ lack) (second ++ []) =
    ap (any_word is_so (list_places (codes "weak") second ++ lack)) (append-nil second) ∙ parts.1 in
    (parts.0, (none_parts is_so (list_places (codes "weak") second) lack second [] (as_many (codes "weak") second) last).0)

-- ---- the callbacks of a list

callbacks_known : (bounds : Bounds) (words : List (List ℕ)) → IsNone is_bad (replicate (length words) Callback) words
    → IsNone (is_outside bounds) (replicate (length words) Callback) words → All (λ number. number < bounds.callbacks) (map value_of words)
callbacks_known bounds [] good inside = All-nil (λ number. number < bounds.callbacks)
callbacks_known bounds (word ∷ words) good inside =
    let g = or_parts (not (is_number word)) _ good in
    let i = or_parts (is_beyond 0 bounds.callbacks word) _ inside in
    All-cons (λ number. number < bounds.callbacks) (value_of word) (map value_of words)
    (number_fits 0 bounds.callbacks word (not-false _ g.0) i.0).1 (callbacks_known bounds words g.1 i.1)

list_known : (bounds : Bounds) (name : List ℕ) (list : List (List ℕ)) → IsGoodList is_bad name list → IsGoodList (is_outside bounds) name list
    → All (λ number. number < bounds.callbacks) (numbers_of list)
list_known bounds name [] good inside = All-nil (λ number. number < bounds.callbacks)
list_known bounds name (word ∷ numbers) good inside = callbacks_known bounds numbers good inside

all_numbers : (words : List (List ℕ)) → IsNone is_bad (replicate (length words) Callback) words → list_all is_number words ≡ true
all_numbers [] good = refl
all_numbers (word ∷ words) good =
    let g = or_parts (not (is_number word)) _ good in
    and_from (is_number word) (list_all is_number words) (not-false _ g.0) (all_numbers words g.1)

-- a list that begins with `pre` and goes on with numbers has no word `weak`
pre_before : (list : List (List ℕ)) → IsGoodList is_unknown (codes "pre") list → IsGoodList is_bad (codes "pre") list → AreBefore list
pre_before [] known good = record { before = refl; after = refl }
pre_before (word ∷ numbers) known good =
    let pre : word ≡ codes "pre" =
    (bytes_decides word (codes "pre")).0 (not-false _ (or_parts (not (is_text word (codes "pre"))) _ known).0) in
    one_before word numbers (ap (λ (w : List ℕ). is_text w (codes "weak")) pre) (numbers_before numbers (all_numbers numbers good))

-- ---- the callbacks of a type line

-- the numbers of both lists are callbacks; in version 1 there are no weak ones
pub record AreKnown (version callbacks : ℕ) (words : List (List ℕ)) : Type 0 where
  pub prefinalizers : All (λ number. number < callbacks) (numbers_of (before_weak words))
  pub weak_callbacks : All (λ number. number < callbacks) (numbers_of (from_weak words))
  pub none_before : version ≡ 1 → numbers_of (from_weak words) ≡ []

known_by : (version callbacks : ℕ) (words : List (List ℕ)) (second : Bool) → (version == 2) ≡ second → (second ≡ false → AreBefore words)
    → All (λ number. number < callbacks) (numbers_of (cond second (before_weak words) words))
    → All (λ number. number < callbacks) (numbers_of (cond second (from_weak words) []))
    → AreKnown version callbacks words
known_by version callbacks words true is one first second = record {
  prefinalizers = first;
  weak_callbacks = second;
  none_before = λ e. absurd (let two : version ≡ 2 = eqb-true version 2 is in omega (arith, two, e));
}
known_by version callbacks words false is one first second =
    let before = one refl in
    record {
      prefinalizers = subst (λ list. All (λ number. number < callbacks) (numbers_of list)) (sym before.before) first;
      weak_callbacks = subst (λ list. All (λ number. number < callbacks) (numbers_of list)) (sym before.after) second;
      none_before = λ e. ap numbers_of before.after;
    }

pub callbacks_are_known : (version : ℕ) (bounds : Bounds) (letters : List ℕ) (words : List (List ℕ))
    → any_word is_unknown (type_places version (letters ∷ words)) (letters ∷ words) ≡ false
    → any_word is_bad (type_places version (letters ∷ words)) (letters ∷ words) ≡ false
    → any_word (is_outside bounds) (type_places version (letters ∷ words)) (letters ∷ words) ≡ false → AreKnown version bounds.callbacks words
callbacks_are_known version bounds letters words known good inside =
    let second : Bool = version == 2 in
    let first_words : List (List ℕ) = first_list version words in
    let second_words : List (List ℕ) = second_list version words in
    let lack : List Place = lacking first_words ++ lacking second_words in
    let whole : first_words ++ second_words ≡ words = lists_by second words in
    let u = list_parts is_unknown letters first_words second_words words lack whole known in
    let g = list_parts is_bad letters first_words second_words words lack whole good in
    let i = list_parts (is_outside bounds) letters first_words second_words words lack whole inside in
    known_by version bounds.callbacks words second refl
    (λ none. (let same : first_words ≡ words = ap (λ b. cond b (before_weak words) words) none in
    pre_before words (subst (IsGoodList is_unknown (codes "pre")) same u.0) (subst (IsGoodList is_bad (codes "pre")) same g.0)))
    (list_known bounds (codes "pre") first_words g.0 i.0)
    (list_known bounds (codes "weak") second_words g.1 i.1)
