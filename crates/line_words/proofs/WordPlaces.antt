-- The words of a line by their places.
use Rattle.std.proofs.Common.{◌≡◌, ℕ, ◌+◌, ◌-◌, ◌<◌, ◌≤◌, ◌==◌, true, false, not, Some, List, [], ◌∷◌, ◌++◌, length, get_or, take, drop, refl, sym, ap, ◌∙◌, subst, inl, inr, arith, ◌⊎◌}
use Rattle.std.specs.List.{slice_split, onto_first, list_all, filter, slice_get}
use Rattle.std.proofs.lemmas.List.{drop_more, drop_all, take-append-drop, drop-drop, get_or-drop, length-drop, length-take}
use Rattle.std.proofs.lemmas.List.Folds.{list_all_more}
use Rattle.std.proofs.lemmas.List.Splits.{slice_split-cons_yes, slice_split-cons_no}
use Rattle.std.proofs.lemmas.Bool.{cond-true, cond-false, and_parts, not-true, not_from_false, ne_eqb, eqb-true, cases_Bool, and_from, cases_lt}
use Rattle.std.proofs.lemmas.Option.{slice_get-get_or}
use Rattle.gc_graph.specs.Words.{lines_of_parts, words_of}
use Rattle.line_words.specs.LineParts.{after_parts}
use Rattle.line_words.specs.Cursor.{first_line, line_words, lines_after, is_word_byte, IsNextWord, IsPastSpaces, IsWordEnd}
use Rattle.gc_graph.specs.WordBytes.{kept}

-- the first line is the first part
first_of_parts : (parts : List (List ℕ)) → get_or (lines_of_parts parts) 0 [] ≡ get_or parts 0 []
first_of_parts [] = refl
first_of_parts ([] ∷ []) = refl
first_of_parts ((b ∷ last) ∷ []) =
    ap (λ lines. get_or lines 0 [])
    (cond-false (length (b ∷ last) == 0) [] ((b ∷ last) ∷ []) (ne_eqb (length (b ∷ last)) 0 (λ e. omega (arith, e))))
first_of_parts (line ∷ next ∷ more) = refl

first_onto : (b : ℕ) (parts : List (List ℕ)) → get_or (onto_first b parts) 0 [] ≡ b ∷ get_or parts 0 []
first_onto b [] = refl
first_onto b (part ∷ parts) = refl

after_onto : (b : ℕ) (parts : List (List ℕ)) → drop 1 (onto_first b parts) ≡ drop 1 parts
after_onto b [] = refl
after_onto b (part ∷ parts) = refl

-- ---- a byte more in front

pub line_first : (b : ℕ) (bytes : List ℕ) → (b == 10) ≡ false → first_line (b ∷ bytes) ≡ b ∷ first_line bytes
line_first b bytes e =
    let split : List (List ℕ) = slice_split (λ x. x == 10) bytes in
    first_of_parts (slice_split (λ x. x == 10) (b ∷ bytes))
    ∙ ap (λ parts. get_or parts 0 []) (slice_split-cons_no (λ x. x == 10) b bytes e)
    ∙ first_onto b split
    ∙ ap (λ line. b ∷ line) (sym (first_of_parts split))

pub after_first : (b : ℕ) (bytes : List ℕ) → (b == 10) ≡ false → lines_after (b ∷ bytes) ≡ lines_after bytes
after_first b bytes e =
    let split : List (List ℕ) = slice_split (λ x. x == 10) bytes in
    after_parts (slice_split (λ x. x == 10) (b ∷ bytes))
    ∙ ap (λ (parts : List (List ℕ)). lines_of_parts (drop 1 parts)) (slice_split-cons_no (λ x. x == 10) b bytes e)
    ∙ ap lines_of_parts (after_onto b split)
    ∙ sym (after_parts split)

line_end_first : (b : ℕ) (bytes : List ℕ) → (b == 10) ≡ true → first_line (b ∷ bytes) ≡ []
line_end_first b bytes e =
    first_of_parts (slice_split (λ x. x == 10) (b ∷ bytes))
    ∙ ap (λ parts. get_or parts 0 []) (slice_split-cons_yes (λ x. x == 10) b bytes e)

-- ---- words of a line

-- what a line holds after a word: nothing, or a space first
abbrev BeginsBetween : List ℕ → Type 0
BeginsBetween [] = Unit {0}
BeginsBetween (b ∷ line) = (b == 32) ≡ true

word_byte : (b : ℕ) → is_word_byte b ≡ true → ((b == 32) ≡ false) × ((b == 10) ≡ false)
word_byte b e =
    let parts = and_parts (not (b == 32)) (not (b == 10)) e in
    (not-true (b == 32) parts.0, not-true (b == 10) parts.1)

-- the parts of a line that begins with a word
parts_after : (word rest : List ℕ) → list_all is_word_byte word ≡ true → BeginsBetween rest
    → slice_split (λ b. b == 32) (word ++ rest) ≡ word ∷ drop 1 (slice_split (λ b. b == 32) rest)
parts_after [] [] all begins = refl
parts_after [] (b ∷ rest) all begins =
    slice_split-cons_yes (λ x. x == 32) b rest begins
    ∙ ap (λ (parts : List (List ℕ)). [] ∷ drop 1 parts) (sym (slice_split-cons_yes (λ x. x == 32) b rest begins))
parts_after (b ∷ word) rest all begins =
    let both = and_parts (is_word_byte b) (list_all is_word_byte word) all in
    slice_split-cons_no (λ x. x == 32) b (word ++ rest) (word_byte b both.0).0
    ∙ ap (onto_first b) (parts_after word rest both.1 begins)

words_between : (rest : List ℕ) → BeginsBetween rest
    → filter (λ w. not (length w == 0)) (drop 1 (slice_split (λ b. b == 32) rest)) ≡ words_of rest
words_between [] begins = refl
words_between (b ∷ rest) begins =
    ap (λ (parts : List (List ℕ)). filter (λ w. not (length w == 0)) (drop 1 parts)) (slice_split-cons_yes (λ x. x == 32) b rest begins)
    ∙ sym (ap (λ (parts : List (List ℕ)). filter (λ w. not (length w == 0)) parts) (slice_split-cons_yes (λ x. x == 32) b rest begins))

words_after : (word rest : List ℕ) → 0 < length word → list_all is_word_byte word ≡ true → BeginsBetween rest
    → words_of (word ++ rest) ≡ word ∷ words_of rest
words_after word rest some all begins =
    ap (λ (parts : List (List ℕ)). filter (λ w. not (length w == 0)) parts) (parts_after word rest all begins)
    ∙ kept word (drop 1 (slice_split (λ b. b == 32) rest)) some
    ∙ ap (λ words. word ∷ words) (words_between rest begins)

-- ---- words at the front of bytes

line_of_word : (word rest : List ℕ) → list_all is_word_byte word ≡ true → first_line (word ++ rest) ≡ word ++ first_line rest
line_of_word [] rest all = refl
line_of_word (b ∷ word) rest all =
    let both = and_parts (is_word_byte b) (list_all is_word_byte word) all in
    line_first b (word ++ rest) (word_byte b both.0).1 ∙ ap (λ line. b ∷ line) (line_of_word word rest both.1)

after_word : (word rest : List ℕ) → list_all is_word_byte word ≡ true → lines_after (word ++ rest) ≡ lines_after rest
after_word [] rest all = refl
after_word (b ∷ word) rest all =
    let both = and_parts (is_word_byte b) (list_all is_word_byte word) all in
    after_first b (word ++ rest) (word_byte b both.0).1 ∙ after_word word rest both.1

-- bytes that don't begin with one of a word
abbrev BeginsNoWord : List ℕ → Type 0
BeginsNoWord [] = Unit {0}
BeginsNoWord (b ∷ bytes) = is_word_byte b ≡ false

between_of : (line rest : List ℕ) (b : ℕ) → (b == 32) ≡ true → line ≡ b ∷ rest → BeginsBetween line
between_of line rest b e is = subst BeginsBetween (sym is) e

no_word_byte : (b : ℕ) → is_word_byte b ≡ false → (b == 32) ≡ false → (b == 10) ≡ true
no_word_byte b stop plain = elim (cases_Bool (b == 10)) [
  | inl e ↦ e
  | inr e ↦ cc (and_from (not (b == 32)) (not (b == 10)) (not_from_false (b == 32) plain) (not_from_false (b == 10) e), stop)
]

begins_between : (bytes : List ℕ) → BeginsNoWord bytes → BeginsBetween (first_line bytes)
begins_between [] begins = tt
begins_between (b ∷ bytes) begins = elim (cases_Bool (b == 32)) [
  | inl e ↦ between_of (first_line (b ∷ bytes)) (first_line bytes) b e
      (line_first b bytes (ne_eqb b 10 (λ t. omega (arith, eqb-true b 32 e, t))))
  | inr e ↦ subst BeginsBetween (sym (line_end_first b bytes (no_word_byte b begins e))) tt
]

word_in_front : (word rest : List ℕ) → 0 < length word → list_all is_word_byte word ≡ true → BeginsNoWord rest
    → line_words (word ++ rest) ≡ word ∷ line_words rest
word_in_front word rest some all begins =
    ap words_of (line_of_word word rest all) ∙ words_after word (first_line rest) some all (begins_between rest begins)

-- ---- steps of a look for a word

pub space_words : (bytes : List ℕ) (place : ℕ) → place < length bytes → get_or bytes place 0 ≡ 32
    → line_words (drop place bytes) ≡ line_words (drop (place + 1) bytes)
space_words bytes place within space =
    let rest : List ℕ = drop (place + 1) bytes in
    ap line_words (drop_more bytes place 0 within ∙ ap (λ b. b ∷ rest) space)
    ∙ ap words_of (line_first 32 rest refl)

pub space_lines : (bytes : List ℕ) (place : ℕ) → place < length bytes → get_or bytes place 0 ≡ 32
    → lines_after (drop place bytes) ≡ lines_after (drop (place + 1) bytes)
space_lines bytes place within space =
    let rest : List ℕ = drop (place + 1) bytes in
    ap lines_after (drop_more bytes place 0 within ∙ ap (λ b. b ∷ rest) space) ∙ after_first 32 rest refl

-- no space stands there
pub no_space : (b : ℕ) → (b ≡ 32 → ⊥) → (b == 32) ≡ false
no_space b ne = ne_eqb b 32 ne

word_byte_is : (b : ℕ) → (b ≡ 32 → ⊥) → (b ≡ 10 → ⊥) → is_word_byte b ≡ true
word_byte_is b space line =
    and_from (not (b == 32)) (not (b == 10)) (not_from_false (b == 32) (ne_eqb b 32 space)) (not_from_false (b == 10) (ne_eqb b 10 line))

pub inner_more : (bytes : List ℕ) (start place : ℕ) → start ≤ place → place < length bytes
    → list_all is_word_byte (take (place - start) (drop start bytes)) ≡ true
    → (get_or bytes place 0 ≡ 32 → ⊥) → (get_or bytes place 0 ≡ 10 → ⊥)
    → list_all is_word_byte (take (place + 1 - start) (drop start bytes)) ≡ true
inner_more bytes start place order within inner space line =
    let left : List ℕ = drop start bytes in
    let count : ℕ = place - start in
    let here : get_or left count 0 ≡ get_or bytes place 0 =
    get_or-drop start bytes count 0 ∙ ap (λ i. get_or bytes i 0) (omega arith) in
    ap (λ n. list_all is_word_byte (take n left)) (omega arith)
    ∙ list_all_more is_word_byte left count 0 (omega (arith, length-drop start bytes))
    ∙ and_from (list_all is_word_byte (take count left)) (is_word_byte (get_or left count 0)) inner
    (ap is_word_byte here ∙ word_byte_is (get_or bytes place 0) space line)

pub stops_at_space : (b : ℕ) → b ≡ 32 → is_word_byte b ≡ false
stops_at_space b e = ap is_word_byte e

pub stops_at_line : (b : ℕ) → b ≡ 10 → is_word_byte b ≡ false
stops_at_line b e = ap is_word_byte e

-- ---- the next word

begins_at : (bytes : List ℕ) (end : ℕ) → (end < length bytes → is_word_byte (get_or bytes end 0) ≡ false) → BeginsNoWord (drop end bytes)
begins_at bytes end stop = elim (cases_lt end (length bytes)) [
  | inl low ↦ subst BeginsNoWord (sym (drop_more bytes end 0 low)) (stop low)
  | inr high ↦ subst BeginsNoWord (sym (drop_all end bytes high)) tt
]

word_from : (bytes : List ℕ) (start end : ℕ) → start ≤ end → drop start bytes ≡ take (end - start) (drop start bytes) ++ drop end bytes
word_from bytes start end order =
    sym (take-append-drop (end - start) (drop start bytes))
    ∙ ap (λ rest. take (end - start) (drop start bytes) ++ rest) (drop-drop (end - start) start bytes ∙ ap (λ n. drop n bytes) (omega arith))

-- a word of bytes, and what follows it
some_word : (bytes : List ℕ) (start end : ℕ) → IsWordEnd bytes start end → start < end
    → line_words (drop start bytes) ≡ take (end - start) (drop start bytes) ∷ line_words (drop end bytes)
some_word bytes start end found some =
    let word : List ℕ = take (end - start) (drop start bytes) in
    ap line_words (word_from bytes start end found.order)
    ∙ word_in_front word (drop end bytes)
    (omega (arith, length-take (end - start) (drop start bytes), length-drop start bytes, found.within)) found.inner
    (begins_at bytes end found.stop)

-- a line that ends where a word could begin
no_word : (bytes : List ℕ) (start : ℕ) → (start < length bytes → (get_or bytes start 0 == 32) ≡ false)
    → (start < length bytes → is_word_byte (get_or bytes start 0) ≡ false) → line_words (drop start bytes) ≡ []
no_word bytes start plain stop = elim (cases_lt start (length bytes)) [
  | inl low ↦ ap line_words (drop_more bytes start 0 low)
      ∙ ap words_of (line_end_first (get_or bytes start 0) (drop (start + 1) bytes) (no_word_byte (get_or bytes start 0) (stop low) (plain low)))
  | inr high ↦ ap line_words (drop_all start bytes high)
]

line_stops : (bytes : List ℕ) (start : ℕ) → start ≤ length bytes → (start < length bytes → (get_or bytes start 0 == 32) ≡ false)
    → (start < length bytes → is_word_byte (get_or bytes start 0) ≡ false) → (start ≡ length bytes) ⊎ (slice_get bytes start ≡ Some 10)
line_stops bytes start within plain stop = elim (cases_lt start (length bytes)) [
  | inl low ↦ inr (slice_get-get_or bytes start 0 low
      ∙ ap Some (eqb-true (get_or bytes start 0) 10 (no_word_byte (get_or bytes start 0) (stop low) (plain low))))
  | inr high ↦ inl (omega arith)
]

pub word_found : (bytes : List ℕ) (from start end : ℕ) → IsPastSpaces bytes from start → IsWordEnd bytes start end → IsNextWord bytes from start end
word_found bytes from start end past found =
    let lines : lines_after (drop start bytes) ≡ lines_after (drop end bytes) =
    ap lines_after (word_from bytes start end found.order) ∙ after_word (take (end - start) (drop start bytes)) (drop end bytes) found.inner in
    record {
      before = past.before;
      order = found.order;
      within = found.within;
      same = past.lines ∙ lines;
      some = λ some. past.words ∙ some_word bytes start end found some;
      none = λ none.
          let e : end ≡ start = omega (arith, found.order) in
          let stop : start < length bytes → is_word_byte (get_or bytes start 0) ≡ false =
          subst (λ n. n < length bytes → is_word_byte (get_or bytes n 0) ≡ false) e found.stop in (
            past.words ∙ no_word bytes start past.stop stop,
            record {
              order = omega (arith, past.before);
              within = found.within;
              stop = subst (λ n. (n ≡ length bytes) ⊎ (slice_get bytes n ≡ Some 10)) (sym e) (line_stops bytes start past.within past.stop stop);
              same = past.lines ∙ lines;
            },
          );
    }

pub ruleset spaces = (space_words, space_lines, no_space)

pub ruleset ends = (inner_more, stops_at_space, stops_at_line)
