-- The words of a line: names and numbers between spaces.
use Rattle.std.proofs.Common.{◌≡◌, ℕ, zero, suc, ◌^◌, ◌<◌, ◌==◌, ◌&&◌, not, Bool, true, false, List, [], ◌∷◌, ◌++◌, length, map, All, Some, None, refl, ap, ◌∙◌, arith, ltb}
use Rattle.std.specs.Fmt.{decimal}
use Rattle.std.specs.List.{list_all, filter, cons_option, slice_split}
use Rattle.std.proofs.lemmas.Bool.{and_parts, not-true, cond-true, cond-false, eqb-false, not_from_false, not_from_true}
use Rattle.std.proofs.lemmas.List.Elements.{All-head, All-tail, All-nil, All-cons}
use Rattle.std.proofs.lemmas.List.Splits.{slice_split_at, slice_split_none}
use Rattle.std.proofs.lemmas.Fmt.{decimal_nonempty}
use Rattle.gc_graph.specs.Words.{words_of, is_number, number_below, value_after}
use Rattle.gc_graph.specs.ReadBack.{names_in, numbers_in}
use Rattle.gc_graph.specs.WordBytes.{is_word_byte, kept}
use Rattle.gc_graph.proofs.Decimals.{decimal_is_number, decimal_is_read, decimal_is_word}

-- a word of a line
pub data Part : Type 0 where
  Name : List ℕ → Part
  Count : ℕ → Part

abbrev pub word_of : Part → List ℕ
word_of (Name text) = text
word_of (Count n) = decimal n

-- a name has bytes, of which none is a space or an end of a line, and is no number
abbrev pub is_name : List ℕ → Bool
is_name text = not (length text == 0) && (list_all is_word_byte text && not (is_number text))

abbrev pub IsPart : Part → Type 0
IsPart (Name text) = is_name text ≡ true
IsPart (Count n) = n < 2 ^ 64

-- the words with spaces between them
abbrev pub joined : List Part → List ℕ
joined [] = []
joined (part ∷ []) = word_of part
joined (part ∷ next ∷ parts) = word_of part ++ 32 ∷ joined (next ∷ parts)

abbrev pub names_of : List Part → List (List ℕ)
names_of [] = []
names_of (Name text ∷ parts) = text ∷ names_of parts
names_of (Count n ∷ parts) = names_of parts

abbrev pub counts_of : List Part → List ℕ
counts_of [] = []
counts_of (Name text ∷ parts) = counts_of parts
counts_of (Count n ∷ parts) = n ∷ counts_of parts

-- ---- what each word is

pub word_bytes : (part : Part) → IsPart part → list_all is_word_byte (word_of part) ≡ true
word_bytes (Name text) h = (and_parts (list_all is_word_byte text) (not (is_number text)) (and_parts (not (length text == 0)) _ h).1).0
word_bytes (Count n) h = decimal_is_word n h

above : (n : ℕ) → (n ≡ 0 → ⊥) → 0 < n
above zero e = absurd (e refl)
above (suc n) e = omega arith

some_bytes : (part : Part) → IsPart part → 0 < length (word_of part)
some_bytes (Name text) h =
    let e = eqb-false (length text) 0 (not-true (length text == 0) (and_parts (not (length text == 0)) _ h).0) in
    above (length text) e
some_bytes (Count n) h = decimal_nonempty n h

no_byte : (b : ℕ) (bytes : List ℕ) → ((x : ℕ) → is_word_byte x ≡ true → (x == b) ≡ false) → list_all is_word_byte bytes ≡ true → All (λ x. (x == b) ≡ false) bytes
no_byte b [] f h = All-nil (λ x. (x == b) ≡ false)
no_byte b (x ∷ bytes) f h =
    let both = and_parts (is_word_byte x) (list_all is_word_byte bytes) h in
    All-cons (λ y. (y == b) ≡ false) x bytes (f x both.0) (no_byte b bytes f both.1)

is_no_space : (x : ℕ) → is_word_byte x ≡ true → (x == 32) ≡ false
is_no_space x h = not-true (x == 32) (and_parts (not (x == 32)) (not (x == 10)) h).0

pub is_no_end : (x : ℕ) → is_word_byte x ≡ true → (x == 10) ≡ false
is_no_end x h = not-true (x == 10) (and_parts (not (x == 32)) (not (x == 10)) h).1

-- ---- the words of joined parts

split_joined : (part : Part) (parts : List Part) → All IsPart (part ∷ parts) → slice_split (λ b. b == 32) (joined (part ∷ parts)) ≡ map word_of (part ∷ parts)
split_joined part [] h = slice_split_none (λ b. b == 32) (word_of part) (no_byte 32 (word_of part) is_no_space (word_bytes part (All-head IsPart part [] h)))
split_joined part (next ∷ parts) h =
    slice_split_at (λ b. b == 32) (word_of part) 32 (joined (next ∷ parts))
    (no_byte 32 (word_of part) is_no_space (word_bytes part (All-head IsPart part (next ∷ parts) h))) refl
    ∙ ap (λ words. word_of part ∷ words) (split_joined next parts (All-tail IsPart part (next ∷ parts) h))

all_kept : (parts : List Part) → All IsPart parts → filter (λ w. not (length w == 0)) (map word_of parts) ≡ map word_of parts
all_kept [] h = refl
all_kept (part ∷ parts) h =
    kept (word_of part) (map word_of parts) (some_bytes part (All-head IsPart part parts h))
    ∙ ap (λ words. word_of part ∷ words) (all_kept parts (All-tail IsPart part parts h))

pub words_of_joined : (part : Part) (parts : List Part) → All IsPart (part ∷ parts) → words_of (joined (part ∷ parts)) ≡ map word_of (part ∷ parts)
words_of_joined part parts h = ap (filter (λ w. not (length w == 0))) (split_joined part parts h) ∙ all_kept (part ∷ parts) h

-- ---- names and numbers

not_number : (text : List ℕ) → is_name text ≡ true → is_number text ≡ false
not_number text h = not-true (is_number text) (and_parts (list_all is_word_byte text) (not (is_number text)) (and_parts (not (length text == 0)) _ h).1).1

pub names_found : (parts : List Part) → All IsPart parts → names_in (map word_of parts) ≡ names_of parts
names_found [] h = refl
names_found (Name text ∷ parts) h =
    cond-true (not (is_number text)) (text ∷ names_in (map word_of parts)) (names_in (map word_of parts))
    (not_from_false (is_number text) (not_number text (All-head IsPart (Name text) parts h)))
    ∙ ap (λ names. text ∷ names) (names_found parts (All-tail IsPart (Name text) parts h))
names_found (Count n ∷ parts) h =
    cond-false (not (is_number (decimal n))) (decimal n ∷ names_in (map word_of parts)) (names_in (map word_of parts))
    (not_from_true (is_number (decimal n)) (decimal_is_number n (All-head IsPart (Count n) parts h)))
    ∙ names_found parts (All-tail IsPart (Count n) parts h)

no_value : (text : List ℕ) → is_number text ≡ false → number_below (2 ^ 64) text ≡ None
no_value text e =
    cond-false (is_number text && ltb (value_after 0 text) (2 ^ 64)) (Some (value_after 0 text)) None
    (ap (λ b. b && ltb (value_after 0 text) (2 ^ 64)) e)

pub counts_found : (parts : List Part) → All IsPart parts → numbers_in (map word_of parts) ≡ counts_of parts
counts_found [] h = refl
counts_found (Name text ∷ parts) h =
    ap (λ o. cons_option o (numbers_in (map word_of parts))) (no_value text (not_number text (All-head IsPart (Name text) parts h)))
    ∙ counts_found parts (All-tail IsPart (Name text) parts h)
counts_found (Count n ∷ parts) h =
    ap (λ o. cons_option o (numbers_in (map word_of parts))) (decimal_is_read n (All-head IsPart (Count n) parts h))
    ∙ ap (λ numbers. n ∷ numbers) (counts_found parts (All-tail IsPart (Count n) parts h))
