-- The words of a line, one after the other, by their places in the bytes.
use Rattle.std.specs.Prelude.{◌≡◌, ◌⊎◌, ℕ, ◌+◌, ◌-◌, ◌<◌, ◌≤◌, ◌==◌, ◌&&◌, not, Bool, true, false, List, [], ◌∷◌, length, take, drop, Option, Some, None, if◌then◌else◌, slice_get, slice_index, slice_index_or}
use Rattle.std.specs.List.{list_all}
use Rattle.gc_graph.specs.Words.{lines_of, words_of, is_digit, is_number, value_after}
pub use Rattle.gc_graph.specs.WordBytes.{is_word_byte}

-- the first line, empty where there is none
abbrev pub first_line : List ℕ → List ℕ
first_line bytes = slice_index_or (lines_of bytes) 0 []

-- the words of the first line
abbrev pub line_words : List ℕ → List (List ℕ)
line_words bytes = words_of (first_line bytes)

-- the lines after the first
abbrev pub lines_after : List ℕ → List (List ℕ)
lines_after bytes = drop 1 (lines_of bytes)

-- the first line, from `from` on, ends at `end`, and other lines follow it
pub record IsLineEnd (bytes : List ℕ) (from end : ℕ) : Type 0 where
  pub order : from ≤ end
  pub within : end ≤ length bytes
  pub stop : (end ≡ length bytes) ⊎ (slice_get bytes end ≡ Some 10)
  pub same : lines_after (drop from bytes) ≡ lines_after (drop end bytes)

-- from `from` on, the next word of the line stands from `start` to `end`; the line has none where the two are one, and
-- ends there
pub record IsNextWord (bytes : List ℕ) (from start end : ℕ) : Type 0 where
  pub before : from ≤ start
  pub order : start ≤ end
  pub within : end ≤ length bytes
  pub same : lines_after (drop from bytes) ≡ lines_after (drop end bytes)
  pub some :
      start < end
      → line_words (drop from bytes) ≡ take (end - start) (drop start bytes) ∷ line_words (drop end bytes)
  pub none : end ≤ start → (line_words (drop from bytes) ≡ []) × IsLineEnd bytes from end

-- ---- the two halves of a look for a word

-- only spaces stand from `from` to `start`, and none at `start`
pub record IsPastSpaces (bytes : List ℕ) (from start : ℕ) : Type 0 where
  pub before : from ≤ start
  pub within : start ≤ length bytes
  pub words : line_words (drop from bytes) ≡ line_words (drop start bytes)
  pub lines : lines_after (drop from bytes) ≡ lines_after (drop start bytes)
  pub stop : start < length bytes → (slice_index bytes start == 32) ≡ false

-- only bytes of a word stand from `start` to `end`, and none at `end`
pub record IsWordEnd (bytes : List ℕ) (start end : ℕ) : Type 0 where
  pub order : start ≤ end
  pub within : end ≤ length bytes
  pub inner : list_all is_word_byte (take (end - start) (drop start bytes)) ≡ true
  pub stop : end < length bytes → is_word_byte (slice_index bytes end) ≡ false

-- ---- words by their places

-- the words of a line whose first word stands from `start` to `end`
abbrev pub words_from : List ℕ → ℕ → ℕ → List (List ℕ)
words_from bytes start end = take (end - start) (drop start bytes) ∷ line_words (drop end bytes)

-- the number that the word from `start` to `end` is, where it is one
abbrev pub number_from : List ℕ → ℕ → ℕ → Option ℕ
number_from bytes start end =
    let word : List ℕ = take (end - start) (drop start bytes) in
    if is_number word then Some (value_after 0 word) else None

-- only digits stand from `start` to `place`, and this is their value, of nine digits at most
pub record IsDigits (bytes : List ℕ) (start place value : ℕ) : Type 0 where
  pub order : start ≤ place
  pub within : place ≤ length bytes
  pub digits : list_all is_digit (take (place - start) (drop start bytes)) ≡ true
  pub value_is : value ≡ value_after 0 (take (place - start) (drop start bytes))
  pub low : value < 1000000000

-- one space stands at `from`, and then a word up to `end`, which is this number
pub record IsShortNumber (bytes : List ℕ) (from end value : ℕ) : Type 0 where
  pub word : IsNextWord bytes from (from + 1) end
  pub number : number_from bytes (from + 1) end ≡ Some value
