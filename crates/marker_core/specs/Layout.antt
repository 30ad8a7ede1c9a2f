-- The words: the heap's, then a start bit for each of them, 64 to a word, then the stop word.
use Rattle.std.specs.Prelude.{ℕ, ◌+◌, ◌-◌, ◌/◌, ◌%◌, ◌^◌, ◌==◌, Bool, List, slice_index, slice_set, bit_and, bit_or}

-- the word with the start bit of an address
abbrev pub bitmap_at : ℕ → ℕ → ℕ
bitmap_at count a = count + a / 64

-- the stop word
abbrev pub stop_at : ℕ → ℕ
stop_at count = count + count / 64

-- bit k of a word is set
abbrev pub bit_is_set : ℕ → ℕ → Bool
bit_is_set word k = word / 2 ^ k % 2 == 1

-- the start bit of a is set
abbrev pub is_start : ℕ → List ℕ → ℕ → Bool
is_start count words a = bit_is_set (slice_index words (bitmap_at count a)) (a % 64)

-- the words with the start bit of a set, and with it cleared
abbrev pub with_start : ℕ → List ℕ → ℕ → List ℕ
with_start count words a = slice_set words (bitmap_at count a) (bit_or (slice_index words (bitmap_at count a)) (2 ^ (a % 64)))

-- the words with the start bit of a cleared
abbrev pub without_start : ℕ → List ℕ → ℕ → List ℕ
without_start count words a =
    slice_set words (bitmap_at count a) (bit_and (slice_index words (bitmap_at count a)) (18446744073709551615 - 2 ^ (a % 64)))

-- ---- what a header word tells

-- a header word with its mark
abbrev pub has_mark : ℕ → Bool
has_mark header = bit_is_set header 1

-- a header word with its traced bit
abbrev pub has_traced : ℕ → Bool
has_traced header = bit_is_set header 2

-- the type that a header word tells
abbrev pub type_in : ℕ → ℕ
type_in header = header / 8 % 16384

-- the size that a header word tells
abbrev pub size_in : ℕ → ℕ
size_in header = header / 131072

-- the header at a has its mark, and its traced bit
abbrev pub is_marked : List ℕ → ℕ → Bool
is_marked words a = has_mark (slice_index words a)

-- the header at a has its traced bit
abbrev pub is_traced : List ℕ → ℕ → Bool
is_traced words a = has_traced (slice_index words a)
