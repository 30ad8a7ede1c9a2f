-- The layout of header words.
use Rattle.std.specs.Prelude.{◌≡◌, ℕ, ◌+◌, ◌*◌, ◌/◌, ◌%◌, ◌^◌, ◌<◌, Bool, if◌then◌else◌}

-- a set bit counts 1
abbrev pub bit_of : Bool → ℕ
bit_of b = if b then 1 else 0

-- bit 0 live, bit 1 mark, bit 2 traced, bits 3 to 16 the type, bits 17 to 42 the size
abbrev pub header_word : Bool → Bool → Bool → ℕ → ℕ → ℕ
header_word live mark traced ty size = bit_of live + 2 * bit_of mark + 4 * bit_of traced + 8 * ty + 131072 * size

-- the header word of an object: live, with a size, and with no bit above bit 42
pub record IsHeaderWord (word : ℕ) : Type 0 where
  pub live : word % 2 ≡ 1
  pub size : 0 < word / 131072
  pub bits : word < 2 ^ 43

-- the word with bit 1 as told, and each other bit as before
abbrev pub word_with_mark : Bool → ℕ → ℕ
word_with_mark on word = word / 4 * 4 + 2 * bit_of on + word % 2

-- the word with bit 2 as told, and each other bit as before
abbrev pub word_with_traced : Bool → ℕ → ℕ
word_with_traced on word = word / 8 * 8 + 4 * bit_of on + word % 4
