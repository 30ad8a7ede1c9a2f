-- Lines, words and numbers.
use Rattle.std.specs.Prelude.{ℕ, ◌+◌, ◌-◌, ◌*◌, ◌^◌, ◌==◌, ◌&&◌, not, nat_lt, nat_le, Bool, List, [], ◌∷◌, length, filter, Option, Some, None, if◌then◌else◌, slice_index}
use Rattle.std.specs.List.{list_all, slice_split}
use Rattle.std.specs.Cmp.Lexicographic.{pointwise}

-- the parts between separators, less an empty last one
abbrev pub lines_of_parts : List (List ℕ) → List (List ℕ)
lines_of_parts [] = []
lines_of_parts (last ∷ []) = if length last == 0 then [] else last ∷ []
lines_of_parts (line ∷ next ∷ more) = line ∷ lines_of_parts (next ∷ more)

-- the lines of a script end with the byte 10, which the last one may lack
abbrev pub lines_of : List ℕ → List (List ℕ)
lines_of bytes = lines_of_parts (slice_split (λ b. b == 10) bytes)

-- the words of a line stand between spaces
abbrev pub words_of : List ℕ → List (List ℕ)
words_of line = filter (λ word. not (length word == 0)) (slice_split (λ b. b == 32) line)

-- the word is this text
abbrev pub is_text : List ℕ → List ℕ → Bool
is_text word text = pointwise ◌==◌ word text

-- a byte that is a digit
abbrev pub is_digit : ℕ → Bool
is_digit b = nat_le 48 b && nat_le b 57

-- the value of digits that follow a value
abbrev pub value_after : ℕ → List ℕ → ℕ
value_after n [] = n
value_after n (b ∷ bytes) = value_after (n * 10 + (b - 48)) bytes

-- digits without a leading zero, or the single digit 0, with a value of 64 bits
abbrev pub is_number : List ℕ → Bool
is_number word =
    not (length word == 0) && (not (nat_lt 1 (length word) && (slice_index word 0 == 48))
    && (list_all is_digit word && nat_lt (value_after 0 word) (2 ^ 64)))

-- the number that a word is, where it is one below the limit
abbrev pub number_below : ℕ → List ℕ → Option ℕ
number_below limit word = if is_number word && nat_lt (value_after 0 word) limit then Some (value_after 0 word) else None

-- a line without words
abbrev pub is_blank : List ℕ → Bool
is_blank line = length (words_of line) == 0
