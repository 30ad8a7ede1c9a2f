-- Words of a line that are looked for, and numbers of it.
use Rattle.std.specs.Prelude.{◌≡◌, ℕ, ◌+◌, ◌^◌, ◌<◌, ◌≤◌, true, List, [], ◌∷◌, length, drop}
use Rattle.gc_graph.specs.Words.{is_number}
use Rattle.gc_graph.specs.Reasons.{value_of}
use Rattle.line_words.specs.Cursor.{line_words, lines_after, IsLineEnd}
use Rattle.line_words.specs.declared.quick_words.Small.{Small}
use Rattle.line_words.specs.declared.quick_words.Any.{Any}

-- the line begins with this word, whose first byte stands at `at`
pub record IsFirstWord (bytes : List ℕ) (at : ℕ) (word : List ℕ) : Type 0 where
  pub within : at + length word ≤ length bytes
  pub words : line_words (drop at bytes) ≡ word ∷ line_words (drop (at + length word) bytes)
  pub same : lines_after (drop at bytes) ≡ lines_after (drop (at + length word) bytes)

-- the next word of the line, from `from` on, is this number, which is below the limit
pub record IsSmallNumber (bytes : List ℕ) (from limit : ℕ) (small : Small) : Type 0 where
  pub word : List ℕ
  pub words : line_words (drop from bytes) ≡ word ∷ line_words (drop small.end bytes)
  pub number : is_number word ≡ true
  pub value : value_of word ≡ small.value
  pub low : small.value < limit
  pub order : from ≤ small.end
  pub within : small.end ≤ length bytes
  pub same : lines_after (drop from bytes) ≡ lines_after (drop small.end bytes)

-- the next word of the line, from `from` on, is this number, which is any of 64 bits
pub record IsAnyNumber (bytes : List ℕ) (from : ℕ) (any : Any) : Type 0 where
  pub word : List ℕ
  pub words : line_words (drop from bytes) ≡ word ∷ line_words (drop any.end bytes)
  pub number : is_number word ≡ true
  pub value : value_of word ≡ any.value
  pub low : any.value < 2 ^ 64
  pub order : from ≤ any.end
  pub within : any.end ≤ length bytes
  pub same : lines_after (drop from bytes) ≡ lines_after (drop any.end bytes)

-- the line has no more words from `from` on, and ends at `end`
pub record IsEndOfWords (bytes : List ℕ) (from end : ℕ) : Type 0 where
  pub none : line_words (drop from bytes) ≡ []
  pub ends : IsLineEnd bytes from end
