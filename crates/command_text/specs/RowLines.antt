-- The line of a row.
use Rattle.std.specs.Prelude.{◌≡◌, ℕ, ◌==◌, ◌&&◌, ◌||◌, min, List, ◌++◌, length, Some, IfOk, IfErr, if◌then◌else◌}
use Rattle.gc_graph.specs.Reasons.{all_say}
use Rattle.command_text.specs.declared.forms.Row.{Row}
use Rattle.command_text.specs.declared.places.Bounds.{Bounds}
use Rattle.command_text.specs.declared.said.Said.{Said}
use Rattle.command_text.specs.declared.row_lines.CommandLine.{CommandLine}
use Rattle.line_words.specs.Cursor.{IsLineEnd}
use Rattle.command_text.specs.Ranks.{lowest}
use Rattle.command_text.specs.Rows.{bounds_of, places_in, makes_pair, command_of}
use Rattle.command_text.specs.Said.{list_of, words_left}
use Rattle.command_text.specs.CommandLines.{is_half_after}

-- the rank of so many words for a row
abbrev pub row_count_rank : Row → ℕ → ℕ
row_count_rank row words = if words == row.least || words == length (places_in row) then 9 else 4

-- the rank of words by their pair, where a row makes one of which one may be null
abbrev pub row_half_rank : Row → List (List ℕ) → ℕ
row_half_rank row words = if makes_pair row.make && is_half_after words then 3 else 9

-- the rank of the words that are left, at the places of a row
abbrev pub row_rank : Bounds → Row → List ℕ → Said → ℕ
row_rank bounds row bytes before =
    min (min before.rank (row_half_rank row (words_left bytes before)))
    (min (lowest (bounds_of bounds) (places_in row) (words_left bytes before)) (row_count_rank row (length (words_left bytes before))))

-- the numbers that they say, after those before
abbrev pub row_numbers : Row → List ℕ → Said → List ℕ
row_numbers row bytes before = list_of before ++ all_say (places_in row) (words_left bytes before)

-- the command of a row where its words have no fault, and else their rank
pub record IsRowLine (bounds : Bounds) (row : Row) (bytes : List ℕ) (before : Said) (line : CommandLine) : Type 0 where
  pub said :
      IfOk line.said
      (λ command. (row_rank bounds row bytes before ≡ 9) × (command_of row.make (row_numbers row bytes before) ≡ Some command))
  pub end : IfOk line.said (λ command. IsLineEnd bytes before.end line.end)
  pub fault : IfErr line.said (λ rank. (rank ≡ row_rank bounds row bytes before) × (rank ≡ 9 → ⊥))
