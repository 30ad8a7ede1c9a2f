-- How many words a heap may have.
use Rattle.std.specs.Prelude.{◌≡◌, ℕ, ◌*◌, ◌+◌, ◌/◌, ◌^◌, ◌≤◌}
use Rattle.marker_core.specs.Layout.{stop_at}
use Rattle.page_words.specs.Seat.{block_words}

-- a heap has from 256 to 2^24 words, and a whole number of words of start bits
pub record IsCount (count : ℕ) : Type 0 where
  pub least : 256 ≤ count
  pub most : count ≤ 2 ^ 24
  pub bits : count ≡ block_words * (count / block_words)

-- a table of so many words has those of the heap, their start bits and the stop word
pub record AreWords (count table_words : ℕ) : Type 0 where
  pub count_is : IsCount count
  pub words : table_words ≡ stop_at count + 1
