-- The words after the first, each at its place.
use Rattle.std.specs.Prelude.{◌≡◌, ℕ, ◌+◌, ◌≤◌, ◌==◌, ◌&&◌, not, min, Bool, List, [], ◌∷◌, ◌++◌, length, map, take, drop}
use Rattle.gc_graph.specs.Words.{is_text}
use Rattle.gc_graph.specs.Forms.{Place}
use Rattle.gc_graph.specs.Forms.Place.{NumberOr}
use Rattle.gc_graph.specs.Reasons.{Bounds as GrammarBounds, says, all_say}
use Rattle.command_text.specs.declared.forms.Spot.{Spot}
use Rattle.command_text.specs.declared.places.Bounds.{Bounds}
use Rattle.command_text.specs.declared.said.Said.{Said}
use Rattle.line_words.specs.Cursor.{line_words, lines_after}
use Rattle.command_text.specs.Ranks.{rank_at, lowest}
use Rattle.command_text.specs.Rows.{bounds_of, place_of_spot, agree}

-- the numbers that are said
abbrev pub list_of : Said → List ℕ
list_of said = take said.count (said.a ∷ said.b ∷ said.c ∷ said.d ∷ 0 ∷ [])

-- the words of the line that are left
abbrev pub words_left : List ℕ → Said → List (List ℕ)
words_left bytes said = line_words (drop said.end bytes)

-- ---- one word

-- null, where a number may stand in its stead, says 0, and nothing else does
abbrev pub IsNullSaid : Place → List ℕ → ℕ → Type 0
IsNullSaid (NumberOr text from limit) word value = (value == 0) ≡ is_text word text
IsNullSaid place word value = Unit {0}

-- the next word of the line, from `from` on, ends at `end`, gives this rank at its place, and says this number
pub record IsPlaceRead (bounds : GrammarBounds) (place : Place) (bytes : List ℕ) (from end rank value : ℕ) : Type 0 where
  pub word : List ℕ
  pub words : line_words (drop from bytes) ≡ word ∷ line_words (drop end bytes)
  pub its_rank : rank ≡ rank_at bounds place word
  pub number : rank ≡ 9 → says place word ≡ value ∷ []
  pub null : IsNullSaid place word value
  pub order : from ≤ end
  pub within : end ≤ length bytes
  pub same : lines_after (drop from bytes) ≡ lines_after (drop end bytes)

-- ---- words one after the other

-- a number was read for each word that stands at some place, and those tell which words are null
abbrev pub AreNullsSaid : List Place → List (List ℕ) → List ℕ → Type 0
AreNullsSaid [] words numbers = numbers ≡ []
AreNullsSaid (place ∷ places) [] numbers = numbers ≡ []
AreNullsSaid (place ∷ places) (word ∷ words) [] = ⊥
AreNullsSaid (place ∷ places) (word ∷ words) (value ∷ numbers) = IsNullSaid place word value × AreNullsSaid places words numbers

-- the words that stood at some of these places were read, as many as are there
pub record IsReadOn (bounds : Bounds) (spots : List Spot) (bytes : List ℕ) (old new : Said) : Type 0 where
  pub before : old.end ≤ new.end
  pub within : new.end ≤ length bytes
  pub rank : new.rank ≡ min old.rank (lowest (bounds_of bounds) (map place_of_spot spots) (words_left bytes old))
  pub numbers : new.rank ≡ 9 → list_of new ≡ list_of old ++ all_say (map place_of_spot spots) (words_left bytes old)
  pub more : List ℕ
  pub adds : list_of new ≡ list_of old ++ more
  pub nulls : AreNullsSaid (map place_of_spot spots) (words_left bytes old) more
  pub count : new.count ≡ old.count + min (length spots) (length (words_left bytes old))
  pub left : words_left bytes new ≡ drop (length spots) (words_left bytes old)
  pub lines : lines_after (drop old.end bytes) ≡ lines_after (drop new.end bytes)

-- ---- a pair

-- one of the last two of four numbers is null, and the other isn't
abbrev pub is_half_said : Said → Bool
is_half_said said = (said.count == 4) && not (agree (said.c == 0) (said.d == 0))
