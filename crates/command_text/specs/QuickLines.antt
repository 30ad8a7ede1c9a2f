-- Lines that are read by the row of their form alone.
use Rattle.std.specs.Prelude.{◌≡◌, ℕ, ◌≤◌, ◌&&◌, nat_le, not, Bool, true, false, List, ◌∷◌, [], length, Some, None, codes}
use Rattle.gc_graph.specs.declared.command.Command.{Command}
use Rattle.gc_graph.specs.declared.command.Command.TheVariants as C
use Rattle.gc_graph.specs.Words.{is_text}
use Rattle.gc_graph.specs.Forms.{Place}
use Rattle.gc_graph.specs.Reasons.{Bounds, says, first_is, reason_of_command, command_of_words}
use Rattle.line_words.specs.Cursor.{IsLineEnd}
use Rattle.command_text.specs.declared.making.OneForm.TheVariants as N
use Rattle.command_text.specs.declared.making.TwoForm.TheVariants as T
use Rattle.command_text.specs.declared.making.ThreeForm.TheVariants as H
use Rattle.command_text.specs.declared.making.SmallForm.TheVariants as F
use Rattle.command_text.specs.declared.wide.WideForm.TheVariants as W
use Rattle.command_text.specs.declared.forms.Make.{Make}
use Rattle.command_text.specs.declared.forms.Make.TheVariants as M
use Rattle.command_text.specs.declared.forms.Row.{Row}
use Rattle.command_text.specs.declared.said.Said.{Said}
use Rattle.command_text.specs.declared.quick_lines.QuickLine.{QuickLine}
use Rattle.command_text.specs.Ranks.{rank_at}
use Rattle.command_text.specs.Said.{IsNullSaid}
use Rattle.command_text.specs.Rows.{makes_pair, is_sound, is_plain_row}

-- a command of one of the most frequent forms
abbrev pub is_frequent : Command → Bool
is_frequent (C.New p t e) = true
is_frequent (C.SetNull p f) = true
is_frequent (C.Set p f q) = true
is_frequent (C.Put p f n) = true
is_frequent (C.Word p f) = true
is_frequent (C.Get p f q) = true
is_frequent (C.Copy p q) = true
is_frequent (C.Drop p) = true
is_frequent (C.Weak w p) = true
is_frequent (C.Read w p) = true
is_frequent command = false

-- the words say this command and have no fault, and the line ends there
pub record IsQuickLine (bounds : Bounds) (words : List (List ℕ)) (bytes : List ℕ) (from : ℕ) (line : QuickLine) : Type 0 where
  pub fine : reason_of_command bounds words ≡ None
  pub says : command_of_words words ≡ Some line.command
  pub ends : IsLineEnd bytes from line.end
  pub type_free : first_is (codes "type") words ≡ false
  pub frequent : is_frequent line.command ≡ true

-- ---- the rows of these forms

-- the form makes frequent commands
abbrev pub makes_frequent : Make → Bool
makes_frequent (M.Small F.New) = true
makes_frequent (M.Small F.Set) = true
makes_frequent (M.Small (F.Two T.Word)) = true
makes_frequent (M.Small (F.Three H.Get)) = true
makes_frequent (M.Small (F.Two T.Copy)) = true
makes_frequent (M.Small (F.One N.Drop)) = true
makes_frequent (M.Small (F.Two T.Weak)) = true
makes_frequent (M.Small (F.Two T.Read)) = true
makes_frequent (M.Wide W.Put) = true
makes_frequent make = false

-- the word chooses a row by itself
abbrev pub is_plain_word : List ℕ → Bool
is_plain_word word = not (is_text word (codes "type")) && (not (is_text word (codes "gc")) && not (is_text word (codes "at")))

-- a row of at most three small numbers, which the first word chooses and which makes frequent commands
abbrev pub is_quick_row : Row → Bool
is_quick_row row =
    is_plain_row row && (is_plain_word row.name.now && (makes_frequent row.make && nat_le (length row.spots.now) 3))

-- nothing was read at the places of such a row
pub record IsQuickStart (row : Row) (bytes : List ℕ) (before : Said) : Type 0 where
  pub within : before.end ≤ length bytes
  pub rank : before.rank ≡ 9
  pub count : before.count ≡ 0
  pub single : makes_pair row.make ≡ false
  pub few : length row.spots.now ≤ 3
  pub sound : is_sound before.count row ≡ true

-- a word has no fault at its place, and says this number
pub record IsSaidFor (bounds : Bounds) (place : Place) (word : List ℕ) (value : ℕ) : Type 0 where
  pub rank : rank_at bounds place word ≡ 9
  pub number : says place word ≡ value ∷ []
  pub null : IsNullSaid place word value
