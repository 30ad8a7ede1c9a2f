-- The end of a row's line, and the command that its numbers make.
use Rattle.std.proofs.Common.{◌≡◌, ℕ, ◌≤◌, ◌==◌, min, Bool, true, false, Option, None, cond, List, drop, refl, sym, ap, ◌∙◌, arith}
use Rattle.std.specs.Prelude.{is_some}
use Rattle.std.proofs.lemmas.Bool.{eqb-true, true≢false}
use Rattle.gc_graph.specs.declared.command.Command.{Command}
use Rattle.command_text.specs.declared.forms.Row.{Row}
use Rattle.command_text.specs.declared.forms.Make.TheVariants as M
use Rattle.command_text.specs.declared.making.SmallForm.{SmallForm}
use Rattle.command_text.specs.declared.wide.WideForm.{WideForm}
use Rattle.command_text.specs.declared.places.Bounds.{Bounds}
use Rattle.command_text.specs.declared.said.Said.{Said}
use Rattle.line_words.specs.Cursor.{lines_after, IsLineEnd, IsNextWord}
use Rattle.command_text.specs.Rows.{small_command_of, wide_command_of, command_of, makes_pair, is_sound}
use Rattle.command_text.specs.RowLines.{row_rank, row_numbers}
use Rattle.command_text.proofs.RowRanks.{IsRowSaid, row_makes}

-- ---- the end of the line

nine_first : (b : Bool) (n : ℕ) → 9 ≤ cond b n 4 → b ≡ true
nine_first true n high = refl
nine_first false n high = absurd (omega arith)

-- a line's end after words that were read is one from before them on
pub end_from : (bytes : List ℕ) (from mid end : ℕ) → from ≤ mid → lines_after (drop from bytes) ≡ lines_after (drop mid bytes)
    → IsLineEnd bytes mid end → IsLineEnd bytes from end
end_from bytes from mid end before same ends = record {
  order = omega (arith, ends.order);
  within = ends.within;
  stop = ends.stop;
  same = same ∙ ends.same;
}

-- no word stands after those of a faultless line
pub ends_there : (bytes : List ℕ) (from mid start end total rank count n : ℕ) → from ≤ mid
    → lines_after (drop from bytes) ≡ lines_after (drop mid bytes) → IsNextWord bytes mid start end
    → count ≡ cond (start == end) n 4 → total ≡ min rank count → total ≡ 9 → IsLineEnd bytes from end
ends_there bytes from mid start end total rank count n before same next is sum good =
    let e : start ≡ end = eqb-true start end (nine_first (start == end) n (omega (arith, is, sum, good))) in
    end_from bytes from mid end before same (next.none (omega arith)).1

none_made : (o : Option Command) → o ≡ None → is_some o ≡ true → ⊥
none_made o e some = true≢false (sym some ∙ ap is_some e)

-- and its numbers make a command
pub makes_some : (bounds : Bounds) (row : Row) (bytes : List ℕ) (before : Said) (rank : ℕ) (numbers : List ℕ) (made : Option Command)
    → IsRowSaid bounds row bytes before rank numbers → rank ≡ 9 → is_sound before.count row ≡ true
    → (makes_pair row.make ≡ true → row_rank bounds row bytes before ≡ 9 → is_some (command_of row.make (row_numbers row bytes before)) ≡ true)
    → made ≡ command_of row.make numbers → made ≡ None → ⊥
makes_some bounds row bytes before rank numbers made said good sound pairs is nothing =
    none_made (command_of row.make numbers) (sym is ∙ nothing) (row_makes bounds row bytes before rank numbers said good sound pairs)

-- the command of a row by its form
pub made_small : (row : Row) (form : SmallForm) (numbers : List ℕ) → row.make ≡ M.Small form
    → small_command_of form numbers ≡ command_of row.make numbers
made_small row form numbers e = sym (ap (λ make. command_of make numbers) e)

pub made_wide : (row : Row) (form : WideForm) (numbers : List ℕ) → row.make ≡ M.Wide form
    → wide_command_of form numbers ≡ command_of row.make numbers
made_wide row form numbers e = sym (ap (λ make. command_of make numbers) e)

-- a wide number makes no pair
pub wide_pairs : (bounds : Bounds) (row : Row) (form : WideForm) (bytes : List ℕ) (before : Said) → row.make ≡ M.Wide form
    → makes_pair row.make ≡ true → row_rank bounds row bytes before ≡ 9 → is_some (command_of row.make (row_numbers row bytes before)) ≡ true
wide_pairs bounds row form bytes before e pair good = absurd (true≢false (sym pair ∙ ap makes_pair e))
