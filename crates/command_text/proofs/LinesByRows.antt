-- The line of a command from the line of the row that its first words choose.
use Rattle.std.proofs.Common.{◌≡◌, ℕ, ◌≤◌, true, false, Some, None, Err, List, ◌∷◌, length, drop, refl, ap, ◌∙◌, subst, arith, codes}
use Rattle.std.specs.Prelude.{is_some}
use Rattle.std.specs.Borrow.{Bor}
use Rattle.std.proofs.lemmas.Bool.{and_parts}
use Rattle.gc_graph.specs.Words.{is_text}
use Rattle.gc_graph.specs.Forms.{row_named, rows, plain_form}
use Rattle.gc_graph.specs.Reasons.{Bounds as GrammarBounds}
use Rattle.command_text.specs.declared.forms.Row.{Row}
use Rattle.command_text.specs.declared.places.Bounds.{Bounds}
use Rattle.command_text.specs.declared.said.Said.{Said}
use Rattle.command_text.specs.declared.row_lines.CommandLine.{CommandLine}
use Rattle.line_words.specs.Cursor.{line_words}
use Rattle.command_text.specs.Ranks.{half_rank}
use Rattle.command_text.specs.Rows.{bounds_of, places_in, row_by, SameRow, agree, makes_pair, pair_places, command_of, is_sound, is_plain_row}
use Rattle.command_text.specs.Said.{words_left}
use Rattle.command_text.specs.RowLines.{row_half_rank, row_rank, row_numbers, IsRowLine}
use Rattle.command_text.specs.PlainForms.{form_of_plain}
use Rattle.command_text.specs.CommandLines.{IsCommandLine}
use Rattle.command_text.proofs.RowRanks.{sound_least}
use Rattle.command_text.proofs.CommandForms.{name_of, named_of, plain_is_row, command_line, refused_line, unknown_form}
use Rattle.command_text.proofs.PairLines.{pair_word, half_is_by, pair_row_places, pair_makes}

-- ---- before a row's words

-- nothing was read after the first word of a plain line
pub record IsPlainStart (row : Row) (bytes first : List ℕ) (from : ℕ) (before : Said) : Type 0 where
  pub named : row_named first rows ≡ Some (row_by row)
  pub plain : is_plain_row row ≡ true
  pub rank : before.rank ≡ 9
  pub end : before.end ≡ from
  pub count : before.count ≡ 0

pub plain_start : (row : Bor Row) (bytes first : List ℕ) (from : ℕ) (before : Said) → SameRow (Some row) (row_named first rows)
    → is_plain_row row.now ≡ true → before.rank ≡ 9 → before.end ≡ from → before.count ≡ 0 → IsPlainStart row.now bytes first from before
plain_start row bytes first from before same plain rank end count = record {
  named = named_of row (row_named first rows) same;
  plain = plain;
  rank = rank;
  end = end;
  count = count;
}

pub plain_sound : (row : Row) (before : ℕ) → is_plain_row row ≡ true → before ≡ 0 → is_sound before row ≡ true
plain_sound row before plain e =
    ap (λ n. is_sound n row) e ∙ (and_parts (is_sound 0 row) (agree (is_text row.name.now (codes "pair")) (makes_pair row.make)) plain).0

plain_half : (row : Row) (bytes first : List ℕ) (from : ℕ) (before : Said) → IsPlainStart row bytes first from before
    → row_half_rank row (words_left bytes before) ≡ half_rank (first ∷ words_left bytes before)
plain_half row bytes first from before start =
    half_is_by first (words_left bytes before) row (name_of first rows (row_by row) start.named)
    (and_parts (is_sound 0 row) (agree (is_text row.name.now (codes "pair")) (makes_pair row.make)) start.plain).1

pub plain_start_sound : (row : Row) (bytes first : List ℕ) (from : ℕ) (before : Said) → IsPlainStart row bytes first from before
    → is_sound before.count row ≡ true
plain_start_sound row bytes first from before start = plain_sound row before.count start.plain start.count

plain_within : (row : Row) → is_plain_row row ≡ true → row.least ≤ length (places_in row)
plain_within row plain = sound_least 0 row (plain_sound row 0 plain refl)

pub plain_start_pairs : (bounds : Bounds) (row : Row) (bytes first : List ℕ) (from : ℕ) (before : Said) → IsPlainStart row bytes first from before
    → makes_pair row.make ≡ true → row_rank bounds row bytes before ≡ 9 → is_some (command_of row.make (row_numbers row bytes before)) ≡ true
plain_start_pairs bounds row bytes first from before start pair good =
    let parts = and_parts (is_sound 0 row) (agree (is_text row.name.now (codes "pair")) (makes_pair row.make)) start.plain in
    pair_makes bounds row bytes before first start.named
    (pair_word first row (name_of first rows (row_by row) start.named) parts.1 ∙ pair)
    (plain_within row start.plain) (plain_half row bytes first from before start) start.count good

pub plain_start_pair : (row : Row) (bytes first : List ℕ) (from : ℕ) (before : Said) → IsPlainStart row bytes first from before
    → makes_pair row.make ≡ true → (before.count ≡ 0) × (places_in row ≡ pair_places)
plain_start_pair row bytes first from before start pair =
    let parts = and_parts (is_sound 0 row) (agree (is_text row.name.now (codes "pair")) (makes_pair row.make)) start.plain in
    (start.count, pair_row_places first row start.named (pair_word first row (name_of first rows (row_by row) start.named) parts.1 ∙ pair))

pub plain_done : (bounds : Bounds) (row : Row) (bytes first : List ℕ) (from : ℕ) (before : Said) (line : CommandLine)
    → is_text first (codes "type") ≡ false → is_text first (codes "gc") ≡ false → is_text first (codes "at") ≡ false
    → IsPlainStart row bytes first from before → IsRowLine bounds row bytes before line
    → IsCommandLine (bounds_of bounds) (first ∷ line_words (drop from bytes)) bytes from line
plain_done bounds row bytes first from before line type gc at start done =
    let is = plain_is_row bounds row bytes before first type gc at start.named (plain_within row start.plain)
    start.rank (plain_half row bytes first from before start) start.count in
    subst (λ n. IsCommandLine (bounds_of bounds) (first ∷ line_words (drop n bytes)) bytes n line) start.end
    (command_line bounds row bytes before (first ∷ words_left bytes before) before.end line.said line.end done is type (omega arith) refl)

pub plain_unknown : (bounds : GrammarBounds) (bytes first : List ℕ) (from : ℕ) (line : CommandLine)
    → is_text first (codes "type") ≡ false → is_text first (codes "gc") ≡ false → is_text first (codes "at") ≡ false
    → row_named first rows ≡ None → line.said ≡ Err 2
    → IsCommandLine bounds (first ∷ line_words (drop from bytes)) bytes from line
plain_unknown bounds bytes first from line type gc at nowhere is =
    let rest : List (List ℕ) = line_words (drop from bytes) in
    refused_line bounds (first ∷ rest) bytes from 2 line
    (unknown_form bounds (first ∷ rest) (form_of_plain first rest gc at ∙ ap (plain_form (length rest)) nowhere))
    (λ e. omega (arith, e)) type is
