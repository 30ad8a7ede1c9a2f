-- The form that the first words of a line choose, and what a row's line says of the whole line.
use Rattle.std.proofs.Common.{◌≡◌, ℕ, suc, ◌≤◌, ◌==◌, min, not, true, false, Option, Some, None, Result, Ok, Err, cond, List, [], ◌∷◌, ◌++◌, length, take, drop, refl, sym, ap, ◌∙◌, subst, inl, inr, arith, codes}
use Rattle.std.specs.Borrow.{Bor}
use Rattle.std.proofs.lemmas.Bool.{cond-true, cond-false, eq-eqb, ne_eqb, cases_eq, cases_Bool}
use Rattle.std.proofs.lemmas.Slice.Eq.{bytes_eq-Decides}
use Rattle.gc_graph.specs.declared.command.Command.{Command}
use Rattle.gc_graph.specs.Words.{is_text}
use Rattle.gc_graph.specs.Forms.{Place, Form, form_of, form_after_gc, form_after_at, places_of, plain_form, gc_form, at_form, row_named, rows, gc_rows, at_rows, thread}
use Rattle.gc_graph.specs.Forms.{Row as GrammarRow}
use Rattle.gc_graph.specs.Forms.Place.{Fixed}
use Rattle.gc_graph.specs.Forms.Form.{Missing, Unknown, Known}
use Rattle.gc_graph.specs.Reasons.{Bounds as GrammarBounds, says, all_say, first_is, command_of_words, command_by}
use Rattle.command_text.specs.declared.forms.Row.{Row}
use Rattle.command_text.specs.declared.places.Bounds.{Bounds}
use Rattle.command_text.specs.declared.said.Said.{Said}
use Rattle.command_text.specs.declared.row_lines.CommandLine.{CommandLine}
use Rattle.line_words.specs.Cursor.{lines_after}
use Rattle.command_text.specs.CommandLines.{IsCommandLine}
use Rattle.command_text.specs.PlainForms.{form_of_plain}
use Rattle.command_text.specs.Ranks.{rank_by, lowest, rank_at, count_rank, half_rank, form_rank}
use Rattle.command_text.specs.Rows.{bounds_of, places_in, row_by, SameRow, makes_pair, command_of}
use Rattle.command_text.specs.Said.{list_of, words_left}
use Rattle.command_text.specs.RowLines.{row_half_rank, row_rank, row_numbers, IsRowLine}
use Rattle.command_text.proofs.RanksOfWords.{known_rank, missing_rank, faultless, faulty, many_elsewhere, half_elsewhere}
use Rattle.command_text.proofs.RowRanks.{half_single, count_low}
use Rattle.command_text.proofs.RowEnds.{end_from}
use Rattle.command_text.proofs.FormRanks.{lowest_of_row, says_of_row, count_of_row}

-- the row's rank is that of the form which the words choose, and its command is theirs
pub record IsRowOf (bounds : Bounds) (row : Row) (bytes : List ℕ) (before : Said) (words : List (List ℕ)) : Type 0 where
  pub rank : row_rank bounds row bytes before ≡ form_rank (bounds_of bounds) (form_of words) words
  pub command : row_rank bounds row bytes before ≡ 9 → command_of row.make (row_numbers row bytes before) ≡ command_of_words words

-- ---- the first word

pub form_of_gc : (first : List ℕ) (rest : List (List ℕ)) → is_text first (codes "gc") ≡ true
    → form_of (first ∷ rest) ≡ form_after_gc rest
form_of_gc first rest gc =
    let after_at : Form = cond (is_text first (codes "at")) (form_after_at rest) (plain_form (length rest) (row_named first rows)) in
    let after_gc : Form = cond (is_text first (codes "gc")) (form_after_gc rest) after_at in
    cond-true (is_text first (codes "gc")) (form_after_gc rest) after_at gc

pub form_of_at : (first : List ℕ) (rest : List (List ℕ)) → is_text first (codes "gc") ≡ false
    → is_text first (codes "at") ≡ true → form_of (first ∷ rest) ≡ form_after_at rest
form_of_at first rest gc at =
    let plain : Form = plain_form (length rest) (row_named first rows) in
    let after_at : Form = cond (is_text first (codes "at")) (form_after_at rest) plain in
    let after_gc : Form = cond (is_text first (codes "gc")) (form_after_gc rest) after_at in
    cond-false (is_text first (codes "gc")) (form_after_gc rest) after_at gc
    ∙ cond-true (is_text first (codes "at")) (form_after_at rest) plain at

-- ---- a known form

-- the row that was found is the grammar's
pub named_of : (row : Bor Row) (found : Option GrammarRow) → SameRow (Some row) found → found ≡ Some (row_by row.now)
named_of row None same = absurd same
named_of row (Some other) same = ap Some (sym same)

pub no_row_of : (found : Option GrammarRow) → SameRow None found → found ≡ None
no_row_of None same = refl
no_row_of (Some other) same = absurd same

-- the word is the name of the row that it chooses
pub name_of : (word : List ℕ) (table : List GrammarRow) (row : GrammarRow) → row_named word table ≡ Some row → is_text word row.name ≡ true
name_of word [] row e = cc
name_of word (other ∷ table) row e = elim (cases_Bool (is_text word other.name)) [
  | inl here ↦
      let some : Some other ≡ Some row = sym (cond-true (is_text word other.name) (Some other) (row_named word table) here) ∙ e in
      let same : other ≡ row = cc in
      subst (λ (r : GrammarRow). is_text word r.name ≡ true) same here
  | inr later ↦ name_of word table row (sym (cond-false (is_text word other.name) (Some other) (row_named word table) later) ∙ e)
]

command_known : (words : List (List ℕ)) (places : List Place) (command : List ℕ → Option Command) → form_of words ≡ Known places command
    → command_of_words words ≡ command (all_say places (drop 1 words))
command_known words places command e = ap (λ form. command_by form words) e

nothing_said : (said : Said) → said.count ≡ 0 → list_of said ≡ []
nothing_said said none = ap (λ n. take n (said.a ∷ said.b ∷ said.c ∷ said.d ∷ 0 ∷ [])) none

pub plain_is_row : (bounds : Bounds) (row : Row) (bytes : List ℕ) (before : Said) (first : List ℕ)
    → is_text first (codes "type") ≡ false → is_text first (codes "gc") ≡ false → is_text first (codes "at") ≡ false
    → row_named first rows ≡ Some (row_by row) → row.least ≤ length (places_in row)
    → before.rank ≡ 9 → row_half_rank row (words_left bytes before) ≡ half_rank (first ∷ words_left bytes before) → before.count ≡ 0
    → IsRowOf bounds row bytes before (first ∷ words_left bytes before)
plain_is_row bounds row bytes before first type gc at named within low half none =
    let rest : List (List ℕ) = words_left bytes before in
    let words : List (List ℕ) = first ∷ rest in
    let places : List Place = places_of (row_by row) (length rest) in
    let form : form_of words ≡ Known places (command_of row.make) =
    form_of_plain first rest gc at ∙ ap (plain_form (length rest)) named in
    let known = known_rank (bounds_of bounds) places (command_of row.make) words in
    let many = many_elsewhere (bounds_of bounds) words type in
    record {
      rank =
          let same : row_rank bounds row bytes before ≡ form_rank (bounds_of bounds) (Known places (command_of row.make)) words =
          omega (arith, known, many, low, half, lowest_of_row (bounds_of bounds) row rest within, count_of_row row (length rest) within, count_low row (length rest)) in
          same ∙ ap (λ f. form_rank (bounds_of bounds) f words) (sym form);
      command = λ good.
          ap (λ ns. command_of row.make (ns ++ all_say (places_in row) rest)) (nothing_said before none)
          ∙ ap (command_of row.make) (sym (says_of_row row rest within))
          ∙ sym (command_known words places (command_of row.make) form);
    }

-- ---- after `gc`

count_more : (words places : ℕ) → count_rank (suc words) (suc places) ≡ count_rank words places
count_more words places = elim (cases_eq words places) [
  | inl e ↦ cond-true (suc words == suc places) 9 4 (eq-eqb (suc words) (suc places) (ap suc e))
      ∙ sym (cond-true (words == places) 9 4 (eq-eqb words places e))
  | inr ne ↦ cond-false (suc words == suc places) 9 4 (ne_eqb (suc words) (suc places) (λ e. omega (arith, e, ne)))
      ∙ sym (cond-false (words == places) 9 4 (ne_eqb words places ne))
]

fixed_rank : (bounds : GrammarBounds) (text word : List ℕ) → is_text word text ≡ true → rank_at bounds (Fixed text) word ≡ 9
fixed_rank bounds text word e = ap (λ b. rank_by (not b) false false false) e

-- a word that is one of two texts isn't the other
pub other_text : (word text other : List ℕ) → is_text word text ≡ true → is_text text other ≡ false → is_text word other ≡ false
other_text word text other e ne = ap (λ w. is_text w other) ((bytes_eq-Decides word text).0 e) ∙ ne

pub gc_is_row : (bounds : Bounds) (row : Row) (bytes : List ℕ) (before : Said) (first second : List ℕ)
    → is_text first (codes "type") ≡ false → is_text first (codes "gc") ≡ true
    → row_named second gc_rows ≡ Some (row_by row) → row.least ≤ length (places_in row)
    → makes_pair row.make ≡ false → before.rank ≡ 9 → before.count ≡ 0
    → IsRowOf bounds row bytes before (first ∷ second ∷ words_left bytes before)
gc_is_row bounds row bytes before first second type gc named within single low none =
    let rest : List (List ℕ) = words_left bytes before in
    let words : List (List ℕ) = first ∷ second ∷ rest in
    let some : List Place = places_of (row_by row) (length rest) in
    let places : List Place = Fixed row.name.now ∷ some in
    let form : form_of words ≡ Known places (command_of row.make) =
    form_of_gc first (second ∷ rest) gc ∙ ap (gc_form (length rest)) named in
    let known = known_rank (bounds_of bounds) places (command_of row.make) words in
    let many = many_elsewhere (bounds_of bounds) words type in
    let half = half_elsewhere first (second ∷ rest) (other_text first (codes "gc") (codes "pair") gc refl) in
    let fixed = fixed_rank (bounds_of bounds) row.name.now second (name_of second gc_rows (row_by row) named) in
    record {
      rank =
          let same : row_rank bounds row bytes before ≡ form_rank (bounds_of bounds) (Known places (command_of row.make)) words =
          omega (
            arith,
            known,
            many,
            half,
            half_single row rest single,
            low,
            fixed,
            count_more (length rest) (length some),
            lowest_of_row (bounds_of bounds) row rest within,
            count_of_row row (length rest) within,
            count_low row (length rest),
          ) in
          same ∙ ap (λ f. form_rank (bounds_of bounds) f words) (sym form);
      command = λ good.
          ap (λ ns. command_of row.make (ns ++ all_say (places_in row) rest)) (nothing_said before none)
          ∙ ap (command_of row.make) (sym (says_of_row row rest within))
          ∙ sym (command_known words places (command_of row.make) form);
    }

-- ---- after `at` and its thread

pub at_is_row : (bounds : Bounds) (row : Row) (bytes : List ℕ) (before : Said) (first j third : List ℕ)
    → is_text first (codes "type") ≡ false → is_text first (codes "gc") ≡ false → is_text first (codes "at") ≡ true
    → row_named third at_rows ≡ Some (row_by row) → row.least ≤ length (places_in row)
    → makes_pair row.make ≡ false → before.rank ≤ 9 → before.rank ≡ rank_at (bounds_of bounds) thread j → (before.rank ≡ 9 → list_of before ≡ says thread j)
    → IsRowOf bounds row bytes before (first ∷ j ∷ third ∷ words_left bytes before)
at_is_row bounds row bytes before first j third type gc at named within single low its_rank its_value =
    let rest : List (List ℕ) = words_left bytes before in
    let words : List (List ℕ) = first ∷ j ∷ third ∷ rest in
    let some : List Place = places_of (row_by row) (length rest) in
    let places : List Place = thread ∷ Fixed row.name.now ∷ some in
    let form : form_of words ≡ Known places (command_of row.make) =
    form_of_at first (j ∷ third ∷ rest) gc at ∙ ap (at_form (length rest)) named in
    let known = known_rank (bounds_of bounds) places (command_of row.make) words in
    let many = many_elsewhere (bounds_of bounds) words type in
    let half = half_elsewhere first (j ∷ third ∷ rest) (other_text first (codes "at") (codes "pair") at refl) in
    let fixed = fixed_rank (bounds_of bounds) row.name.now third (name_of third at_rows (row_by row) named) in
    record {
      rank =
          let same : row_rank bounds row bytes before ≡ form_rank (bounds_of bounds) (Known places (command_of row.make)) words =
          omega (
            arith,
            known,
            many,
            half,
            half_single row rest single,
            its_rank,
            fixed,
            count_more (suc (length rest)) (suc (length some)),
            count_more (length rest) (length some),
            lowest_of_row (bounds_of bounds) row rest within,
            count_of_row row (length rest) within,
            count_low row (length rest),
          ) in
          same ∙ ap (λ f. form_rank (bounds_of bounds) f words) (sym form);
      command = λ good.
          ap (λ ns. command_of row.make (ns ++ all_say (places_in row) rest)) (its_value (omega (arith, good, low)))
          ∙ ap (λ ns. command_of row.make (says thread j ++ ns)) (sym (says_of_row row rest within))
          ∙ sym (command_known words places (command_of row.make) form);
    }

-- ---- what a row's line says of the whole line

pub command_line : (bounds : Bounds) (row : Row) (bytes : List ℕ) (before : Said) (words : List (List ℕ)) (from : ℕ)
    (said : Result Command ℕ) (end : ℕ)
    → IsRowLine bounds row bytes before (record { said = said; end = end }) → IsRowOf bounds row bytes before words
    → first_is (codes "type") words ≡ false → from ≤ before.end → lines_after (drop from bytes) ≡ lines_after (drop before.end bytes)
    → IsCommandLine (bounds_of bounds) words bytes from (record { said = said; end = end })
command_line bounds row bytes before words from (Ok command) end line is type within same = record {
  said = (faultless (bounds_of bounds) words (sym is.rank ∙ line.said.0), sym (is.command line.said.0) ∙ line.said.1);
  end = end_from bytes from before.end end within same line.end;
  fault = tt;
  type_free = type;
}
command_line bounds row bytes before words from (Err rank) end line is type within same =
    let why = faulty (bounds_of bounds) words (λ e. line.fault.1 (line.fault.0 ∙ is.rank ∙ e)) in
    record {
      said = tt;
      end = tt;
      fault = (why.0, line.fault.0 ∙ is.rank ∙ why.1, why.2);
      type_free = type;
    }

-- a line that is refused with the rank of its words
pub refused_line : (bounds : GrammarBounds) (words : List (List ℕ)) (bytes : List ℕ) (from rank : ℕ) (line : CommandLine)
    → form_rank bounds (form_of words) words ≡ rank → (rank ≡ 9 → ⊥) → first_is (codes "type") words ≡ false → line.said ≡ Err rank
    → IsCommandLine bounds words bytes from line
refused_line bounds words bytes from rank line total bad type is =
    let why = faulty bounds words (λ e. bad (sym total ∙ e)) in
    record {
      said = rw is tt;
      end = rw is tt;
      fault = rw is (why.0, sym total ∙ why.1, why.2);
      type_free = type;
    }

-- ---- where no row is chosen

pub unknown_form : (bounds : GrammarBounds) (words : List (List ℕ)) → form_of words ≡ Unknown → form_rank bounds (form_of words) words ≡ 2
unknown_form bounds words e = ap (λ form. form_rank bounds form words) e

pub missing_form : (bounds : GrammarBounds) (words : List (List ℕ)) (places : List Place) → form_of words ≡ Missing places
    → form_rank bounds (form_of words) words ≡ min (lowest bounds places (drop 1 words)) 4
missing_form bounds words places e = ap (λ form. form_rank bounds form words) e ∙ missing_rank bounds places words
