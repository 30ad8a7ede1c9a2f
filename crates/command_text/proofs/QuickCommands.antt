-- A line that is read by the row of its form.
use Rattle.std.proofs.Common.{◌≡◌, ℕ, suc, zero, ◌+◌, ◌≤◌, ◌&&◌, not, nat_le, Bool, true, false, Option, Some, None, IfSome, Ok, List, [], ◌∷◌, length, drop, refl, sym, ap, ◌∙◌, subst, arith, codes}
use Rattle.std.proofs.lemmas.Bool.{true≢false, and_parts, not-true, leb-true}
use Rattle.gc_graph.specs.declared.command.Command.{Command}
use Rattle.gc_graph.specs.Words.{is_text}
use Rattle.gc_graph.specs.Forms.{one, two, three, new_command, set_command, row_named, rows}
use Rattle.command_text.specs.declared.forms.Row.{Row}
use Rattle.command_text.specs.declared.forms.Make.{Make}
use Rattle.command_text.specs.declared.forms.Make.TheVariants as M
use Rattle.command_text.specs.declared.making.OneForm.TheVariants as N
use Rattle.command_text.specs.declared.making.TwoForm.TheVariants as T
use Rattle.command_text.specs.declared.making.ThreeForm.TheVariants as H
use Rattle.command_text.specs.declared.making.SmallForm.TheVariants as F
use Rattle.command_text.specs.declared.wide.WideForm.TheVariants as W
use Rattle.command_text.specs.declared.places.Bounds.{Bounds}
use Rattle.command_text.specs.declared.said.Said.{Said}
use Rattle.command_text.specs.declared.quick_lines.QuickLine.{QuickLine}
use Rattle.line_words.specs.Cursor.{line_words}
use Rattle.line_words.specs.QuickWords.{IsFirstWord}
use Rattle.command_text.specs.Rows.{bounds_of, row_by, command_of, makes_pair, is_plain_row}
use Rattle.command_text.specs.RowLines.{IsRowLine}
use Rattle.command_text.specs.CommandLines.{IsCommandLine}
use Rattle.command_text.specs.QuickLines.{is_frequent, makes_frequent, is_plain_word, is_quick_row, IsQuickLine, IsQuickStart}
use Rattle.command_text.proofs.RowEnds.{end_from}
use Rattle.command_text.proofs.LinesByRows.{plain_sound, plain_done}

-- ---- frequent commands

-- no command, or a frequent one
abbrev holds_frequent : Option Command → Bool
holds_frequent None = true
holds_frequent (Some command) = is_frequent command

frequent_one : (make : ℕ → Command) → ((a : ℕ) → is_frequent (make a) ≡ true) → (numbers : List ℕ) → holds_frequent (one make numbers) ≡ true
frequent_one make all [] = refl
frequent_one make all (a ∷ []) = all a
frequent_one make all (a ∷ b ∷ more) = refl

frequent_two : (make : ℕ → ℕ → Command) → ((a b : ℕ) → is_frequent (make a b) ≡ true) → (numbers : List ℕ)
    → holds_frequent (two make numbers) ≡ true
frequent_two make all [] = refl
frequent_two make all (a ∷ []) = refl
frequent_two make all (a ∷ b ∷ []) = all a b
frequent_two make all (a ∷ b ∷ c ∷ more) = refl

frequent_three : (make : ℕ → ℕ → ℕ → Command) → ((a b c : ℕ) → is_frequent (make a b c) ≡ true) → (numbers : List ℕ)
    → holds_frequent (three make numbers) ≡ true
frequent_three make all [] = refl
frequent_three make all (a ∷ []) = refl
frequent_three make all (a ∷ b ∷ []) = refl
frequent_three make all (a ∷ b ∷ c ∷ []) = all a b c
frequent_three make all (a ∷ b ∷ c ∷ d ∷ more) = refl

frequent_new : (numbers : List ℕ) → holds_frequent (new_command numbers) ≡ true
frequent_new [] = refl
frequent_new (a ∷ []) = refl
frequent_new (a ∷ b ∷ []) = refl
frequent_new (a ∷ b ∷ c ∷ []) = refl
frequent_new (a ∷ b ∷ c ∷ d ∷ more) = refl

frequent_set : (numbers : List ℕ) → holds_frequent (set_command numbers) ≡ true
frequent_set [] = refl
frequent_set (a ∷ []) = refl
frequent_set (a ∷ b ∷ []) = refl
frequent_set (a ∷ b ∷ zero ∷ []) = refl
frequent_set (a ∷ b ∷ suc c ∷ []) = refl
frequent_set (a ∷ b ∷ zero ∷ d ∷ more) = refl
frequent_set (a ∷ b ∷ suc c ∷ d ∷ more) = refl

frequent_by : (make : Make) (numbers : List ℕ) → makes_frequent make ≡ true → holds_frequent (command_of make numbers) ≡ true
frequent_by (M.Small F.New) numbers e = frequent_new numbers
frequent_by (M.Small F.Set) numbers e = frequent_set numbers
frequent_by (M.Small (F.Two T.Word)) numbers e = frequent_two _ (λ p f. refl) numbers
frequent_by (M.Small (F.Three H.Get)) numbers e = frequent_three _ (λ p f q. refl) numbers
frequent_by (M.Small (F.Two T.Copy)) numbers e = frequent_two _ (λ p q. refl) numbers
frequent_by (M.Small (F.One N.Drop)) numbers e = frequent_one _ (λ p. refl) numbers
frequent_by (M.Small (F.Two T.Weak)) numbers e = frequent_two _ (λ w p. refl) numbers
frequent_by (M.Small (F.Two T.Read)) numbers e = frequent_two _ (λ w p. refl) numbers
frequent_by (M.Wide W.Put) numbers e = frequent_three _ (λ p f n. refl) numbers
frequent_by make numbers e = absurd (true≢false (sym e))

frequent_command : (make : Make) (numbers : List ℕ) (command : Command) → makes_frequent make ≡ true → command_of make numbers ≡ Some command
    → is_frequent command ≡ true
frequent_command make numbers command e makes = sym (ap holds_frequent makes) ∙ frequent_by make numbers e

no_pair : (make : Make) → makes_frequent make ≡ true → makes_pair make ≡ false
no_pair (M.Small F.Pair) e = absurd (true≢false (sym e))
no_pair make e = refl

-- ---- rows that are read by themselves

pub record QuickParts (row : Row) : Type 0 where
  pub plain : is_plain_row row ≡ true
  pub no_type : is_text row.name.now (codes "type") ≡ false
  pub no_gc : is_text row.name.now (codes "gc") ≡ false
  pub no_at : is_text row.name.now (codes "at") ≡ false
  pub frequent : makes_frequent row.make ≡ true
  pub few : length row.spots.now ≤ 3

pub quick_parts : (row : Row) → is_quick_row row ≡ true → QuickParts row
quick_parts row quick =
    let name : List ℕ = row.name.now in
    let type : Bool = not (is_text name (codes "type")) in
    let gc : Bool = not (is_text name (codes "gc")) in
    let at : Bool = not (is_text name (codes "at")) in
    let few : Bool = nat_le (length row.spots.now) 3 in
    let all = and_parts (is_plain_row row) (is_plain_word name && (makes_frequent row.make && few)) quick in
    let more = and_parts (is_plain_word name) (makes_frequent row.make && few) all.1 in
    let last = and_parts (makes_frequent row.make) few more.1 in
    let words = and_parts type (gc && at) more.0 in
    let groups = and_parts gc at words.1 in
    record {
      plain = all.0;
      no_type = not-true (is_text name (codes "type")) words.0;
      no_gc = not-true (is_text name (codes "gc")) groups.0;
      no_at = not-true (is_text name (codes "at")) groups.1;
      frequent = last.0;
      few = leb-true (length row.spots.now) 3 last.1;
    }

pub quick_start : (row : Row) (bytes : List ℕ) (at : ℕ) (before : Said) → is_quick_row row ≡ true → IsFirstWord bytes at row.name.now
    → before.rank ≡ 9 → before.end ≡ at + length row.name.now → before.count ≡ 0 → IsQuickStart row bytes before
quick_start row bytes at before quick first rank end count =
    let parts = quick_parts row quick in
    record {
      within = omega (arith, first.within, end);
      rank = rank;
      count = count;
      single = no_pair row.make parts.frequent;
      few = parts.few;
      sound = plain_sound row before.count parts.plain count;
    }

-- ---- the line

quick_line_done : (bounds : Bounds) (row : Row) (bytes : List ℕ) (at : ℕ) (before : Said) (line : QuickLine) → is_quick_row row ≡ true
    → row_named row.name.now rows ≡ Some (row_by row) → IsFirstWord bytes at row.name.now
    → before.rank ≡ 9 → before.end ≡ at + length row.name.now → before.count ≡ 0
    → IsRowLine bounds row bytes before (record { said = Ok line.command; end = line.end })
    → IsQuickLine (bounds_of bounds) (line_words (drop at bytes)) bytes at line
quick_line_done bounds row bytes at before line quick named first rank end count done =
    let parts = quick_parts row quick in
    let name : List ℕ = row.name.now in
    let from : ℕ = at + length name in
    let rest : List (List ℕ) = line_words (drop from bytes) in
    let before_words : at ≤ from = omega arith in
    let whole : IsCommandLine (bounds_of bounds) (name ∷ rest) bytes from (record { said = Ok line.command; end = line.end }) =
    plain_done bounds row bytes name from before (record { said = Ok line.command; end = line.end }) parts.no_type parts.no_gc parts.no_at
    (record { named = named; plain = parts.plain; rank = rank; end = end; count = count }) done in
    subst (λ (words : List (List ℕ)). IsQuickLine (bounds_of bounds) words bytes at line) (sym first.words)
    (record {
      fine = whole.said.0;
      says = whole.said.1;
      ends = end_from bytes at from line.end before_words first.same whole.end;
      type_free = whole.type_free;
      frequent = frequent_command row.make _ line.command parts.frequent done.said.1;
    })

pub quick_done : (bounds : Bounds) (row : Row) (bytes : List ℕ) (at : ℕ) (before : Said) (result : Option QuickLine) → is_quick_row row ≡ true
    → row_named row.name.now rows ≡ Some (row_by row) → IsFirstWord bytes at row.name.now
    → before.rank ≡ 9 → before.end ≡ at + length row.name.now → before.count ≡ 0
    → IfSome result (λ line. IsRowLine bounds row bytes before (record { said = Ok line.command; end = line.end }))
    → IfSome result (IsQuickLine (bounds_of bounds) (line_words (drop at bytes)) bytes at)
quick_done bounds row bytes at before None quick named first rank end count done = done
quick_done bounds row bytes at before (Some line) quick named first rank end count done =
    quick_line_done bounds row bytes at before line quick named first rank end count done
