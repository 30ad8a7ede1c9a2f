-- The lines of the forms that a word after `gc`, or after `at` and its thread, chooses.
use Rattle.std.proofs.Common.{◌≡◌, ℕ, ◌-◌, ◌≤◌, min, not, true, false, Some, None, Err, List, [], ◌∷◌, length, take, drop, refl, sym, ap, ◌∙◌, subst, arith, codes}
use Rattle.std.proofs.lemmas.Bool.{and_parts, not-true}
use Rattle.gc_graph.specs.Words.{is_text}
use Rattle.gc_graph.specs.Forms.{Place, row_named, gc_rows, at_rows, thread, gc_form, at_form}
use Rattle.gc_graph.specs.Reasons.{Bounds as GrammarBounds, says, is_unknown, is_bad, is_outside}
use Rattle.command_text.specs.declared.forms.Row.{Row}
use Rattle.command_text.specs.declared.places.Bounds.{Bounds}
use Rattle.command_text.specs.declared.said.Said.{Said}
use Rattle.command_text.specs.declared.row_lines.CommandLine.{CommandLine}
use Rattle.line_words.specs.Cursor.{line_words, lines_after, IsNextWord}
use Rattle.command_text.specs.Ranks.{rank_at}
use Rattle.command_text.specs.Rows.{bounds_of, row_by, makes_pair, is_sound, is_gc_row, is_at_row}
use Rattle.command_text.specs.Said.{list_of, words_left}
use Rattle.command_text.specs.RowLines.{IsRowLine}
use Rattle.command_text.specs.CommandLines.{IsCommandLine}
use Rattle.command_text.proofs.PlacesRead.{rank_le9}
use Rattle.command_text.proofs.RowRanks.{sound_least}
use Rattle.command_text.proofs.CommandForms.{form_of_gc, form_of_at, other_text, gc_is_row, at_is_row, command_line, refused_line, unknown_form, missing_form}

-- ---- a group's row makes no pair

pub gc_sound : (row : Row) (before : ℕ) → is_gc_row row ≡ true → before ≡ 0 → is_sound before row ≡ true
gc_sound row before plain e = ap (λ n. is_sound n row) e ∙ (and_parts (is_sound 0 row) (not (makes_pair row.make)) plain).0

pub at_sound : (row : Row) (before : ℕ) → is_at_row row ≡ true → before ≡ 1 → is_sound before row ≡ true
at_sound row before plain e = ap (λ n. is_sound n row) e ∙ (and_parts (is_sound 1 row) (not (makes_pair row.make)) plain).0

gc_single : (row : Row) → is_gc_row row ≡ true → makes_pair row.make ≡ false
gc_single row plain = not-true (makes_pair row.make) (and_parts (is_sound 0 row) (not (makes_pair row.make)) plain).1

at_single : (row : Row) → is_at_row row ≡ true → makes_pair row.make ≡ false
at_single row plain = not-true (makes_pair row.make) (and_parts (is_sound 1 row) (not (makes_pair row.make)) plain).1

rank_low : (bounds : GrammarBounds) (place : Place) (word : List ℕ) → rank_at bounds place word ≤ 9
rank_low bounds place word = rank_le9 (is_unknown place word) (is_bad place word) false (is_outside bounds place word)

-- ---- after `gc`

pub gc_missing : (bounds : GrammarBounds) (bytes : List ℕ) (from start end : ℕ) (line : CommandLine) → IsNextWord bytes from start end
    → start ≡ end → line.said ≡ Err 4 → (first : List ℕ) → is_text first (codes "gc") ≡ true
    → IsCommandLine bounds (first ∷ line_words (drop from bytes)) bytes from line
gc_missing bounds bytes from start end line next none is first gc =
    let type : is_text first (codes "type") ≡ false = other_text first (codes "gc") (codes "type") gc refl in
    let nothing : line_words (drop from bytes) ≡ [] = (next.none (omega (arith, none))).0 in
    subst (λ (ws : List (List ℕ)). IsCommandLine bounds (first ∷ ws) bytes from line) (sym nothing)
    (refused_line bounds (first ∷ []) bytes from 4 line (missing_form bounds (first ∷ []) [] (form_of_gc first [] gc))
    (λ e. omega (arith, e)) type is)

pub gc_unknown : (bounds : GrammarBounds) (bytes : List ℕ) (from start end : ℕ) (line : CommandLine) → IsNextWord bytes from start end
    → (start ≡ end → ⊥) → row_named (take (end - start) (drop start bytes)) gc_rows ≡ None → line.said ≡ Err 2
    → (first : List ℕ) → is_text first (codes "gc") ≡ true
    → IsCommandLine bounds (first ∷ line_words (drop from bytes)) bytes from line
gc_unknown bounds bytes from start end line next some nowhere is first gc =
    let type : is_text first (codes "type") ≡ false = other_text first (codes "gc") (codes "type") gc refl in
    let rest : List (List ℕ) = line_words (drop end bytes) in
    let second : List ℕ = take (end - start) (drop start bytes) in
    subst (λ (ws : List (List ℕ)). IsCommandLine bounds (first ∷ ws) bytes from line) (sym (next.some (omega (arith, some, next.order))))
    (refused_line bounds (first ∷ second ∷ rest) bytes from 2 line
    (unknown_form bounds (first ∷ second ∷ rest) (form_of_gc first (second ∷ rest) gc ∙ ap (gc_form (length rest)) nowhere))
    (λ e. omega (arith, e)) type is)

pub gc_done : (bounds : Bounds) (row : Row) (bytes : List ℕ) (from start end : ℕ) (before : Said) (line : CommandLine)
    → IsNextWord bytes from start end → (start ≡ end → ⊥)
    → row_named (take (end - start) (drop start bytes)) gc_rows ≡ Some (row_by row) → is_gc_row row ≡ true
    → before.rank ≡ 9 → before.end ≡ end → before.count ≡ 0 → IsRowLine bounds row bytes before line
    → (first : List ℕ) → is_text first (codes "gc") ≡ true
    → IsCommandLine (bounds_of bounds) (first ∷ line_words (drop from bytes)) bytes from line
gc_done bounds row bytes from start end before line next some named plain low ends none done first gc =
    let type : is_text first (codes "type") ≡ false = other_text first (codes "gc") (codes "type") gc refl in
    let second : List ℕ = take (end - start) (drop start bytes) in
    let is = gc_is_row bounds row bytes before first second type gc named (sound_least 0 row (gc_sound row 0 plain refl)) (gc_single row plain) low none in
    let words : line_words (drop from bytes) ≡ second ∷ words_left bytes before =
    next.some (omega (arith, some, next.order)) ∙ ap (λ n. second ∷ line_words (drop n bytes)) (sym ends) in
    subst (λ (ws : List (List ℕ)). IsCommandLine (bounds_of bounds) (first ∷ ws) bytes from line) (sym words)
    (command_line bounds row bytes before (first ∷ second ∷ words_left bytes before) from line.said line.end done is type
    (omega (arith, next.before, next.order, ends)) (next.same ∙ ap (λ n. lines_after (drop n bytes)) (sym ends)))

-- ---- after `at`

pub at_missing : (bounds : GrammarBounds) (bytes : List ℕ) (from start end : ℕ) (line : CommandLine) → IsNextWord bytes from start end
    → start ≡ end → line.said ≡ Err 4 → (first : List ℕ) → is_text first (codes "at") ≡ true
    → IsCommandLine bounds (first ∷ line_words (drop from bytes)) bytes from line
at_missing bounds bytes from start end line next none is first at =
    let type : is_text first (codes "type") ≡ false = other_text first (codes "at") (codes "type") at refl in
    let gc : is_text first (codes "gc") ≡ false = other_text first (codes "at") (codes "gc") at refl in
    let nothing : line_words (drop from bytes) ≡ [] = (next.none (omega (arith, none))).0 in
    subst (λ (ws : List (List ℕ)). IsCommandLine bounds (first ∷ ws) bytes from line) (sym nothing)
    (refused_line bounds (first ∷ []) bytes from 4 line (missing_form bounds (first ∷ []) [] (form_of_at first [] gc at))
    (λ e. omega (arith, e)) type is)

-- the thread stands there, and the word that chooses the order may
pub record IsThreadWord (bounds : GrammarBounds) (bytes : List ℕ) (from mid rank : ℕ) (word : List ℕ) : Type 0 where
  pub words : line_words (drop from bytes) ≡ word ∷ line_words (drop mid bytes)
  pub before : from ≤ mid
  pub same : lines_after (drop from bytes) ≡ lines_after (drop mid bytes)
  pub rank_is : rank ≡ rank_at bounds thread word

pub thread_word : (bounds : GrammarBounds) (bytes : List ℕ) (from start end rank : ℕ) → IsNextWord bytes from start end → (start ≡ end → ⊥)
    → rank ≡ rank_at bounds thread (take (end - start) (drop start bytes))
    → IsThreadWord bounds bytes from end rank (take (end - start) (drop start bytes))
thread_word bounds bytes from start end rank next some is = record {
  words = next.some (omega (arith, some, next.order));
  before = omega (arith, next.before, next.order);
  same = next.same;
  rank_is = is;
}

pub at_thread_alone : (bounds : GrammarBounds) (bytes : List ℕ) (from mid rank : ℕ) (j : List ℕ) (start end total : ℕ) (line : CommandLine)
    → IsThreadWord bounds bytes from mid rank j → IsNextWord bytes mid start end → start ≡ end → total ≡ min rank 4 → line.said ≡ Err total
    → (first : List ℕ) → is_text first (codes "at") ≡ true
    → IsCommandLine bounds (first ∷ line_words (drop from bytes)) bytes from line
at_thread_alone bounds bytes from mid rank j start end total line its next none sum is first at =
    let type : is_text first (codes "type") ≡ false = other_text first (codes "at") (codes "type") at refl in
    let gc : is_text first (codes "gc") ≡ false = other_text first (codes "at") (codes "gc") at refl in
    let words : line_words (drop from bytes) ≡ j ∷ [] =
    its.words ∙ ap (λ (ws : List (List ℕ)). j ∷ ws) (next.none (omega (arith, none))).0 in
    subst (λ (ws : List (List ℕ)). IsCommandLine bounds (first ∷ ws) bytes from line) (sym words)
    (refused_line bounds (first ∷ j ∷ []) bytes from total line
    (missing_form bounds (first ∷ j ∷ []) (thread ∷ []) (form_of_at first (j ∷ []) gc at) ∙ omega (arith, sum, its.rank_is))
    (λ e. omega (arith, e, sum)) type is)

pub at_unknown : (bounds : GrammarBounds) (bytes : List ℕ) (from mid rank : ℕ) (j : List ℕ) (start end : ℕ) (line : CommandLine)
    → IsThreadWord bounds bytes from mid rank j → IsNextWord bytes mid start end → (start ≡ end → ⊥)
    → row_named (take (end - start) (drop start bytes)) at_rows ≡ None → line.said ≡ Err 2
    → (first : List ℕ) → is_text first (codes "at") ≡ true
    → IsCommandLine bounds (first ∷ line_words (drop from bytes)) bytes from line
at_unknown bounds bytes from mid rank j start end line its next some nowhere is first at =
    let type : is_text first (codes "type") ≡ false = other_text first (codes "at") (codes "type") at refl in
    let gc : is_text first (codes "gc") ≡ false = other_text first (codes "at") (codes "gc") at refl in
    let rest : List (List ℕ) = line_words (drop end bytes) in
    let third : List ℕ = take (end - start) (drop start bytes) in
    let words : line_words (drop from bytes) ≡ j ∷ third ∷ rest =
    its.words ∙ ap (λ (ws : List (List ℕ)). j ∷ ws) (next.some (omega (arith, some, next.order))) in
    subst (λ (ws : List (List ℕ)). IsCommandLine bounds (first ∷ ws) bytes from line) (sym words)
    (refused_line bounds (first ∷ j ∷ third ∷ rest) bytes from 2 line
    (unknown_form bounds (first ∷ j ∷ third ∷ rest) (form_of_at first (j ∷ third ∷ rest) gc at ∙ ap (at_form (length rest)) nowhere))
    (λ e. omega (arith, e)) type is)

pub at_done : (bounds : Bounds) (row : Row) (bytes : List ℕ) (from mid rank : ℕ) (j : List ℕ) (start end value : ℕ) (before : Said) (line : CommandLine)
    → IsThreadWord (bounds_of bounds) bytes from mid rank j → IsNextWord bytes mid start end → (start ≡ end → ⊥)
    → row_named (take (end - start) (drop start bytes)) at_rows ≡ Some (row_by row) → is_at_row row ≡ true
    → (rank ≡ 9 → says thread j ≡ value ∷ [])
    → before.rank ≡ rank → before.end ≡ end → before.count ≡ 1 → before.a ≡ value → IsRowLine bounds row bytes before line
    → (first : List ℕ) → is_text first (codes "at") ≡ true
    → IsCommandLine (bounds_of bounds) (first ∷ line_words (drop from bytes)) bytes from line
at_done bounds row bytes from mid rank j start end value before line its next some named plain its_value low ends count number done first at =
    let type : is_text first (codes "type") ≡ false = other_text first (codes "at") (codes "type") at refl in
    let gc : is_text first (codes "gc") ≡ false = other_text first (codes "at") (codes "gc") at refl in
    let third : List ℕ = take (end - start) (drop start bytes) in
    let said : before.rank ≡ 9 → list_of before ≡ says thread j = λ good.
    ap (λ n. take n (before.a ∷ before.b ∷ before.c ∷ before.d ∷ 0 ∷ [])) count ∙ ap (λ n. n ∷ []) number ∙ sym (its_value (sym low ∙ good)) in
    let is = at_is_row bounds row bytes before first j third type gc at named (sound_least 1 row (at_sound row 1 plain refl)) (at_single row plain)
    (omega (arith, low, its.rank_is, rank_low (bounds_of bounds) thread j)) (low ∙ its.rank_is) said in
    let words : line_words (drop from bytes) ≡ j ∷ third ∷ words_left bytes before =
    its.words ∙ ap (λ (ws : List (List ℕ)). j ∷ ws)
    (next.some (omega (arith, some, next.order)) ∙ ap (λ n. third ∷ line_words (drop n bytes)) (sym ends)) in
    subst (λ (ws : List (List ℕ)). IsCommandLine (bounds_of bounds) (first ∷ ws) bytes from line) (sym words)
    (command_line bounds row bytes before (first ∷ j ∷ third ∷ words_left bytes before) from line.said line.end done is type
    (omega (arith, its.before, next.before, next.order, ends)) (its.same ∙ next.same ∙ ap (λ n. lines_after (drop n bytes)) (sym ends)))
