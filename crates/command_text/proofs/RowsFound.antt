-- The row that a word chooses, found in the code's table.
use Rattle.std.proofs.Common.{◌≡◌, ℕ, zero, suc, not, ◌+◌, ◌<◌, ◌≤◌, true, false, Option, Some, None, List, [], ◌∷◌, length, get_or, drop, refl, sym, ap, ◌∙◌, subst, arith}
use Rattle.std.specs.List.{list_all}
use Rattle.std.proofs.lemmas.List.{drop_more, drop_all, drop-drop}
use Rattle.std.proofs.lemmas.Bool.{and_parts, cond-true, cond-false, not-true}
use Rattle.std.proofs.lemmas.Slice.Eq.{bytes_eq-Decides}
use Rattle.gc_graph.specs.Words.{is_text}
use Rattle.gc_graph.specs.Forms.{row_named}
use Rattle.gc_graph.specs.Forms.{Row as GrammarRow}
use Rattle.command_text.specs.declared.forms.Row.{Row}
use Rattle.command_text.specs.Rows.{row_by, rows_by, SameRow, RowTest, are_distinct}

-- a row at the front of a table, which the word chooses or doesn't
named_here : (word : List ℕ) (row : Row) (rows : List Row) → is_text word row.name.now ≡ true
    → row_named word (rows_by (row ∷ rows)) ≡ Some (row_by row)
named_here word row rows e = cond-true (is_text word row.name.now) (Some (row_by row)) (row_named word (rows_by rows)) e

named_later : (word : List ℕ) (row : Row) (rows : List Row) → is_text word row.name.now ≡ false
    → row_named word (rows_by (row ∷ rows)) ≡ row_named word (rows_by rows)
named_later word row rows e = cond-false (is_text word row.name.now) (Some (row_by row)) (row_named word (rows_by rows)) e

pub named_at : (word : List ℕ) (table : List Row) (i : ℕ) (d : Row) → i < length table → is_text word (get_or table i d).name.now ≡ true
    → row_named word (rows_by (drop i table)) ≡ Some (row_by (get_or table i d))
named_at word table i d low e =
    ap (λ (rows : List Row). row_named word (rows_by rows)) (drop_more table i d low)
    ∙ named_here word (get_or table i d) (drop (i + 1) table) e

pub named_past : (word : List ℕ) (table : List Row) (i : ℕ) (d : Row) → i < length table → is_text word (get_or table i d).name.now ≡ false
    → row_named word (rows_by (drop (i + 1) table)) ≡ row_named word (rows_by (drop i table))
named_past word table i d low e =
    sym (ap (λ (rows : List Row). row_named word (rows_by rows)) (drop_more table i d low)
    ∙ named_later word (get_or table i d) (drop (i + 1) table) e)

pub named_nowhere : (word : List ℕ) (table : List Row) (i : ℕ) → length table ≤ i → row_named word (rows_by (drop i table)) ≡ None
named_nowhere word table i high = ap (λ (rows : List Row). row_named word (rows_by rows)) (drop_all i table high)

pub test_holds : (test : RowTest) (table : List Row) (i : ℕ) (d : Row) → i < length table → list_all test (drop i table) ≡ true
    → test (get_or table i d) ≡ true
test_holds test table i d low e =
    (and_parts (test (get_or table i d)) (list_all test (drop (i + 1) table))
    (sym (ap (λ (rows : List Row). list_all test rows) (drop_more table i d low)) ∙ e)).0

test_tail : (test : RowTest) (table : List Row) → list_all test table ≡ true → list_all test (drop 1 table) ≡ true
test_tail test [] e = refl
test_tail test (row ∷ table) e = (and_parts (test row) (list_all test table) e).1

pub test_next : (test : RowTest) (table : List Row) (i : ℕ) → list_all test (drop i table) ≡ true
    → list_all test (drop (i + 1) table) ≡ true
test_next test table i e =
    sym (ap (λ (rows : List Row). list_all test rows) (drop-drop 1 i table)) ∙ test_tail test (drop i table) e

pub no_row : (found : Option GrammarRow) → found ≡ None → SameRow None found
no_row found e = subst (λ (o : Option GrammarRow). SameRow None o) (sym e) tt

-- ---- in a table of distinct rows

pub all_at : (test : RowTest) (table : List Row) (i : ℕ) (d : Row) → i < length table → list_all test table ≡ true → test (get_or table i d) ≡ true
all_at test [] i d low e = absurd (omega arith)
all_at test (row ∷ table) zero d low e = (and_parts (test row) (list_all test table) e).0
all_at test (row ∷ table) (suc i) d low e = all_at test table i d (omega arith) (and_parts (test row) (list_all test table) e).1

-- a row whose name is the word is the one that the word chooses
pub named_distinct : (word : List ℕ) (table : List Row) (i : ℕ) (d : Row) → i < length table → are_distinct table ≡ true
    → is_text word (get_or table i d).name.now ≡ true → row_named word (rows_by table) ≡ Some (row_by (get_or table i d))
named_distinct word [] i d low apart e = absurd (omega arith)
named_distinct word (row ∷ table) zero d low apart e = named_here word row table e
named_distinct word (row ∷ table) (suc i) d low apart e =
    let others : RowTest = λ other. not (is_text other.name.now row.name.now) in
    let parts = and_parts (list_all others table) (are_distinct table) apart in
    let name : List ℕ = (get_or table i d).name.now in
    let apart_here : is_text name row.name.now ≡ false =
    not-true (is_text name row.name.now) (all_at others table i d (omega arith) parts.0) in
    named_later word row table (ap (λ w. is_text w row.name.now) ((bytes_eq-Decides word name).0 e) ∙ apart_here)
    ∙ named_distinct word table i d (omega arith) parts.1 e
