-- The form of a line by the row that its words choose, and the command line of a row's line.
use Rattle.std.proofs.Common.{◌≡◌, ℕ, zero, suc, ◌<◌, ◌≤◌, ◌==◌, ◌||◌, min, Bool, cond, List, [], ◌∷◌, ◌++◌, length, take, drop, refl, sym, ap, ◌∙◌, inl, inr, arith, nat_lt}
use Rattle.std.proofs.lemmas.List.{take-append-drop, length-take}
use Rattle.std.proofs.lemmas.Bool.{cond-true, cond-false, lt-ltb, le-ltb, eq-eqb, ne_eqb, cases_lt, cases_eq}
use Rattle.gc_graph.specs.Forms.{Place, places_of}
use Rattle.gc_graph.specs.Reasons.{Bounds as GrammarBounds, says, all_say}
use Rattle.command_text.specs.declared.forms.Row.{Row}
use Rattle.command_text.specs.Ranks.{lowest, rank_at, count_rank}
use Rattle.command_text.specs.Rows.{places_in, row_by}
use Rattle.command_text.specs.RowLines.{row_count_rank}
use Rattle.command_text.proofs.PlacesRead.{lowest_nothing, says_nothing}
use Rattle.command_text.proofs.RowRanks.{count_wrong}

-- ---- the places of a row for so many words

lowest_take : (bounds : GrammarBounds) (n : ℕ) (places : List Place) (words : List (List ℕ)) → length words ≤ n
    → lowest bounds (take n places) words ≡ lowest bounds places words
lowest_take bounds zero [] words low = refl
lowest_take bounds (suc n) [] words low = refl
lowest_take bounds n (place ∷ places) [] low = lowest_nothing bounds (take n (place ∷ places))
lowest_take bounds zero (place ∷ places) (word ∷ words) low = absurd (omega arith)
lowest_take bounds (suc n) (place ∷ places) (word ∷ words) low =
    ap (min (rank_at bounds place word)) (lowest_take bounds n places words (omega arith))

says_take : (n : ℕ) (places : List Place) (words : List (List ℕ)) → length words ≤ n → all_say (take n places) words ≡ all_say places words
says_take zero [] words low = refl
says_take (suc n) [] words low = refl
says_take n (place ∷ places) [] low = says_nothing (take n (place ∷ places))
says_take zero (place ∷ places) (word ∷ words) low = absurd (omega arith)
says_take (suc n) (place ∷ places) (word ∷ words) low = ap (λ ns. says place word ++ ns) (says_take n places words (omega arith))

-- the places that count for so many words, more or fewer
places_more : (row : Row) (n : ℕ) → row.least ≤ length (places_in row) → row.least < n → places_of (row_by row) n ≡ places_in row
places_more row n within more =
    let some : List Place = take row.least (places_in row) in
    let all : List Place = some ++ drop row.least (places_in row) in
    cond-true (nat_lt (length some) n) all some (lt-ltb (length some) n (omega (arith, length-take row.least (places_in row))))
    ∙ take-append-drop row.least (places_in row)

places_fewer : (row : Row) (n : ℕ) → row.least ≤ length (places_in row) → n ≤ row.least
    → places_of (row_by row) n ≡ take row.least (places_in row)
places_fewer row n within few =
    let some : List Place = take row.least (places_in row) in
    let all : List Place = some ++ drop row.least (places_in row) in
    cond-false (nat_lt (length some) n) all some (le-ltb (length some) n (omega (arith, length-take row.least (places_in row))))

pub lowest_of_row : (bounds : GrammarBounds) (row : Row) (words : List (List ℕ)) → row.least ≤ length (places_in row)
    → lowest bounds (places_of (row_by row) (length words)) words ≡ lowest bounds (places_in row) words
lowest_of_row bounds row words within = elim (cases_lt row.least (length words)) [
  | inl more ↦ ap (λ (ps : List Place). lowest bounds ps words) (places_more row (length words) within more)
  | inr few ↦ ap (λ (ps : List Place). lowest bounds ps words) (places_fewer row (length words) within few)
      ∙ lowest_take bounds row.least (places_in row) words few
]

pub says_of_row : (row : Row) (words : List (List ℕ)) → row.least ≤ length (places_in row)
    → all_say (places_of (row_by row) (length words)) words ≡ all_say (places_in row) words
says_of_row row words within = elim (cases_lt row.least (length words)) [
  | inl more ↦ ap (λ (ps : List Place). all_say ps words) (places_more row (length words) within more)
  | inr few ↦ ap (λ (ps : List Place). all_say ps words) (places_fewer row (length words) within few)
      ∙ says_take row.least (places_in row) words few
]

count_few : (row : Row) (n : ℕ) → row.least ≤ length (places_in row) → n ≤ row.least → count_rank n row.least ≡ row_count_rank row n
count_few row n within few = elim (cases_eq n row.least) [
  | inl e ↦ cond-true (n == row.least) 9 4 (eq-eqb n row.least e)
      ∙ sym (ap {A = Bool} {B = ℕ} (λ b. cond (b || n == length (places_in row)) 9 4) (eq-eqb n row.least e))
  | inr ne ↦ cond-false (n == row.least) 9 4 (ne_eqb n row.least ne) ∙ sym (count_wrong row n ne (λ e. omega (arith, e, ne)))
]

pub count_of_row : (row : Row) (n : ℕ) → row.least ≤ length (places_in row)
    → count_rank n (length (places_of (row_by row) n)) ≡ row_count_rank row n
count_of_row row n within = elim (cases_lt row.least n) [
  | inl more ↦ ap (λ (ps : List Place). count_rank n (length ps)) (places_more row n within more)
      ∙ ap {A = Bool} {B = ℕ} (λ b. cond (b || n == length (places_in row)) 9 4) (sym (ne_eqb n row.least (λ e. omega (arith, e, more))))
  | inr few ↦ ap (λ (ps : List Place). count_rank n (length ps)) (places_fewer row n within few)
      ∙ ap (count_rank n) (length-take row.least (places_in row) ∙ omega (arith, within))
      ∙ count_few row n within few
]
