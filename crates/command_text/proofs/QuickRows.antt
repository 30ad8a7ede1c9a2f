-- The words of a row that is read by itself, each at its place.
use Rattle.std.proofs.Common.{◌≡◌, ℕ, ◌+◌, ◌<◌, ◌≤◌, ◌==◌, ◌||◌, true, Option, Some, None, IfSome, cond, List, [], ◌∷◌, ◌++◌, length, take, drop, refl, sym, ap, ◌∙◌, subst, arith}
use Rattle.std.proofs.lemmas.List.{drop_all}
use Rattle.std.proofs.lemmas.Bool.{cond-true, eq-eqb}
use Rattle.gc_graph.specs.Reasons.{Bounds as GrammarBounds, value_of}
use Rattle.gc_graph.specs.Words.{is_number}
use Rattle.gc_graph.specs.Forms.{Place}
use Rattle.line_words.specs.declared.quick_words.Small.{Small}
use Rattle.line_words.specs.QuickWords.{IsSmallNumber}
use Rattle.command_text.specs.declared.quick_lines.Range.{Range}
use Rattle.command_text.specs.QuickLines.{IsSaidFor}
use Rattle.command_text.specs.declared.forms.Spot.{Spot}
use Rattle.command_text.specs.declared.forms.Row.{Row}
use Rattle.command_text.specs.declared.forms.Make.TheVariants as M
use Rattle.command_text.specs.declared.making.SmallForm.{SmallForm}
use Rattle.command_text.specs.declared.wide.WideForm.{WideForm}
use Rattle.command_text.specs.declared.places.Bounds.{Bounds}
use Rattle.command_text.specs.declared.said.Said.{Said}
use Rattle.line_words.specs.Cursor.{IsLineEnd, IsNextWord}
use Rattle.line_words.specs.QuickWords.{IsEndOfWords}
use Rattle.command_text.specs.Rows.{bounds_of, wide_place_of}
use Rattle.command_text.specs.Said.{list_of, words_left, IsPlaceRead, IsReadOn}
use Rattle.command_text.specs.RowLines.{row_half_rank}
use Rattle.command_text.specs.QuickLines.{IsQuickStart}
use Rattle.command_text.proofs.PlacesRead.{on_nothing, on_both}
use Rattle.command_text.proofs.RowRanks.{IsRowSaid, half_single, small_said}
use Rattle.command_text.proofs.RowEnds.{end_from}
use Rattle.command_text.proofs.WideRows.{IsWideWord, wide_said}

-- ---- one place

-- a number in the range of its place
pub number_read : (bounds : GrammarBounds) (place : Place) (bytes : List ℕ) (from : ℕ) (range : Range) (number : Small)
    → IsSmallNumber bytes from range.limit number
    → ((word : List ℕ) → is_number word ≡ true → value_of word < range.limit → IsSaidFor bounds place word (value_of word + range.more))
    → IsPlaceRead bounds place bytes from number.end 9 (number.value + range.more)
number_read bounds place bytes from range number small says =
    let low : value_of small.word < range.limit = omega (arith, small.value, small.low) in
    let said = subst (λ n. IsSaidFor bounds place small.word (n + range.more)) small.value (says small.word small.number low) in
    record {
      word = small.word;
      words = small.words;
      its_rank = sym said.rank;
      number = λ good. said.number;
      null = said.null;
      order = small.order;
      within = small.within;
      same = small.same;
    }

-- the places of a row from one on, as many as one
abbrev place_at : List Spot → ℕ → List Spot
place_at spots i = take 1 (drop i spots)

-- no such place is there
pub at_no_place : (bounds : Bounds) (spots : List Spot) (i : ℕ) (bytes : List ℕ) (old : Said) → old.end ≤ length bytes → old.rank ≡ 9
    → length spots ≤ i → IsReadOn bounds (place_at spots i) bytes old old
at_no_place bounds spots i bytes old within good high =
    subst (λ (some : List Spot). IsReadOn bounds some bytes old old) (sym (ap (λ (left : List Spot). take 1 left) (drop_all i spots high)))
    (on_nothing bounds bytes old within (omega (arith, good)))

-- ---- three places

three_places : (spots : List Spot) → length spots ≤ 3 → place_at spots 0 ++ (place_at spots 1 ++ place_at spots 2) ≡ spots
three_places [] few = refl
three_places (a ∷ []) few = refl
three_places (a ∷ b ∷ []) few = refl
three_places (a ∷ b ∷ c ∷ []) few = refl
three_places (a ∷ b ∷ c ∷ d ∷ more) few = absurd (omega arith)

pub on_three : (bounds : Bounds) (spots : List Spot) (bytes : List ℕ) (old one two : Said) (result : Option Said) → length spots ≤ 3
    → old.rank ≡ 9 → one.rank ≡ 9 → IsReadOn bounds (place_at spots 0) bytes old one → IsReadOn bounds (place_at spots 1) bytes one two
    → IfSome result (λ new. (new.rank ≡ 9) × IsReadOn bounds (place_at spots 2) bytes two new)
    → IfSome result (λ new. (new.rank ≡ 9) × IsReadOn bounds spots bytes old new)
on_three bounds spots bytes old one two None few good one_good first second third = third
on_three bounds spots bytes old one two (Some new) few good one_good first second third = (
  third.0,
  subst (λ (some : List Spot). IsReadOn bounds some bytes old new) (three_places spots few)
      (on_both bounds (place_at spots 0) (place_at spots 1 ++ place_at spots 2) bytes old one new (omega (arith, good)) first
      (on_both bounds (place_at spots 1) (place_at spots 2) bytes one two new (omega (arith, one_good)) second third.1)),
)

-- ---- the end of the line

pub no_next : (bytes : List ℕ) (from end : ℕ) → IsEndOfWords bytes from end → IsNextWord bytes from end end
no_next bytes from end nothing = record {
  before = nothing.ends.order;
  order = omega arith;
  within = nothing.ends.within;
  same = nothing.ends.same;
  some = λ less. absurd (omega (arith, less));
  none = λ e. (nothing.none, nothing.ends);
}

right_count : (words least most end rank : ℕ) → (words == least || words == most) ≡ true → rank ≡ 9
    → rank ≡ cond (end == end) (cond (words == least || words == most) 9 4) 4
right_count words least most end rank right good =
    good
    ∙ sym (cond-true (end == end) (cond (words == least || words == most) 9 4) 4 (eq-eqb end end refl)
    ∙ cond-true (words == least || words == most) 9 4 right)

pub quick_small : (bounds : Bounds) (row : Row) (form : SmallForm) (bytes : List ℕ) (before said : Said) (end : ℕ)
    → IsQuickStart row bytes before → row.make ≡ M.Small form → said.rank ≡ 9 → IsReadOn bounds row.spots.now bytes before said
    → IsEndOfWords bytes said.end end → (said.count == row.least || said.count == length row.spots.now) ≡ true
    → IsRowSaid bounds row bytes before 9 (list_of said)
quick_small bounds row form bytes before said end start makes good read nothing right =
    let half : row_half_rank row (words_left bytes before) ≡ 9 = half_single row (words_left bytes before) start.single in
    small_said bounds row form bytes before said end end said.count 9 9 makes start.sound (omega (arith, start.rank)) read
    (no_next bytes said.end end nothing) (omega (arith, start.count)) (right_count said.count row.least (length row.spots.now) end 9 right refl)
    (omega (arith, good, half))

pub quick_wide : (bounds : Bounds) (row : Row) (form : WideForm) (bytes : List ℕ) (before said : Said) (next value end : ℕ)
    → IsQuickStart row bytes before → row.make ≡ M.Wide form → said.rank ≡ 9 → IsReadOn bounds row.spots.now bytes before said
    → IsPlaceRead (bounds_of bounds) (wide_place_of form) bytes said.end next 9 value → IsEndOfWords bytes next end
    → IsRowSaid bounds row bytes before 9 (list_of said ++ value ∷ [])
quick_wide bounds row form bytes before said next value end start makes good read number nothing =
    let wide : IsWideWord bounds form bytes said number.word next 9 value = record {
      words = number.words;
      its_rank = number.its_rank;
      its_value = number.number;
    } in
    wide_said bounds row form bytes before said number.word next 9 value end end 9 9 makes start.sound (omega (arith, start.rank)) read wide
    (no_next bytes next end nothing) (sym (cond-true (end == end) 9 4 (eq-eqb end end refl))) (omega (arith, good))

-- the line's end, from the words of the row on
pub quick_end : (bounds : Bounds) (row : Row) (bytes : List ℕ) (before said : Said) (end : ℕ) → IsReadOn bounds row.spots.now bytes before said
    → IsEndOfWords bytes said.end end → IsLineEnd bytes before.end end
quick_end bounds row bytes before said end read nothing = end_from bytes before.end said.end end read.before read.lines nothing.ends

pub quick_wide_end : (bounds : Bounds) (row : Row) (form : WideForm) (bytes : List ℕ) (before said : Said) (next value end : ℕ)
    → IsReadOn bounds row.spots.now bytes before said → IsPlaceRead (bounds_of bounds) (wide_place_of form) bytes said.end next 9 value
    → IsEndOfWords bytes next end → IsLineEnd bytes before.end end
quick_wide_end bounds row form bytes before said next value end read number nothing =
    end_from bytes before.end next end (omega (arith, read.before, number.order)) (read.lines ∙ number.same) nothing.ends
