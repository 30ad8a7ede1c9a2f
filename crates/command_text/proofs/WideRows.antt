-- A row whose last number may be wide.
use Rattle.std.proofs.Common.{◌≡◌, ℕ, ◌+◌, ◌-◌, ◌<◌, ◌≤◌, ◌==◌, ◌||◌, min, true, false, cond, List, [], ◌∷◌, ◌++◌, length, map, take, drop, sym, ap, ◌∙◌, subst, inl, inr, append_assoc, arith}
use Rattle.std.proofs.lemmas.List.{append-nil, length-map, length-append}
use Rattle.std.proofs.lemmas.Bool.{cond-true, cond-false, eq-eqb, ne_eqb, eqb-true, cases_eq, or_left}
use Rattle.gc_graph.specs.Forms.{Place}
use Rattle.gc_graph.specs.Reasons.{says, all_say, is_unknown, is_bad, is_outside}
use Rattle.command_text.specs.declared.forms.Row.{Row}
use Rattle.command_text.specs.declared.forms.Make.TheVariants as M
use Rattle.command_text.specs.declared.wide.WideForm.{WideForm}
use Rattle.command_text.specs.declared.places.Bounds.{Bounds}
use Rattle.command_text.specs.declared.said.Said.{Said}
use Rattle.line_words.specs.Cursor.{line_words, IsNextWord}
use Rattle.command_text.specs.Ranks.{lowest, rank_at}
use Rattle.command_text.specs.Rows.{bounds_of, place_of_spot, places_in, tail_of, wide_place_of, makes_pair, is_sound, is_least_right}
use Rattle.command_text.specs.Said.{list_of, words_left, IsReadOn}
use Rattle.command_text.specs.RowLines.{row_count_rank, row_numbers}
use Rattle.command_text.proofs.PlacesRead.{rank_le9, lowest_append, says_append}
use Rattle.command_text.proofs.RowRanks.{IsRowSaid, half_single, sound_parts, count_right, count_wrong, left_count, said_length, said_low}

-- ---- the places of the row

wide_places : (row : Row) (form : WideForm) → row.make ≡ M.Wide form → places_in row ≡ map place_of_spot row.spots.now ++ wide_place_of form ∷ []
wide_places row form e = ap (λ make. map place_of_spot row.spots.now ++ tail_of make) e

wide_most : (row : Row) (form : WideForm) → row.make ≡ M.Wide form → length (places_in row) ≡ length row.spots.now + 1
wide_most row form e =
    ap length (wide_places row form e)
    ∙ length-append (map place_of_spot row.spots.now) (wide_place_of form ∷ [])
    ∙ ap (λ n. n + 1) (length-map row.spots.now place_of_spot)

wide_least : (before : ℕ) (row : Row) (form : WideForm) → row.make ≡ M.Wide form → is_sound before row ≡ true
    → row.least ≡ length (places_in row)
wide_least before row form e sound =
    eqb-true row.least (length (places_in row))
    (sym (ap (λ make. is_least_right make row.least (length (places_in row))) e) ∙ (sound_parts before row sound).right)

-- a wide number makes no pair
wide_single : (row : Row) (form : WideForm) → row.make ≡ M.Wide form → makes_pair row.make ≡ false
wide_single row form makes = ap makes_pair makes

-- the ranks of the spots and of the wide number
wide_lowest : (bounds : Bounds) (row : Row) (form : WideForm) (bytes : List ℕ) (before said : Said) → row.make ≡ M.Wide form
    → IsReadOn bounds row.spots.now bytes before said
    → lowest (bounds_of bounds) (places_in row) (words_left bytes before)
    ≡ min (lowest (bounds_of bounds) (map place_of_spot row.spots.now) (words_left bytes before))
    (lowest (bounds_of bounds) (wide_place_of form ∷ []) (words_left bytes said))
wide_lowest bounds row form bytes before said makes read =
    let small : List Place = map place_of_spot row.spots.now in
    let words : List (List ℕ) = words_left bytes before in
    ap (λ (ps : List Place). lowest (bounds_of bounds) ps words) (wide_places row form makes)
    ∙ lowest_append (bounds_of bounds) small (wide_place_of form ∷ []) words
    ∙ ap (λ (ws : List (List ℕ)). min (lowest (bounds_of bounds) small words) (lowest (bounds_of bounds) (wide_place_of form ∷ []) ws))
    (ap (λ n. drop n words) (length-map row.spots.now place_of_spot) ∙ sym read.left)

-- ---- without the wide number

pub short_said : (bounds : Bounds) (row : Row) (form : WideForm) (bytes : List ℕ) (before said : Said) (start end rank : ℕ) (numbers : List ℕ)
    → row.make ≡ M.Wide form → is_sound before.count row ≡ true → IsReadOn bounds row.spots.now bytes before said
    → IsNextWord bytes said.end start end → start ≡ end → rank ≡ min said.rank 4
    → IsRowSaid bounds row bytes before rank numbers
short_said bounds row form bytes before said start end rank numbers makes sound read next none total =
    let n : ℕ = length (words_left bytes before) in
    let nothing : words_left bytes said ≡ [] = (next.none (omega arith)).0 in
    let most = wide_most row form makes in
    let least = wide_least before.count row form makes sound in
    let few : n ≤ length row.spots.now = omega (arith, left_count bounds row bytes before said read, ap length nothing) in
    let counted = count_wrong row n (λ e. omega (arith, e, most, least)) (λ e. omega (arith, e, most)) in
    let ranks = wide_lowest bounds row form bytes before said makes read in
    let last = ap (lowest (bounds_of bounds) (wide_place_of form ∷ [])) nothing in
    let half = half_single row (words_left bytes before) (wide_single row form makes) in
    record {
      rank_is = omega (arith, total, counted, read.rank, ranks, last, half);
      numbers_are = λ good. absurd (omega (arith, good, total));
      count = λ good. absurd (omega (arith, good, total));
    }

-- ---- with it

wide_count : (row : Row) (form : WideForm) (before : ℕ) (n more start end : ℕ) (rest : List (List ℕ)) → row.make ≡ M.Wide form
    → is_sound before row ≡ true → n ≡ length row.spots.now + 1 + length rest → (start ≡ end → rest ≡ []) → ((start ≡ end → ⊥) → 0 < length rest)
    → cond (start == end) 9 4 ≡ row_count_rank row n
wide_count row form before n more start end rest makes sound are nothing some =
    let most = wide_most row form makes in
    let least = wide_least before row form makes sound in
    elim (cases_eq start end) [
      | inl e ↦
          cond-true (start == end) 9 4 (eq-eqb start end e)
          ∙ sym (cond-true (n == row.least || n == length (places_in row)) 9 4
          (or_left (n == row.least) (n == length (places_in row)) (eq-eqb n row.least (omega (arith, are, ap length (nothing e), most, least)))))
      | inr ne ↦
          cond-false (start == end) 9 4 (ne_eqb start end ne)
          ∙ sym (count_wrong row n (λ e. omega (arith, e, are, some ne, most, least)) (λ e. omega (arith, e, are, some ne, most)))
    ]

-- the wide number's word, and what it says
pub record IsWideWord (bounds : Bounds) (form : WideForm) (bytes : List ℕ) (said : Said) (word : List ℕ) (end rank value : ℕ) : Type 0 where
  pub words : words_left bytes said ≡ word ∷ line_words (drop end bytes)
  pub its_rank : rank ≡ rank_at (bounds_of bounds) (wide_place_of form) word
  pub its_value : rank ≡ 9 → says (wide_place_of form) word ≡ value ∷ []

wide_numbers : (bounds : Bounds) (row : Row) (form : WideForm) (bytes : List ℕ) (before said : Said) (word : List ℕ) (end rank value : ℕ)
    → row.make ≡ M.Wide form → IsReadOn bounds row.spots.now bytes before said → IsWideWord bounds form bytes said word end rank value
    → said.rank ≡ 9 → rank ≡ 9 → list_of said ++ value ∷ [] ≡ row_numbers row bytes before
wide_numbers bounds row form bytes before said word end rank value makes read wide good its_good =
    let small : List Place = map place_of_spot row.spots.now in
    let words : List (List ℕ) = words_left bytes before in
    ap (λ ns. ns ++ value ∷ []) (read.numbers good)
    ∙ append_assoc (list_of before) (all_say small words) (value ∷ [])
    ∙ ap (λ ns. list_of before ++ (all_say small words ++ ns))
    (sym (wide.its_value its_good) ∙ sym (append-nil (says (wide_place_of form) word)))
    ∙ ap (λ (ws : List (List ℕ)). list_of before ++ (all_say small words ++ all_say (wide_place_of form ∷ []) ws))
    (sym wide.words ∙ read.left ∙ ap (λ n. drop n words) (sym (length-map row.spots.now place_of_spot)))
    ∙ ap (λ ns. list_of before ++ ns) (sym (says_append small (wide_place_of form ∷ []) words))
    ∙ ap (λ (ps : List Place). list_of before ++ all_say ps words) (sym (wide_places row form makes))

wide_low : (bounds : Bounds) (form : WideForm) (bytes : List ℕ) (said : Said) (word : List ℕ) (end rank value : ℕ)
    → IsWideWord bounds form bytes said word end rank value → rank ≤ 9
wide_low bounds form bytes said word end rank value wide =
    let place : Place = wide_place_of form in
    subst (λ n. n ≤ 9) (sym wide.its_rank)
    (rank_le9 (is_unknown place word) (is_bad place word) false (is_outside (bounds_of bounds) place word))

-- one word stands after those of the spots, where the number of words is right
wide_all : (row : Row) (form : WideForm) (before n : ℕ) → row.make ≡ M.Wide form → is_sound before row ≡ true → 9 ≤ row_count_rank row n
    → n ≡ length row.spots.now + 1
wide_all row form before n makes sound right =
    let most = wide_most row form makes in
    let least = wide_least before row form makes sound in
    elim (count_right row n right) [
      | inl e ↦ omega (arith, e, least, most)
      | inr e ↦ omega (arith, e, most)
    ]

both_good : (a b c : ℕ) → a ≤ 9 → b ≤ 9 → min (min a b) c ≡ 9 → (a ≡ 9) × (b ≡ 9) × (9 ≤ c)
both_good a b c low also e = (omega arith, omega arith, omega arith)

pub wide_said : (bounds : Bounds) (row : Row) (form : WideForm) (bytes : List ℕ) (before said : Said) (word : List ℕ)
    (end rank value next last count total : ℕ)
    → row.make ≡ M.Wide form → is_sound before.count row ≡ true → before.rank ≤ 9 → IsReadOn bounds row.spots.now bytes before said
    → IsWideWord bounds form bytes said word end rank value → IsNextWord bytes end next last → count ≡ cond (next == last) 9 4
    → total ≡ min (min said.rank rank) count
    → IsRowSaid bounds row bytes before total (list_of said ++ value ∷ [])
wide_said bounds row form bytes before said word end rank value next last count total makes sound low read wide after is sum =
    let n : ℕ = length (words_left bytes before) in
    let rest : List (List ℕ) = line_words (drop end bytes) in
    let left = left_count bounds row bytes before said read in
    let more = ap length wide.words in
    let are : n ≡ length row.spots.now + 1 + length rest = omega (arith, left, more) in
    let counted = is ∙ wide_count row form before.count n 0 next last rest makes sound are
    (λ e. (after.none (omega (arith, e))).0) (λ ne. omega (arith, ap length (after.some (omega (arith, ne, after.order))))) in
    let ranks = wide_lowest bounds row form bytes before said makes read in
    let its = ap (lowest (bounds_of bounds) (wide_place_of form ∷ [])) wide.words
    ∙ ap (λ r. min r 9) (sym wide.its_rank) in
    let half = half_single row (words_left bytes before) (wide_single row form makes) in
    let parts = both_good said.rank rank count (omega (arith, read.rank, low)) (wide_low bounds form bytes said word end rank value wide) in
    record {
      rank_is = omega (arith, sum, counted, read.rank, ranks, its, low, half);
      numbers_are = λ good.
          let both = parts (sym sum ∙ good) in
          wide_numbers bounds row form bytes before said word end rank value makes read wide both.0 both.1;
      count = λ good.
          length-append (list_of said) (value ∷ [])
          ∙ ap (λ k. k + 1) (said_length before said (said_low bounds row bytes before said sound read))
          ∙ omega (arith, read.count, wide_all row form before.count n makes sound (subst (λ k. 9 ≤ k) counted (parts (sym sum ∙ good)).2));
    }

pub wide_word : (bounds : Bounds) (form : WideForm) (bytes : List ℕ) (said : Said) (start end rank value : ℕ)
    → IsNextWord bytes said.end start end → (start ≡ end → ⊥)
    → rank ≡ rank_at (bounds_of bounds) (wide_place_of form) (take (end - start) (drop start bytes))
    → (rank ≡ 9 → says (wide_place_of form) (take (end - start) (drop start bytes)) ≡ value ∷ [])
    → IsWideWord bounds form bytes said (take (end - start) (drop start bytes)) end rank value
wide_word bounds form bytes said start end rank value next ne its_rank its_value = record {
  words = next.some (omega (arith, next.order));
  its_rank = its_rank;
  its_value = its_value;
}
