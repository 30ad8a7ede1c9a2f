-- A pair, of which not one alone is null.
use Rattle.std.proofs.Common.{◌≡◌, ℕ, suc, ◌-◌, ◌≤◌, ◌==◌, ◌&&◌, ◌||◌, not, min, Bool, true, false, Some, cond, List, [], ◌∷◌, ◌++◌, length, map, take, drop, refl, sym, ap, ◌∙◌, subst, inl, inr, arith, codes}
use Rattle.std.specs.Prelude.{is_some}
use Rattle.std.proofs.lemmas.Bool.{true≢false, not-false, and_left, and_right, cond-false, eq-eqb, ne_eqb, cases_lt, cases_Bool}
use Rattle.std.proofs.lemmas.List.{take-append-drop, length-take, length-map}
use Rattle.std.proofs.lemmas.Slice.Eq.{bytes_eq-Decides}
use Rattle.gc_graph.specs.Words.{is_text, is_number}
use Rattle.gc_graph.specs.Forms.{Place, slot, field, slot_or_null, row_named, rows, row, pair_command}
use Rattle.gc_graph.specs.Forms.{Row as GrammarRow}
use Rattle.gc_graph.specs.Reasons.{Bounds as GrammarBounds, all_say, is_bad, is_outside, is_half_null, value_of}
use Rattle.command_text.specs.declared.forms.Row.{Row}
use Rattle.command_text.specs.declared.forms.Make.TheVariants as M
use Rattle.command_text.specs.declared.making.SmallForm.{SmallForm}
use Rattle.command_text.specs.declared.places.Bounds.{Bounds}
use Rattle.command_text.specs.declared.said.Said.{Said}
use Rattle.line_words.specs.Cursor.{IsNextWord}
use Rattle.command_text.specs.Ranks.{rank_by, rank_at, lowest, half_rank}
use Rattle.command_text.specs.Rows.{bounds_of, place_of_spot, is_null, places_in, row_by, agree, makes_pair, pair_places, command_of, is_sound}
use Rattle.command_text.specs.Said.{list_of, words_left, AreNullsSaid, IsReadOn, is_half_said}
use Rattle.command_text.specs.RowLines.{row_rank, row_count_rank, row_half_rank, row_numbers}
use Rattle.command_text.specs.CommandLines.{is_half_after}
use Rattle.command_text.proofs.RowRanks.{IsRowSaid, count_right, half_single, small_places, small_said}

-- a word without a rank says a number, or null
not_bad : (u b c o : Bool) → 4 ≤ rank_by u b c o → b ≡ false
not_bad true b c o high = absurd (omega arith)
not_bad false true c o high = absurd (omega arith)
not_bad false false c o high = refl

null_or_number : (bounds : GrammarBounds) (word : List ℕ) → 4 ≤ rank_at bounds slot_or_null word → (is_null word || is_number word) ≡ true
null_or_number bounds word high =
    not-false (is_null word || is_number word) (not_bad false (is_bad slot_or_null word) false (is_outside bounds slot_or_null word) high)

-- the numbers of a pair by whether each is null
pair_of : (p f k v : ℕ) (k_null v_null : Bool) → k_null ≡ v_null
    → is_some (pair_command (p ∷ f ∷ cond k_null 0 (suc k) ∷ cond v_null 0 (suc v) ∷ [])) ≡ true
pair_of p f k v true true e = refl
pair_of p f k v true false e = absurd (true≢false e)
pair_of p f k v false true e = absurd (true≢false (sym e))
pair_of p f k v false false e = refl

-- where not one alone is null, both are or none is
both_null : (k_null k_number v_null v_number : Bool) → (k_null || k_number) ≡ true → (v_null || v_number) ≡ true
    → ((k_null && v_number) || (k_number && v_null)) ≡ false → k_null ≡ v_null
both_null true kn true vn k v e = refl
both_null true kn false true k v e = e
both_null true kn false false k v e = sym v
both_null false true true vn k v e = sym e
both_null false false true vn k v e = k
both_null false kn false vn k v e = refl

pair_says : (bounds : GrammarBounds) (words : List (List ℕ)) → length words ≡ 4
    → 9 ≤ lowest bounds (slot ∷ field ∷ slot_or_null ∷ slot_or_null ∷ []) words → is_half_after words ≡ false
    → is_some (pair_command (all_say (slot ∷ field ∷ slot_or_null ∷ slot_or_null ∷ []) words)) ≡ true
pair_says bounds [] e high half = absurd (omega (arith, e))
pair_says bounds (p ∷ []) e high half = absurd (omega (arith, e))
pair_says bounds (p ∷ f ∷ []) e high half = absurd (omega (arith, e))
pair_says bounds (p ∷ f ∷ k ∷ []) e high half = absurd (omega (arith, e))
pair_says bounds (p ∷ f ∷ k ∷ v ∷ x ∷ more) e high half = absurd (omega (arith, e))
pair_says bounds (p ∷ f ∷ k ∷ v ∷ []) e high half =
    pair_of (value_of p) (value_of f) (value_of k) (value_of v) (is_null k) (is_null v)
    (both_null (is_null k) (is_number k) (is_null v) (is_number v)
    (null_or_number bounds k (omega (arith, high))) (null_or_number bounds v (omega (arith, high))) half)

-- ---- the row of `pair`

pub half_null_is : (first : List ℕ) (rest : List (List ℕ)) → is_half_null (first ∷ rest) ≡ (is_text first (codes "pair") && is_half_after rest)
half_null_is first [] = sym (and_right (is_text first (codes "pair")) false refl)
half_null_is first (p ∷ []) = sym (and_right (is_text first (codes "pair")) false refl)
half_null_is first (p ∷ f ∷ []) = sym (and_right (is_text first (codes "pair")) false refl)
half_null_is first (p ∷ f ∷ k ∷ []) = sym (and_right (is_text first (codes "pair")) false refl)
half_null_is first (p ∷ f ∷ k ∷ v ∷ more) = refl

agreed : (a b : Bool) → agree a b ≡ true → a ≡ b
agreed true b e = sym e
agreed false true e = e
agreed false false e = refl

-- the row that the first word chooses makes a pair exactly where the word is `pair`
pub pair_word : (first : List ℕ) (row : Row) → is_text first row.name.now ≡ true → agree (is_text row.name.now (codes "pair")) (makes_pair row.make) ≡ true
    → is_text first (codes "pair") ≡ makes_pair row.make
pair_word first row name agrees =
    ap (λ w. is_text w (codes "pair")) ((bytes_eq-Decides first row.name.now).0 name)
    ∙ agreed (is_text row.name.now (codes "pair")) (makes_pair row.make) agrees

pub half_is_by : (first : List ℕ) (rest : List (List ℕ)) (row : Row) → is_text first row.name.now ≡ true
    → agree (is_text row.name.now (codes "pair")) (makes_pair row.make) ≡ true
    → row_half_rank row rest ≡ half_rank (first ∷ rest)
half_is_by first rest row name agrees =
    ap {A = Bool} {B = ℕ} (λ b. cond (b && is_half_after rest) 3 9) (sym (pair_word first row name agrees))
    ∙ ap {A = Bool} {B = ℕ} (λ b. cond b 3 9) (sym (half_null_is first rest))

record IsPairRow (row : Row) : Type 0 where
  places : places_in row ≡ slot ∷ field ∷ slot_or_null ∷ slot_or_null ∷ []
  least : 4 ≤ row.least
  command : (numbers : List ℕ) → command_of row.make numbers ≡ pair_command numbers

abbrev pair_row : GrammarRow
pair_row = row (codes "pair") (slot ∷ field ∷ slot_or_null ∷ slot_or_null ∷ []) pair_command

is_pair_row : (row : Row) → row_by row ≡ pair_row → IsPairRow row
is_pair_row row e =
    let some : take row.least (places_in row) ≡ slot ∷ field ∷ slot_or_null ∷ slot_or_null ∷ [] = ap (λ (r : GrammarRow). r.places) e in
    let rest : drop row.least (places_in row) ≡ [] = ap (λ (r : GrammarRow). r.optional) e in
    record {
      places = sym (take-append-drop row.least (places_in row)) ∙ ap (λ (ps : List Place). ps ++ drop row.least (places_in row)) some
          ∙ ap (λ (ps : List Place). slot ∷ field ∷ slot_or_null ∷ slot_or_null ∷ ps) rest;
      least = omega (arith, ap length some, length-take row.least (places_in row));
      command = λ numbers. ap (λ (r : GrammarRow). r.command numbers) e;
    }

same_some : (a b : GrammarRow) → Some a ≡ Some b → a ≡ b
same_some a b e = cc

pair_named : (first : List ℕ) (row : Row) → row_named first rows ≡ Some (row_by row) → is_text first (codes "pair") ≡ true → row_by row ≡ pair_row
pair_named first row named pair =
    same_some (row_by row) pair_row (sym named ∙ ap (λ w. row_named w rows) ((bytes_eq-Decides first (codes "pair")).0 pair))

half_right : (b : Bool) → 9 ≤ cond b 3 9 → b ≡ false
half_right true e = absurd (omega arith)
half_right false e = refl

pair_count : (row : Row) (n : ℕ) → IsPairRow row → row.least ≤ length (places_in row) → 9 ≤ row_count_rank row n → n ≡ 4
pair_count row n is within right = elim (count_right row n right) [
  | inl least ↦ omega (arith, least, is.least, within, ap length is.places)
  | inr most ↦ omega (arith, most, ap length is.places)
]

pub pair_row_places : (first : List ℕ) (row : Row) → row_named first rows ≡ Some (row_by row) → is_text first (codes "pair") ≡ true
    → places_in row ≡ pair_places
pair_row_places first row named pair = (is_pair_row row (pair_named first row named pair)).places

-- where the words have no fault, the numbers of `pair` make its command
pub pair_makes : (bounds : Bounds) (row : Row) (bytes : List ℕ) (before : Said) (first : List ℕ)
    → row_named first rows ≡ Some (row_by row) → is_text first (codes "pair") ≡ true → row.least ≤ length (places_in row)
    → row_half_rank row (words_left bytes before) ≡ half_rank (first ∷ words_left bytes before) → before.count ≡ 0
    → row_rank bounds row bytes before ≡ 9
    → is_some (command_of row.make (row_numbers row bytes before)) ≡ true
pair_makes bounds row bytes before first named pair within half none good =
    let rest : List (List ℕ) = words_left bytes before in
    let is = is_pair_row row (pair_named first row named pair) in
    let count : length rest ≡ 4 = pair_count row (length rest) is within (omega (arith, good)) in
    let low = ap (λ (ps : List Place). lowest (bounds_of bounds) ps rest) is.places in
    let not_half : is_half_after rest ≡ false =
    sym (ap (λ b. b && is_half_after rest) pair) ∙ sym (half_null_is first rest)
    ∙ half_right (is_half_null (first ∷ rest)) (omega (arith, good, half)) in
    ap is_some (is.command (row_numbers row bytes before))
    ∙ ap (λ ns. is_some (pair_command (ns ++ all_say (places_in row) rest)))
    (ap (λ n. take n (before.a ∷ before.b ∷ before.c ∷ before.d ∷ 0 ∷ [])) none)
    ∙ ap (λ (ps : List Place). is_some (pair_command (all_say ps rest))) is.places
    ∙ pair_says (bounds_of bounds) rest count (omega (arith, good, low)) not_half

-- ---- the numbers of a pair

null_no_number : (word : List ℕ) → is_null word ≡ true → is_number word ≡ false
null_no_number word null = ap is_number ((bytes_eq-Decides word (codes "-")).0 null)

-- of two words without a fault one alone is null where the nulls differ
halves : (k_null k_number v_null v_number : Bool) → (k_null || k_number) ≡ true → (v_null || v_number) ≡ true
    → (k_null ≡ true → k_number ≡ false) → (v_null ≡ true → v_number ≡ false)
    → not (agree k_null v_null) ≡ ((k_null && v_number) || (k_number && v_null))
halves true true true vn k v kf vf = absurd (true≢false (kf refl))
halves true false true true k v kf vf = absurd (true≢false (vf refl))
halves true false true false k v kf vf = refl
halves true kn false true k v kf vf = refl
halves true kn false false k v kf vf = absurd (true≢false (sym v))
halves false true true vn k v kf vf = refl
halves false false true vn k v kf vf = absurd (true≢false (sym k))
halves false true false vn k v kf vf = refl
halves false false false vn k v kf vf = refl

-- fewer words than a pair has
few_words : (count : ℕ) (half : Bool) → (count ≡ 4 → ⊥) → ((count == 4) && half) ≡ false
few_words count half few = ap (λ b. b && half) (ne_eqb count 4 few)

half_words : (bounds : GrammarBounds) (words : List (List ℕ)) (numbers : List ℕ) (count a b c d : ℕ) → count ≡ min 4 (length words)
    → numbers ≡ take count (a ∷ b ∷ c ∷ d ∷ 0 ∷ []) → AreNullsSaid pair_places words numbers → 4 ≤ lowest bounds pair_places words
    → ((count == 4) && not (agree (c == 0) (d == 0))) ≡ is_half_after words
half_words bounds [] numbers count a b c d are is nulls high = few_words count (not (agree (c == 0) (d == 0))) (λ e. omega (arith, are, e))
half_words bounds (p ∷ []) numbers count a b c d are is nulls high =
    few_words count (not (agree (c == 0) (d == 0))) (λ e. omega (arith, are, e))
half_words bounds (p ∷ f ∷ []) numbers count a b c d are is nulls high =
    few_words count (not (agree (c == 0) (d == 0))) (λ e. omega (arith, are, e))
half_words bounds (p ∷ f ∷ k ∷ []) numbers count a b c d are is nulls high =
    few_words count (not (agree (c == 0) (d == 0))) (λ e. omega (arith, are, e))
half_words bounds (p ∷ f ∷ k ∷ v ∷ more) numbers count a b c d are is nulls high =
    let four : count ≡ 4 = omega (arith, are) in
    let all : numbers ≡ a ∷ b ∷ c ∷ d ∷ [] = is ∙ ap (λ n. take n (a ∷ b ∷ c ∷ d ∷ 0 ∷ [])) four in
    let said : AreNullsSaid pair_places (p ∷ f ∷ k ∷ v ∷ more) (a ∷ b ∷ c ∷ d ∷ []) =
    subst (λ ns. AreNullsSaid pair_places (p ∷ f ∷ k ∷ v ∷ more) ns) all nulls in
    ap (λ x. x && not (agree (c == 0) (d == 0))) (eq-eqb count 4 four)
    ∙ ap (λ x. not (agree x (d == 0))) said.1.1.0
    ∙ ap (λ x. not (agree (is_null k) x)) said.1.1.1.0
    ∙ halves (is_null k) (is_number k) (is_null v) (is_number v) (null_or_number bounds k (omega (arith, high)))
    (null_or_number bounds v (omega (arith, high))) (null_no_number k) (null_no_number v)

half_high : (half : Bool) → 3 ≤ cond half 3 9
half_high true = omega arith
half_high false = omega arith

-- nothing was said before the first word
said_before : (before : Said) → before.count ≡ 0 → list_of before ≡ []
said_before before none = ap (λ n. take n (before.a ∷ before.b ∷ before.c ∷ before.d ∷ 0 ∷ [])) none

pair_said : (bounds : Bounds) (row : Row) (form : SmallForm) (bytes : List ℕ) (before said : Said) → row.make ≡ M.Small form
    → before.count ≡ 0 → places_in row ≡ pair_places → IsReadOn bounds row.spots.now bytes before said → 4 ≤ said.rank
    → is_half_said said ≡ is_half_after (words_left bytes before)
pair_said bounds row form bytes before said makes none pair read high =
    let words : List (List ℕ) = words_left bytes before in
    let places : map place_of_spot row.spots.now ≡ pair_places = sym (small_places row form makes) ∙ pair in
    let four = ap length places in
    let low = ap (λ (ps : List Place). lowest (bounds_of bounds) ps words) places in
    half_words (bounds_of bounds) words read.more said.count said.a said.b said.c said.d
    (omega (arith, read.count, none, four, length-map row.spots.now place_of_spot))
    (sym (read.adds ∙ ap (λ ns. ns ++ read.more) (said_before before none)))
    (subst (λ (ps : List Place). AreNullsSaid ps words read.more) places read.nulls)
    (omega (arith, high, read.rank, low))

-- the numbers tell what a pair lacks, as far as no word has a lower rank
half_said : (bounds : Bounds) (row : Row) (form : SmallForm) (bytes : List ℕ) (before said : Said) (count half : ℕ)
    → row.make ≡ M.Small form → (makes_pair row.make ≡ true → (before.count ≡ 0) × (places_in row ≡ pair_places))
    → IsReadOn bounds row.spots.now bytes before said → half ≡ cond (makes_pair (M.Small form) && is_half_said said) 3 9
    → min (min said.rank count) half ≡ min (min said.rank count) (row_half_rank row (words_left bytes before))
half_said bounds row form bytes before said count half makes pairs read is =
    let words : List (List ℕ) = words_left bytes before in
    let same : makes_pair (M.Small form) ≡ makes_pair row.make = sym (ap makes_pair makes) in
    let its : half ≡ cond (makes_pair row.make && is_half_said said) 3 9 =
    is ∙ ap {A = Bool} {B = ℕ} (λ b. cond (b && is_half_said said) 3 9) same in
    elim (cases_Bool (makes_pair row.make)) [
      | inr single ↦
          ap (min (min said.rank count))
          (its ∙ cond-false (makes_pair row.make && is_half_said said) 3 9 (and_left (makes_pair row.make) (is_half_said said) single)
          ∙ sym (half_single row words single))
      | inl pair ↦
          let said_is : cond (makes_pair row.make && is_half_said said) 3 9 ≡ cond (is_half_said said) 3 9 =
          ap {A = Bool} {B = ℕ} (λ b. cond (b && is_half_said said) 3 9) pair in
          let left_is : row_half_rank row words ≡ cond (is_half_after words) 3 9 =
          ap {A = Bool} {B = ℕ} (λ b. cond (b && is_half_after words) 3 9) pair in
          elim (cases_lt said.rank 4) [
            | inl low ↦ omega (arith, low, its, said_is, left_is, half_high (is_half_said said), half_high (is_half_after words))
            | inr high ↦ ap (min (min said.rank count))
                (its ∙ said_is
                ∙ ap {A = Bool} {B = ℕ} (λ b. cond b 3 9) (pair_said bounds row form bytes before said makes (pairs pair).0 (pairs pair).1 read high)
                ∙ sym left_is)
          ]
    ]

-- what is known of the words of a row of small numbers, with its pair
pub small_said_of : (bounds : Bounds) (row : Row) (form : SmallForm) (bytes : List ℕ) (before said : Said) (start end words count half low rank : ℕ)
    → row.make ≡ M.Small form → is_sound before.count row ≡ true → before.rank ≤ 9
    → (makes_pair row.make ≡ true → (before.count ≡ 0) × (places_in row ≡ pair_places))
    → IsReadOn bounds row.spots.now bytes before said → IsNextWord bytes said.end start end → words ≡ said.count - before.count
    → count ≡ cond (start == end) (cond (words == row.least || words == length row.spots.now) 9 4) 4
    → half ≡ cond (makes_pair (M.Small form) && is_half_said said) 3 9 → low ≡ min said.rank count → rank ≡ min low half
    → IsRowSaid bounds row bytes before rank (list_of said)
small_said_of bounds row form bytes before said start end words count half low rank makes sound before_low pairs read next are is half_is low_is rank_is =
    small_said bounds row form bytes before said start end words count rank makes sound before_low read next are is
    (rank_is ∙ ap (λ n. min n half) low_is ∙ half_said bounds row form bytes before said count half makes pairs read half_is)
