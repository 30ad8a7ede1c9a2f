-- The rank and the numbers of a row's line, from the words at its places and after them.
use Rattle.std.proofs.Common.{◌≡◌, ℕ, ◌+◌, ◌-◌, ◌<◌, ◌≤◌, ◌==◌, ◌||◌, ◌&&◌, min, Bool, true, false, Some, Ok, Err, cond, List, [], ◌∷◌, ◌++◌, length, map, refl, sym, ap, ◌∙◌, inl, inr, arith, ◌⊎◌}
use Rattle.std.specs.Prelude.{is_some, nat_le}
use Rattle.std.proofs.lemmas.List.{append-nil, length-drop, length-take, length-map}
use Rattle.std.proofs.lemmas.Bool.{and_parts, cond-true, cond-false, eq-eqb, ne_eqb, eqb-true, cases_eq, cases_Bool, or_cases, or_from, and_left, leb-true}
use Rattle.gc_graph.specs.declared.command.Command.{Command}
use Rattle.gc_graph.specs.Forms.{Place}
use Rattle.gc_graph.specs.Reasons.{all_say}
use Rattle.command_text.specs.declared.forms.Row.{Row}
use Rattle.command_text.specs.declared.forms.Make.{Make}
use Rattle.command_text.specs.declared.forms.Make.TheVariants as M
use Rattle.command_text.specs.declared.making.SmallForm.{SmallForm}
use Rattle.command_text.specs.declared.places.Bounds.{Bounds}
use Rattle.command_text.specs.declared.said.Said.{Said}
use Rattle.command_text.specs.declared.row_lines.CommandLine.{CommandLine}
use Rattle.line_words.specs.Cursor.{IsLineEnd, IsNextWord}
use Rattle.command_text.specs.Ranks.{lowest}
use Rattle.command_text.specs.Rows.{bounds_of, place_of_spot, places_in, tail_of, command_of, takes, makes_pair, is_sound, is_least_right}
use Rattle.command_text.specs.Said.{list_of, words_left, IsReadOn}
use Rattle.command_text.specs.RowLines.{row_count_rank, row_half_rank, row_rank, row_numbers, IsRowLine}
use Rattle.command_text.specs.CommandLines.{is_half_after}
use Rattle.command_text.proofs.Accepting.{accepts}

-- what is known of the words of a row's line when all were read
pub record IsRowSaid (bounds : Bounds) (row : Row) (bytes : List ℕ) (before : Said) (rank : ℕ) (numbers : List ℕ) : Type 0 where
  pub rank_is : rank ≡ row_rank bounds row bytes before
  pub numbers_are : rank ≡ 9 → numbers ≡ row_numbers row bytes before
  pub count : rank ≡ 9 → length numbers ≡ before.count + length (words_left bytes before)

pub record SoundParts (before : ℕ) (row : Row) : Type 0 where
  pub right : is_least_right row.make row.least (length (places_in row)) ≡ true
  pub room : before + length row.spots.now ≤ 4
  pub takes_least : takes row.make (before + row.least) ≡ true
  pub takes_most : takes row.make (before + length (places_in row)) ≡ true

pub sound_parts : (before : ℕ) (row : Row) → is_sound before row ≡ true → SoundParts before row
sound_parts before row sound =
    let least : Bool = takes row.make (before + row.least) in
    let most : Bool = takes row.make (before + length (places_in row)) in
    let room : Bool = nat_le (before + length row.spots.now) 4 in
    let a = and_parts (is_least_right row.make row.least (length (places_in row))) (room && (least && most)) sound in
    let b = and_parts room (least && most) a.1 in
    let c = and_parts least most b.1 in
    record { right = a.0; room = leb-true (before + length row.spots.now) 4 b.0; takes_least = c.0; takes_most = c.1 }

-- ---- the number of words

nine_most : (b : Bool) → cond b 9 4 ≤ 9
nine_most true = omega arith
nine_most false = omega arith

nine_true : (b : Bool) → 9 ≤ cond b 9 4 → b ≡ true
nine_true true high = refl
nine_true false high = absurd (omega arith)

pub count_low : (row : Row) (n : ℕ) → row_count_rank row n ≤ 9
count_low row n = nine_most (n == row.least || n == length (places_in row))

-- a faultless number of words is one of two
pub count_right : (row : Row) (n : ℕ) → 9 ≤ row_count_rank row n → (n ≡ row.least) ⊎ (n ≡ length (places_in row))
count_right row n high =
    elim (or_cases (n == row.least) (n == length (places_in row)) (nine_true (n == row.least || n == length (places_in row)) high)) [
      | inl e ↦ inl (eqb-true n row.least e)
      | inr e ↦ inr (eqb-true n (length (places_in row)) e)
    ]

pub count_wrong : (row : Row) (n : ℕ) → (n ≡ row.least → ⊥) → (n ≡ length (places_in row) → ⊥) → row_count_rank row n ≡ 4
count_wrong row n least most =
    cond-false (n == row.least || n == length (places_in row)) 9 4
    (or_from (n == row.least) (n == length (places_in row)) (ne_eqb n row.least least) (ne_eqb n (length (places_in row)) most))

-- ---- a pair

-- a form that makes no pair asks nothing of one
pub half_single : (row : Row) (words : List (List ℕ)) → makes_pair row.make ≡ false → row_half_rank row words ≡ 9
half_single row words single =
    cond-false (makes_pair row.make && is_half_after words) 3 9 (and_left (makes_pair row.make) (is_half_after words) single)

-- ---- the end

rank_parts : (bounds : Bounds) (row : Row) (bytes : List ℕ) (before : Said) → row_rank bounds row bytes before ≡ 9
    → 9 ≤ row_count_rank row (length (words_left bytes before))
rank_parts bounds row bytes before e = omega (arith, e)

right_takes : (bounds : Bounds) (row : Row) (bytes : List ℕ) (before : Said) → row_rank bounds row bytes before ≡ 9
    → is_sound before.count row ≡ true → takes row.make (before.count + length (words_left bytes before)) ≡ true
right_takes bounds row bytes before e sound =
    let n : ℕ = length (words_left bytes before) in
    let parts = sound_parts before.count row sound in
    elim (count_right row n (rank_parts bounds row bytes before e)) [
      | inl least ↦ ap (λ k. takes row.make (before.count + k)) least ∙ parts.takes_least
      | inr most ↦ ap (λ k. takes row.make (before.count + k)) most ∙ parts.takes_most
    ]

-- where the words have no fault, the numbers make the command
pub row_makes : (bounds : Bounds) (row : Row) (bytes : List ℕ) (before : Said) (rank : ℕ) (numbers : List ℕ)
    → IsRowSaid bounds row bytes before rank numbers → rank ≡ 9 → is_sound before.count row ≡ true
    → (makes_pair row.make ≡ true → row_rank bounds row bytes before ≡ 9 → is_some (command_of row.make (row_numbers row bytes before)) ≡ true)
    → is_some (command_of row.make numbers) ≡ true
row_makes bounds row bytes before rank numbers said good sound pairs = elim (cases_Bool (makes_pair row.make)) [
  | inl pair ↦ ap (λ ns. is_some (command_of row.make ns)) (said.numbers_are good) ∙ pairs pair (sym said.rank_is ∙ good)
  | inr other ↦ accepts row.make numbers (before.count + length (words_left bytes before)) other (said.count good)
      (right_takes bounds row bytes before (sym said.rank_is ∙ good) sound)
]

pub faulty_line : (bounds : Bounds) (row : Row) (bytes : List ℕ) (before : Said) (rank : ℕ) (numbers : List ℕ) (line : CommandLine)
    → IsRowSaid bounds row bytes before rank numbers → (rank ≡ 9 → ⊥) → line.said ≡ Err rank → IsRowLine bounds row bytes before line
faulty_line bounds row bytes before rank numbers line said bad is = record {
  said = rw is tt;
  end = rw is tt;
  fault = rw is (said.rank_is, bad);
}

pub good_line : (bounds : Bounds) (row : Row) (bytes : List ℕ) (before : Said) (rank : ℕ) (numbers : List ℕ) (command : Command) (end : ℕ)
    → IsRowSaid bounds row bytes before rank numbers → rank ≡ 9 → Some command ≡ command_of row.make numbers → IsLineEnd bytes before.end end
    → IsRowLine bounds row bytes before (record { said = Ok command; end = end })
good_line bounds row bytes before rank numbers command end said good makes ends = record {
  said = (sym said.rank_is ∙ good, ap (command_of row.make) (sym (said.numbers_are good)) ∙ sym makes);
  end = ends;
  fault = tt;
}

-- ---- a row of small numbers

pub small_places : (row : Row) (form : SmallForm) → row.make ≡ M.Small form → places_in row ≡ map place_of_spot row.spots.now
small_places row form e =
    ap (λ make. map place_of_spot row.spots.now ++ tail_of make) e ∙ append-nil (map place_of_spot row.spots.now)

small_most : (row : Row) (form : SmallForm) → row.make ≡ M.Small form → length (places_in row) ≡ length row.spots.now
small_most row form e = ap length (small_places row form e) ∙ length-map row.spots.now place_of_spot

small_least : (before : ℕ) (row : Row) (form : SmallForm) → row.make ≡ M.Small form → is_sound before row ≡ true
    → row.least ≤ length (places_in row)
small_least before row form e sound =
    leb-true row.least (length (places_in row))
    (sym (ap (λ make. is_least_right make row.least (length (places_in row))) e) ∙ (sound_parts before row sound).right)

-- the words that are left after the spots
pub left_count : (bounds : Bounds) (row : Row) (bytes : List ℕ) (before said : Said) → IsReadOn bounds row.spots.now bytes before said
    → length (words_left bytes said) ≡ length (words_left bytes before) - length row.spots.now
left_count bounds row bytes before said read = ap length read.left ∙ length-drop (length row.spots.now) (words_left bytes before)

small_count : (bounds : Bounds) (row : Row) (form : SmallForm) (bytes : List ℕ) (before said : Said) (start end words count : ℕ)
    → row.make ≡ M.Small form → is_sound before.count row ≡ true → IsReadOn bounds row.spots.now bytes before said
    → IsNextWord bytes said.end start end → words ≡ said.count - before.count
    → count ≡ cond (start == end) (cond (words == row.least || words == length row.spots.now) 9 4) 4
    → count ≡ row_count_rank row (length (words_left bytes before))
small_count bounds row form bytes before said start end words count makes sound read next are is =
    let n : ℕ = length (words_left bytes before) in
    let left = left_count bounds row bytes before said read in
    let most : length (places_in row) ≡ length row.spots.now = small_most row form makes in
    elim (cases_eq start end) [
      | inl e ↦
          let all : words ≡ n = omega (arith, are, read.count, left, ap length (next.none (omega arith)).0) in
          is
          ∙ cond-true (start == end) (cond (words == row.least || words == length row.spots.now) 9 4) 4 (eq-eqb start end e)
          ∙ ap (λ k. cond (k == row.least || k == length row.spots.now) 9 4) all
          ∙ ap (λ k. cond (n == row.least || n == k) 9 4) (sym most)
      | inr ne ↦
          let more : length row.spots.now < n = omega (arith, left, ap length (next.some (omega (arith, next.order)))) in
          let least : row.least ≤ length (places_in row) = small_least before.count row form makes sound in
          is
          ∙ cond-false (start == end) (cond (words == row.least || words == length row.spots.now) 9 4) 4 (ne_eqb start end ne)
          ∙ sym (count_wrong row n (λ e. omega (arith, e)) (λ e. omega (arith, e)))
    ]

-- the numbers that were read are as many as they say
pub said_length : (before : Said) (said : Said) → said.count ≤ 4 → length (list_of said) ≡ said.count
said_length before said low =
    length-take said.count (said.a ∷ said.b ∷ said.c ∷ said.d ∷ 0 ∷ []) ∙ omega (arith, low)

pub said_low : (bounds : Bounds) (row : Row) (bytes : List ℕ) (before said : Said) → is_sound before.count row ≡ true
    → IsReadOn bounds row.spots.now bytes before said → said.count ≤ 4
said_low bounds row bytes before said sound read = omega (arith, read.count, (sound_parts before.count row sound).room)

-- no more words than spots are there, where their number is right
small_all : (bounds : Bounds) (row : Row) (form : SmallForm) (bytes : List ℕ) (before said : Said) → row.make ≡ M.Small form
    → is_sound before.count row ≡ true → IsReadOn bounds row.spots.now bytes before said
    → 9 ≤ row_count_rank row (length (words_left bytes before))
    → said.count ≡ before.count + length (words_left bytes before)
small_all bounds row form bytes before said makes sound read right =
    let n : ℕ = length (words_left bytes before) in
    let most : length (places_in row) ≡ length row.spots.now = small_most row form makes in
    let least : row.least ≤ length (places_in row) = small_least before.count row form makes sound in
    elim (count_right row n right) [
      | inl e ↦ omega (arith, e, read.count)
      | inr e ↦ omega (arith, e, read.count)
    ]

pub small_said : (bounds : Bounds) (row : Row) (form : SmallForm) (bytes : List ℕ) (before said : Said) (start end words count rank : ℕ)
    → row.make ≡ M.Small form → is_sound before.count row ≡ true → before.rank ≤ 9 → IsReadOn bounds row.spots.now bytes before said
    → IsNextWord bytes said.end start end → words ≡ said.count - before.count
    → count ≡ cond (start == end) (cond (words == row.least || words == length row.spots.now) 9 4) 4
    → rank ≡ min (min said.rank count) (row_half_rank row (words_left bytes before))
    → IsRowSaid bounds row bytes before rank (list_of said)
small_said bounds row form bytes before said start end words count rank makes sound low read next are is total =
    let n : ℕ = length (words_left bytes before) in
    let counted = small_count bounds row form bytes before said start end words count makes sound read next are is in
    let places = small_places row form makes in
    let lowest_same = ap (λ (ps : List Place). lowest (bounds_of bounds) ps (words_left bytes before)) places in
    record {
      rank_is = omega (arith, total, counted, read.rank, lowest_same);
      numbers_are = λ good.
          read.numbers (omega (arith, total, good, read.rank))
          ∙ ap (λ (ps : List Place). list_of before ++ all_say ps (words_left bytes before)) (sym places);
      count = λ good.
          said_length before said (said_low bounds row bytes before said sound read)
          ∙ small_all bounds row form bytes before said makes sound read (omega (arith, total, good, counted));
    }

-- no more places must be there than may be
least_right : (make : Make) (least most : ℕ) → is_least_right make least most ≡ true → least ≤ most
least_right (M.Small form) least most e = leb-true least most e
least_right (M.Wide form) least most e = omega (arith, eqb-true least most e)

pub sound_least : (before : ℕ) (row : Row) → is_sound before row ≡ true → row.least ≤ length (places_in row)
sound_least before row sound = least_right row.make row.least (length (places_in row)) (sound_parts before row sound).right
