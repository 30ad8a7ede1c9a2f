-- The two lists of a type line, and the type that they and the letters say.
use Rattle.std.proofs.Common.{◌≡◌, ℕ, ◌==◌, ◌&&◌, ◌||◌, Bool, true, false, not, cond, Some, None, List, [], ◌∷◌, length, drop, refl, sym, ap, ◌∙◌, inr}
use Rattle.std.specs.Prelude.{codes, nat_lt, nat_le, is_some}
use Rattle.std.specs.List.{list_any}
use Rattle.std.specs.Cmp.Lexicographic.{bytes_decides}
use Rattle.std.proofs.lemmas.Bool.{true≢false, cond-true, cond-false, and_parts, or_from, or_parts, or_left, or_right, not-false, not_from_true, not_from_false}
use Rattle.std.proofs.lemmas.List.{length-map}
use Rattle.gc_graph.specs.declared.kind.Kind.{Kind}
use Rattle.gc_graph.specs.Words.{is_text}
use Rattle.gc_graph.specs.Forms.{before_weak, from_weak, first_list, second_list}
use Rattle.gc_graph.specs.Reasons.{Bounds, value_of, are_letters, kinds_of, is_beyond, numbers_of, type_of_words}
use Rattle.gc_graph.specs.Reasons.Reason.{UnknownWord, BadNumber, Count, Range}
use Rattle.line_words.specs.Cursor.{line_words}
use Rattle.heap_script.specs.declared.type_lines.Lists.{Lists}
use Rattle.heap_script.specs.Past.{IsReasonOf}
use Rattle.heap_script.specs.TypeLines.{AreBothRead, ended_by, left_by, is_misnamed, has_numbers, is_bare, reason_of_both, reason_of_lists, or_range, is_past_shown, is_over, reason_of_type}
use Rattle.heap_script.proofs.WeakWords.{before_cons, from_cons, numbers_ended}

-- ---- a name that isn't `pre`

-- the words after one that isn't `weak`, where `weak` ends a list
first_cons : (stops : Bool) (words rest : List (List ℕ)) (word : List ℕ) → words ≡ word ∷ rest → (stops && is_text word (codes "weak")) ≡ false
    → ended_by stops words ≡ word ∷ ended_by stops rest
first_cons true words rest word are e = ap before_weak are ∙ before_cons word rest e
first_cons false words rest word are e = are

pub wrong_name : (version : ℕ) (words rest : List (List ℕ)) (word : List ℕ) → words ≡ word ∷ rest → is_text word (codes "pre") ≡ false
    → ((version == 2) && is_text word (codes "weak")) ≡ false → IsReasonOf (reason_of_lists version words) 2
wrong_name version words rest word are pre weak =
    let first : List (List ℕ) = first_list version words in
    let wrong : is_misnamed (codes "pre") first ≡ true =
    ap (is_misnamed (codes "pre")) (first_cons (version == 2) words rest word are weak) ∙ not_from_false (is_text word (codes "pre")) pre in
    inr (UnknownWord, refl, cond-true (is_misnamed (codes "pre") first) (Some UnknownWord) _ wrong)

-- ---- lists without a fault

-- the first one isn't named otherwise, and both hold numbers
record AreNamed (first second : List (List ℕ)) : Type 0 where
  named : is_misnamed (codes "pre") first ≡ false
  plain : has_numbers first ≡ true

named_by : (misnamed plain bare : Bool) → cond misnamed (Some UnknownWord) (cond (not plain) (Some BadNumber) (cond bare (Some Count) None)) ≡ None
    → (misnamed ≡ false) × (plain ≡ true)
named_by true plain bare e = absurd (true≢false (ap is_some e))
named_by false false bare e = absurd (true≢false (ap is_some e))
named_by false true bare e = (refl, refl)

named_fine : (first second : List (List ℕ)) → reason_of_both first second ≡ None → AreNamed first second
named_fine first second fine =
    let parts = named_by (is_misnamed (codes "pre") first) (has_numbers first && has_numbers second) (is_bare first || is_bare second) fine in
    record { named = parts.0; plain = (and_parts (has_numbers first) (has_numbers second) parts.1).0 }

-- the lists are those before and after the word `weak`
record AreSplit (version : ℕ) (words : List (List ℕ)) : Type 0 where
  first : first_list version words ≡ before_weak words
  second : second_list version words ≡ from_weak words

whole_before : (words : List (List ℕ)) → is_misnamed (codes "pre") words ≡ false → has_numbers words ≡ true
    → (words ≡ before_weak words) × ([] ≡ from_weak words)
whole_before [] named plain = (refl, refl)
whole_before (word ∷ numbers) named plain =
    let pre : word ≡ codes "pre" = (bytes_decides word (codes "pre")).0 (not-false _ named) in
    let other : is_text word (codes "weak") ≡ false = ap (λ (w : List ℕ). is_text w (codes "weak")) pre in
    let parts = numbers_ended true numbers plain in
    (sym (before_cons word numbers other ∙ ap (λ (ws : List (List ℕ)). word ∷ ws) parts.0), sym (from_cons word numbers other ∙ parts.1))

split_by : (stops : Bool) (words : List (List ℕ)) → AreNamed (ended_by stops words) (left_by stops words)
    → (ended_by stops words ≡ before_weak words) × (left_by stops words ≡ from_weak words)
split_by true words named = (refl, refl)
split_by false words named = whole_before words named.named named.plain

are_split : (version : ℕ) (words : List (List ℕ)) → reason_of_lists version words ≡ None → AreSplit version words
are_split version words fine =
    let parts = split_by (version == 2) words (named_fine (first_list version words) (second_list version words) fine) in
    record { first = parts.0; second = parts.1 }

-- ---- the whole line

pub no_letters : (version : ℕ) (bounds : Bounds) (words : List (List ℕ)) → words ≡ [] → IsReasonOf (reason_of_type version bounds words) 4
no_letters version bounds words are = inr (Count, refl, ap (reason_of_type version bounds) are)

pub wrong_letters : (version : ℕ) (bounds : Bounds) (words more : List (List ℕ)) (letters : List ℕ) → words ≡ letters ∷ more
    → are_letters letters ≡ false → IsReasonOf (reason_of_type version bounds words) 2
wrong_letters version bounds words more letters are wrong = inr (
  UnknownWord,
  refl,
  ap (reason_of_type version bounds) are
      ∙ cond-true (not (are_letters letters)) (Some UnknownWord) (or_range (is_over version bounds letters more) (reason_of_lists version more))
      (not_from_false (are_letters letters) wrong),
)

-- the parts of what is over, in the order in which they are looked at
regroup : (long beyond far many much shown types : Bool)
    → (long || ((beyond || far) || ((many || (much || shown)) || types))) ≡ ((long || (((many || beyond) || (much || far)) || types)) || shown)
regroup true beyond far many much shown types = refl
regroup false true far true much shown types = refl
regroup false true far false much shown types = refl
regroup false false true true much shown types = refl
regroup false false true false true shown types = refl
regroup false false true false false shown types = refl
regroup false false false true much shown types = refl
regroup false false false false true shown types = refl
regroup false false false false false true true = refl
regroup false false false false false true false = refl
regroup false false false false false false true = refl
regroup false false false false false false false = refl

-- what was read of a line with these words, after letters that are some and lists without a fault
module _ (version : ℕ) (bounds : Bounds) (bytes : List ℕ) (words : List (List ℕ)) (letters : List ℕ) (after : ℕ) (lists : Lists) (over : Bool)
    (are : words ≡ letters ∷ line_words (drop after bytes)) (good : are_letters letters ≡ true)
    (fine : reason_of_lists version (line_words (drop after bytes)) ≡ None) (read : AreBothRead version bounds.callbacks bytes after lists)
    (over_is : over ≡ (nat_lt 64 (length letters) || (lists.over || nat_le 16383 bounds.types))) where
  abbrev more : List (List ℕ)
  more = line_words (drop after bytes)

  abbrev first : List (List ℕ)
  first = first_list version more

  abbrev second : List (List ℕ)
  second = second_list version more

  abbrev shown : Bool
  shown = is_past_shown (numbers_of (from_weak more)) (kinds_of letters)

  split : AreSplit version more
  split = are_split version more fine

  many : (list : List (List ℕ)) → nat_lt 16 (length (numbers_of list)) ≡ nat_lt 16 (length (drop 1 list))
  many list = ap (λ n. nat_lt 16 n) (length-map (drop 1 list) value_of)

  all_over : is_over version bounds letters more ≡ (over || shown)
  all_over =
      let large : ((nat_lt 16 (length (numbers_of (before_weak more))) || (nat_lt 16 (length (numbers_of (from_weak more))) || shown)) || nat_le 16383 bounds.types)
      ≡ ((nat_lt 16 (length (drop 1 first)) || (nat_lt 16 (length (drop 1 second)) || shown)) || nat_le 16383 bounds.types) =
      ap (λ (list : List (List ℕ)). (nat_lt 16 (length (numbers_of list)) || (nat_lt 16 (length (numbers_of (from_weak more))) || shown)) || nat_le 16383 bounds.types) (sym split.first)
      ∙ ap (λ (list : List (List ℕ)). (nat_lt 16 (length (numbers_of first)) || (nat_lt 16 (length (numbers_of list)) || shown)) || nat_le 16383 bounds.types) (sym split.second)
      ∙ ap (λ b. (b || (nat_lt 16 (length (numbers_of second)) || shown)) || nat_le 16383 bounds.types) (many first)
      ∙ ap (λ b. (nat_lt 16 (length (drop 1 first)) || (b || shown)) || nat_le 16383 bounds.types) (many second) in
      ap (λ b. nat_lt 64 (length letters) || ((list_any (is_beyond 0 bounds.callbacks) (drop 1 first) || list_any (is_beyond 0 bounds.callbacks) (drop 1 second)) || b)) large
      ∙ regroup (nat_lt 64 (length letters)) (list_any (is_beyond 0 bounds.callbacks) (drop 1 first)) (list_any (is_beyond 0 bounds.callbacks) (drop 1 second))
      (nat_lt 16 (length (drop 1 first))) (nat_lt 16 (length (drop 1 second))) shown (nat_le 16383 bounds.types)
      ∙ ap (λ b. (nat_lt 64 (length letters) || (b || nat_le 16383 bounds.types)) || shown) (sym read.over_is)
      ∙ ap (λ b. b || shown) (sym over_is)

  ranged : reason_of_type version bounds words ≡ cond (over || shown) (Some Range) None
  ranged =
      ap (reason_of_type version bounds) are
      ∙ cond-false (not (are_letters letters)) (Some UnknownWord) (or_range (is_over version bounds letters more) (reason_of_lists version more))
      (not_from_true (are_letters letters) good)
      ∙ ap (or_range (is_over version bounds letters more)) fine
      ∙ ap (λ (b : Bool). cond b (Some Range) None) all_over

  pub too_much : over ≡ true → IsReasonOf (reason_of_type version bounds words) 5
  too_much so = inr (Range, refl, ranged ∙ cond-true (over || shown) (Some Range) None (or_left over shown so))

  module _ (kinds : List Kind) (kinds_are : kinds ≡ kinds_of letters) (few : over ≡ false) where
    within : lists.over ≡ false
    within = (or_parts lists.over (nat_le 16383 bounds.types) (or_parts (nat_lt 64 (length letters)) _ (sym over_is ∙ few)).1).0

    second_said : lists.second.items ≡ numbers_of (from_weak more)
    second_said = read.second_are within ∙ ap numbers_of split.second

    shown_is : is_past_shown lists.second.items kinds ≡ shown
    shown_is =
        ap (λ (numbers : List ℕ). is_past_shown numbers kinds) second_said
        ∙ ap (is_past_shown (numbers_of (from_weak more))) kinds_are

    pub too_wide : is_past_shown lists.second.items kinds ≡ true → IsReasonOf (reason_of_type version bounds words) 5
    too_wide so = inr (Range, refl, ranged ∙ cond-true (over || shown) (Some Range) None (or_right over shown (sym shown_is ∙ so)))

    pub type_fine : is_past_shown lists.second.items kinds ≡ false → reason_of_type version bounds words ≡ None
    type_fine off = ranged ∙ cond-false (over || shown) (Some Range) None (or_from over shown few (sym shown_is ∙ off))

    pub type_read : type_of_words (codes "type" ∷ words)
        ≡ Some (record { kinds = kinds; prefinalizers = lists.first.items; weak_callbacks = lists.second.items })
    type_read =
        ap (λ (ws : List (List ℕ)). type_of_words (codes "type" ∷ ws)) are
        ∙ ap (λ (ks : List Kind). Some (record { kinds = ks; prefinalizers = numbers_of (before_weak more); weak_callbacks = numbers_of (from_weak more) })) (sym kinds_are)
        ∙ ap (λ (ns : List ℕ). Some (record { kinds = kinds; prefinalizers = ns; weak_callbacks = numbers_of (from_weak more) }))
        (sym (read.first_are within ∙ ap numbers_of split.first))
        ∙ ap (λ (ns : List ℕ). Some (record { kinds = kinds; prefinalizers = lists.first.items; weak_callbacks = ns })) (sym second_said)
