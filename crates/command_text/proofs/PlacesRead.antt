-- The words of a line read one after the other, each at its place.
use Rattle.std.proofs.Common.{◌≡◌, ℕ, ◌+◌, ◌<◌, ◌≤◌, ◌&&◌, min, not, Bool, true, false, Option, Some, None, cond, List, [], ◌∷◌, ◌++◌, length, map, get_or, take, drop, refl, sym, ap, ◌∙◌, subst, append_assoc, nat_le, nat_lt, arith}
use Rattle.std.proofs.lemmas.List.{take_more, take_all, drop-drop, append-nil, length-append, length-drop, length-map, map-append}
use Rattle.std.proofs.Math.Seq.{drop-nil}
use Rattle.gc_graph.specs.Words.{is_number}
use Rattle.gc_graph.specs.Forms.{Place}
use Rattle.gc_graph.specs.Reasons.{Bounds as GrammarBounds, says, all_say, value_of, is_unknown, is_bad, is_outside, is_beyond}
use Rattle.command_text.specs.declared.forms.Spot.{Spot}
use Rattle.command_text.specs.declared.places.Bounds.{Bounds}
use Rattle.command_text.specs.declared.said.Said.{Said}
use Rattle.line_words.specs.Cursor.{line_words, lines_after}
use Rattle.command_text.specs.Ranks.{rank_by, rank_at, number_rank, lowest}
use Rattle.command_text.specs.Rows.{bounds_of, place_of_spot}
use Rattle.command_text.specs.Said.{list_of, words_left, IsPlaceRead, AreNullsSaid, IsReadOn}

pub rank_le9 : (u b c o : Bool) → rank_by u b c o ≤ 9
rank_le9 true b c o = omega arith
rank_le9 false true c o = omega arith
rank_le9 false false true o = omega arith
rank_le9 false false false true = omega arith
rank_le9 false false false false = omega arith

-- ---- numbers

range_rank : (number inside : Bool) → cond inside 9 5 ≡ rank_by false false false (true && not inside)
range_rank number true = refl
range_rank number false = refl

number_rank_by : (word : List ℕ) (from limit : ℕ) (is : Bool) → is_number word ≡ is
    → number_rank from limit (cond is (Some (value_of word)) None) ≡ rank_by false (not (is_number word)) false (is_beyond from limit word)
number_rank_by word from limit true e =
    range_rank true (nat_le from (value_of word) && nat_lt (value_of word) limit)
    ∙ ap (λ b. rank_by false (not b) false (b && not (nat_le from (value_of word) && nat_lt (value_of word) limit))) (sym e)
number_rank_by word from limit false e =
    ap (λ b. rank_by false (not b) false (b && not (nat_le from (value_of word) && nat_lt (value_of word) limit))) (sym e)

pub number_rank_is : (word : List ℕ) (from limit : ℕ) (value : Option ℕ) → value ≡ cond (is_number word) (Some (value_of word)) None
    → number_rank from limit value ≡ rank_by false (not (is_number word)) false (is_beyond from limit word)
number_rank_is word from limit value e = ap (number_rank from limit) e ∙ number_rank_by word from limit (is_number word) refl

some_value : (is : Bool) (n m : ℕ) → Some m ≡ cond is (Some n) None → n ≡ m
some_value true n m e = cc
some_value false n m e = cc

pub number_said : (word : List ℕ) (value : Option ℕ) (n : ℕ) → value ≡ cond (is_number word) (Some (value_of word)) None → value ≡ Some n → value_of word ≡ n
number_said word value n is e = some_value (is_number word) (value_of word) n (sym e ∙ is)

pub ruleset number_ranks = (number_rank_is, number_said)

-- ---- one place after the other

pub lowest_nothing : (bounds : GrammarBounds) (places : List Place) → lowest bounds places [] ≡ 9
lowest_nothing bounds [] = refl
lowest_nothing bounds (place ∷ places) = refl

pub says_nothing : (places : List Place) → all_say places [] ≡ []
says_nothing [] = refl
says_nothing (place ∷ places) = refl

lowest_low : (bounds : GrammarBounds) (places : List Place) (words : List (List ℕ)) → lowest bounds places words ≤ 9
lowest_low bounds [] words = omega arith
lowest_low bounds (place ∷ places) [] = omega arith
lowest_low bounds (place ∷ places) (word ∷ words) = omega (arith, lowest_low bounds places words)

pub lowest_append : (bounds : GrammarBounds) (places more : List Place) (words : List (List ℕ))
    → lowest bounds (places ++ more) words ≡ min (lowest bounds places words) (lowest bounds more (drop (length places) words))
lowest_append bounds [] more words = omega (arith, lowest_low bounds more words)
lowest_append bounds (place ∷ places) more [] = omega (arith, lowest_nothing bounds more)
lowest_append bounds (place ∷ places) more (word ∷ words) = omega (arith, lowest_append bounds places more words)

pub says_append : (places more : List Place) (words : List (List ℕ))
    → all_say (places ++ more) words ≡ all_say places words ++ all_say more (drop (length places) words)
says_append [] more words = refl
says_append (place ∷ places) more [] = sym (says_nothing more)
says_append (place ∷ places) more (word ∷ words) =
    ap (λ ns. says place word ++ ns) (says_append places more words)
    ∙ sym (append_assoc (says place word) (all_say places words) (all_say more (drop (length places) words)))

-- ---- nulls

no_nulls : (places : List Place) → AreNullsSaid places [] []
no_nulls [] = refl
no_nulls (place ∷ places) = refl

nothing_more : (places : List Place) (numbers : List ℕ) → AreNullsSaid places [] numbers → numbers ≡ []
nothing_more [] numbers none = none
nothing_more (place ∷ places) numbers none = none

nulls_append : (places more : List Place) (words : List (List ℕ)) (numbers others : List ℕ) → AreNullsSaid places words numbers
    → AreNullsSaid more (drop (length places) words) others → AreNullsSaid (places ++ more) words (numbers ++ others)
nulls_append [] more words numbers others none rest =
    subst (λ ns. AreNullsSaid more words (ns ++ others)) (sym none) rest
nulls_append (place ∷ places) more [] numbers others none rest =
    ap (λ ns. ns ++ others) none ∙ nothing_more more others rest
nulls_append (place ∷ places) more (word ∷ words) [] others none rest = absurd none
nulls_append (place ∷ places) more (word ∷ words) (n ∷ numbers) others some rest =
    (some.0, nulls_append places more words numbers others some.1 rest)

-- ---- words one after the other

-- a word that leaves the rank at 9 has no fault
word_good : (bounds : GrammarBounds) (place : Place) (word : List ℕ) (before rank : ℕ) → rank ≡ rank_at bounds place word → before ≤ 9
    → min before rank ≡ 9 → rank ≡ 9
word_good bounds place word before rank its_rank low good =
    let high = rank_le9 (is_unknown place word) (is_bad place word) false (is_outside bounds place word) in
    omega (arith, its_rank, high, good, low)

-- no word is left for these places
pub on_no_words : (bounds : Bounds) (spots : List Spot) (bytes : List ℕ) (old : Said) → old.end ≤ length bytes → old.rank ≤ 9
    → words_left bytes old ≡ [] → IsReadOn bounds spots bytes old old
on_no_words bounds spots bytes old within low none =
    let places : List Place = map place_of_spot spots in
    let ranks : lowest (bounds_of bounds) places (words_left bytes old) ≡ 9 =
    ap (lowest (bounds_of bounds) places) none ∙ lowest_nothing (bounds_of bounds) places in
    record {
      before = omega arith;
      within = within;
      rank = omega (arith, low, ranks);
      numbers = λ good. sym (append-nil (list_of old)) ∙ ap (λ ns. list_of old ++ ns) (sym (ap (all_say places) none ∙ says_nothing places));
      more = [];
      adds = sym (append-nil (list_of old));
      nulls = subst (λ (ws : List (List ℕ)). AreNullsSaid places ws []) (sym none) (no_nulls places);
      count = omega (arith, ap length none);
      left = subst (λ (ws : List (List ℕ)). ws ≡ drop (length spots) ws) (sym none) (sym (drop-nil (length spots)));
      lines = refl;
    }

-- one word was read at its place
pub on_word : (bounds : Bounds) (spot : Spot) (bytes : List ℕ) (old new : Said) (end rank value : ℕ)
    → IsPlaceRead (bounds_of bounds) (place_of_spot spot) bytes old.end end rank value → old.rank ≤ 9
    → new.rank ≡ min old.rank rank → new.end ≡ end → new.count ≡ old.count + 1 → list_of new ≡ list_of old ++ value ∷ []
    → IsReadOn bounds (spot ∷ []) bytes old new
on_word bounds spot bytes old new end rank value read low total ends count numbers =
    let places : List Place = place_of_spot spot ∷ [] in
    let ranks : lowest (bounds_of bounds) places (words_left bytes old) ≡ min rank 9 =
    ap (lowest (bounds_of bounds) places) read.words ∙ ap (λ n. min n 9) (sym read.its_rank) in
    record {
      before = omega (arith, read.order, ends);
      within = omega (arith, read.within, ends);
      rank = omega (arith, low, total, ranks);
      numbers = λ good.
          numbers
          ∙ ap (λ ns. list_of old ++ ns)
          (sym (ap (all_say places) read.words ∙ ap (λ ns. ns ++ []) (read.number (word_good (bounds_of bounds) (place_of_spot spot) read.word old.rank rank read.its_rank low (sym total ∙ good)))));
      more = value ∷ [];
      adds = numbers;
      nulls = subst (λ (ws : List (List ℕ)). AreNullsSaid places ws (value ∷ [])) (sym read.words) (read.null, refl);
      count = omega (arith, count, ap length read.words);
      left = ap (λ n. line_words (drop n bytes)) ends ∙ sym (ap (λ (ws : List (List ℕ)). drop 1 ws) read.words);
      lines = read.same ∙ ap (λ n. lines_after (drop n bytes)) (sym ends);
    }

-- nothing was read at no places
pub on_nothing : (bounds : Bounds) (bytes : List ℕ) (old : Said) → old.end ≤ length bytes → old.rank ≤ 9 → IsReadOn bounds [] bytes old old
on_nothing bounds bytes old within low = record {
  before = omega arith;
  within = within;
  rank = omega (arith, low);
  numbers = λ good. sym (append-nil (list_of old));
  more = [];
  adds = sym (append-nil (list_of old));
  nulls = refl;
  count = omega arith;
  left = refl;
  lines = refl;
}

-- more places after others
pub on_both : (bounds : Bounds) (spots more : List Spot) (bytes : List ℕ) (old mid new : Said) → old.rank ≤ 9
    → IsReadOn bounds spots bytes old mid → IsReadOn bounds more bytes mid new → IsReadOn bounds (spots ++ more) bytes old new
on_both bounds spots more bytes old mid new low first next =
    let words : List (List ℕ) = words_left bytes old in
    let places : List Place = map place_of_spot spots in
    let after : List Place = map place_of_spot more in
    let all = map-append place_of_spot spots more in
    let left : words_left bytes mid ≡ drop (length places) words =
    first.left ∙ ap (λ n. drop n words) (sym (length-map spots place_of_spot)) in
    let ranks : lowest (bounds_of bounds) (map place_of_spot (spots ++ more)) words
    ≡ min (lowest (bounds_of bounds) places words) (lowest (bounds_of bounds) after (words_left bytes mid)) =
    ap (λ (ps : List Place). lowest (bounds_of bounds) ps words) all
    ∙ lowest_append (bounds_of bounds) places after words
    ∙ ap (λ (ws : List (List ℕ)). min (lowest (bounds_of bounds) places words) (lowest (bounds_of bounds) after ws)) (sym left) in
    record {
      before = omega (arith, first.before, next.before);
      within = next.within;
      rank = omega (arith, first.rank, next.rank, ranks);
      numbers = λ good.
          next.numbers good
          ∙ ap (λ ns. ns ++ all_say after (words_left bytes mid)) (first.numbers (omega (arith, good, first.rank, next.rank, low)))
          ∙ append_assoc (list_of old) (all_say places words) (all_say after (words_left bytes mid))
          ∙ ap (λ (ws : List (List ℕ)). list_of old ++ (all_say places words ++ all_say after ws)) left
          ∙ ap (λ ns. list_of old ++ ns) (sym (says_append places after words))
          ∙ ap (λ (ps : List Place). list_of old ++ all_say ps words) (sym all);
      more = first.more ++ next.more;
      adds = next.adds ∙ ap (λ ns. ns ++ next.more) first.adds ∙ append_assoc (list_of old) first.more next.more;
      nulls = subst (λ (ps : List Place). AreNullsSaid ps words (first.more ++ next.more)) (sym all)
          (nulls_append places after words first.more next.more first.nulls
          (subst (λ (ws : List (List ℕ)). AreNullsSaid after ws next.more) left next.nulls));
      count = omega (arith, first.count, next.count, ap length first.left, length-drop (length spots) words, length-append spots more);
      left = next.left ∙ ap (λ (ws : List (List ℕ)). drop (length more) ws) first.left ∙ drop-drop (length more) (length spots) words
          ∙ ap (λ n. drop n words) (sym (length-append spots more));
      lines = first.lines ∙ next.lines;
    }

-- one more place of a row
pub on_next : (bounds : Bounds) (all : List Spot) (i : ℕ) (d : Spot) (bytes : List ℕ) (old mid new : Said) → i < length all → old.rank ≤ 9
    → IsReadOn bounds (take i all) bytes old mid → IsReadOn bounds (get_or all i d ∷ []) bytes mid new
    → IsReadOn bounds (take (i + 1) all) bytes old new
on_next bounds all i d bytes old mid new inside low first next =
    subst (λ (spots : List Spot). IsReadOn bounds spots bytes old new) (sym (take_more all i d inside))
    (on_both bounds (take i all) (get_or all i d ∷ []) bytes old mid new low first next)

pub on_all : (bounds : Bounds) (all : List Spot) (n : ℕ) (bytes : List ℕ) (old new : Said) → length all ≤ n
    → IsReadOn bounds (take n all) bytes old new → IsReadOn bounds all bytes old new
on_all bounds all n bytes old new few read =
    subst (λ (spots : List Spot). IsReadOn bounds spots bytes old new) (take_all n all few) read
