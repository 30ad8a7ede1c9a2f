-- The first word of a line and the end of a line, for lines that are read without the table of forms.
use Rattle.std.proofs.Common.{◌≡◌, ℕ, ◌+◌, ◌-◌, ◌<◌, ◌≤◌, ◌==◌, true, not, List, [], ◌∷◌, length, get_or, take, drop, refl, sym, ap, ◌∙◌, arith}
use Rattle.std.specs.List.{list_all}
use Rattle.std.proofs.lemmas.List.{drop_more}
use Rattle.std.proofs.lemmas.Bool.{and_parts, not-true}
use Rattle.line_words.specs.Cursor.{line_words, is_word_byte, IsPastSpaces}
use Rattle.line_words.specs.QuickWords.{IsFirstWord, IsEndOfWords}
use Rattle.line_words.proofs.WordPlaces.{word_found, stops_at_space, stops_at_line}

-- the byte where a word begins
first_byte : (bytes : List ℕ) (at b : ℕ) (word : List ℕ) → at < length bytes → take (length (b ∷ word)) (drop at bytes) ≡ b ∷ word
    → get_or bytes at 0 ≡ b
first_byte bytes at b word low is =
    ap (λ (left : List ℕ). get_or left 0 0) (sym (ap (take (length (b ∷ word))) (drop_more bytes at 0 low)) ∙ is)

-- a word at the front of a line, and a space after it
pub first_word : (bytes : List ℕ) (at : ℕ) (word : List ℕ) → at + length word < length bytes → get_or bytes (at + length word) 0 ≡ 32
    → 0 < length word → list_all is_word_byte word ≡ true → take (length word) (drop at bytes) ≡ word → IsFirstWord bytes at word
first_word bytes at [] within space some all is = absurd (omega arith)
first_word bytes at (b ∷ word) within space some all is =
    let n : ℕ = length (b ∷ word) in
    let end : ℕ = at + n in
    let count : end - at ≡ n = omega arith in
    let plain = and_parts (not (b == 32)) (not (b == 10)) (and_parts (is_word_byte b) (list_all is_word_byte word) all).0 in
    let past : IsPastSpaces bytes at at = record {
      before = omega arith;
      within = omega arith;
      words = refl;
      lines = refl;
      stop = λ low. ap (λ x. x == 32) (first_byte bytes at b word low is) ∙ not-true (b == 32) plain.0;
    } in
    let found = word_found bytes at at end past (record {
      order = omega arith;
      within = omega arith;
      inner = ap (λ m. list_all is_word_byte (take m (drop at bytes))) count ∙ ap (list_all is_word_byte) is ∙ all;
      stop = λ low. stops_at_space (get_or bytes end 0) space;
    }) in
    record {
      within = omega arith;
      words = found.some (omega arith) ∙ ap (λ w. w ∷ line_words (drop end bytes)) (ap (λ m. take m (drop at bytes)) count ∙ is);
      same = found.same;
    }

-- a line's end, or that of the bytes
pub ends_here : (bytes : List ℕ) (place : ℕ) → place ≤ length bytes → (place < length bytes → get_or bytes place 0 ≡ 10)
    → IsEndOfWords bytes place place
ends_here bytes place within stop =
    let nothing : place - place ≡ 0 = omega arith in
    let past : IsPastSpaces bytes place place = record {
      before = omega arith;
      within = within;
      words = refl;
      lines = refl;
      stop = λ low. ap (λ b. b == 32) (stop low);
    } in
    let found = word_found bytes place place place past (record {
      order = omega arith;
      within = within;
      inner = ap (λ m. list_all is_word_byte (take m (drop place bytes))) nothing;
      stop = λ low. stops_at_line (get_or bytes place 0) (stop low);
    }) in
    let none = found.none (omega arith) in
    record { none = none.0; ends = none.1 }

-- only spaces before the line's end
pub no_words : (bytes : List ℕ) (from end : ℕ) → IsPastSpaces bytes from end → IsEndOfWords bytes end end → IsEndOfWords bytes from end
no_words bytes from end past here = record {
  none = past.words ∙ here.none;
  ends = record { order = past.before; within = past.within; stop = here.ends.stop; same = past.lines ∙ here.ends.same };
}
