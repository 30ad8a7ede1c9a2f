-- The names of options, as the definition tells them and as `clap` does.
use Rattle.std.proofs.Common.{◌≡◌, ◌∙◌, ℕ, suc, ◌+◌, ◌==◌, ◌&&◌, ◌||◌, not, Bool, true, false, nat_eq, List, [], ◌∷◌, length, take, drop, Option, Some, None, refl, sym, ap, ap₂, codes, cond, arith}
use Rattle.std.specs.Prelude.{option_map}
use Rattle.std.specs.List.{list_any, position_or_len, before_first, after_first}
use Rattle.std.specs.Str.{bytes_eq}
use Rattle.std.proofs.lemmas.Slice.Eq.{bytes_eq-Decides}
use Rattle.std.proofs.lemmas.Bool.{or_parts}
use Rattle.std.proofs.lemmas.List.{take_all}
use Rattle.gc_graph.specs.Words.{is_text}
use Rattle.clap.specs.Lexer.{name_and_value}
use Rattle.clap.specs.Walk.{Rule, arg_by_long}
use Rattle.command_line.specs.Settings.{Setting, is_equals, number_of_word, number_within, page_size_of, most_markers, setting_alone, setting_named}
use Rattle.command_line.specs.Settings.Setting.{Pages, PageWords, Markers, Summary, Seed, Count}
use Rattle.command_line.proofs.Built.{filled_option, filled_summary, rules}
use Rattle.command_line.proofs.Said.{Key, pages, page_words, markers, seed, count, key_name, key_setting}

-- ---- texts

-- two tests of a byte are one
same_byte : (x y : ℕ) → (x == y) ≡ nat_eq y x
same_byte x y = grind arith

-- so are two tests of a text
pub either_way : (t n : List ℕ) → is_text n t ≡ bytes_eq t n
either_way [] [] = refl
either_way [] (y ∷ n) = refl
either_way (x ∷ t) [] = refl
either_way (x ∷ t) (y ∷ n) = ap₂ (λ a b. a && b) (same_byte y x) (either_way t n)

-- another text by one test is another by the other
other_text : (t n : List ℕ) → bytes_eq t n ≡ false → is_text n t ≡ false
other_text t n e = either_way t n ∙ e

-- ---- what a name is

-- the name is that of an option with a value, or of the summary, or of none
pub data Which (n : List ℕ) : Type 0 where
  option_of : (k : Key) → n ≡ key_name k → Which n
  summary_of : n ≡ codes "summary" → Which n
  none_of : arg_by_long rules n ≡ None → ((v : List ℕ) → setting_named (45 ∷ 45 ∷ n) v ≡ None)
      → is_text n (codes "summary") ≡ false → Which n

-- the rule of a name, by what it is
abbrev rule_from : Bool → Bool → Bool → Bool → Bool → Bool → Option Rule
rule_from p w m s g c =
    cond (p || false) (Some (filled_option (codes "pages"))) (cond (w || false) (Some (filled_option (codes "page-words")))
    (cond (m || false) (Some (filled_option (codes "markers"))) (cond (s || false) (Some filled_summary)
    (cond (g || false) (Some (filled_option (codes "generate"))) (cond (c || false) (Some (filled_option (codes "count"))) None)))))

-- the setting of a name and a value, by what the name is
abbrev pub setting_from : List ℕ → Bool → Bool → Bool → Bool → Bool → Option Setting
setting_from v p w m g c =
    cond p (option_map Pages (number_within 1 1024 v)) (cond w (option_map PageWords (page_size_of v))
    (cond m (option_map Markers (number_within 0 most_markers v)) (cond g (option_map Seed (number_of_word v))
    (cond c (option_map Count (number_within 1 50000 v)) None))))

module _ (n : List ℕ) where
  same_as : (t : List ℕ) → bytes_eq t n ≡ true → n ≡ t
  same_as t e = sym ((bytes_eq-Decides t n).0 e)

  no_name : bytes_eq (codes "pages") n ≡ false → bytes_eq (codes "page-words") n ≡ false → bytes_eq (codes "markers") n ≡ false
      → bytes_eq (codes "summary") n ≡ false → bytes_eq (codes "generate") n ≡ false → bytes_eq (codes "count") n ≡ false → Which n
  no_name p w m s g c = none_of
      (λ i. rule_from (p i) (w i) (m i) (s i) (g i) (c i))
      (λ v i. setting_from v (other_text (codes "pages") n p i) (other_text (codes "page-words") n w i) (other_text (codes "markers") n m i) (other_text (codes "generate") n g i) (other_text (codes "count") n c i))
      (other_text (codes "summary") n s)

  pub which : Which n
  which = elim (bytes_eq (codes "pages") n) as (λ b. bytes_eq (codes "pages") n ≡ b → Which n) [
    | true ↦ λ p. option_of pages (same_as (codes "pages") p)
    | false ↦ λ p. elim (bytes_eq (codes "page-words") n) as (λ b. bytes_eq (codes "page-words") n ≡ b → Which n) [
      | true ↦ λ w. option_of page_words (same_as (codes "page-words") w)
      | false ↦ λ w. elim (bytes_eq (codes "markers") n) as (λ b. bytes_eq (codes "markers") n ≡ b → Which n) [
        | true ↦ λ m. option_of markers (same_as (codes "markers") m)
        | false ↦ λ m. elim (bytes_eq (codes "summary") n) as (λ b. bytes_eq (codes "summary") n ≡ b → Which n) [
          | true ↦ λ s. summary_of (same_as (codes "summary") s)
          | false ↦ λ s. elim (bytes_eq (codes "generate") n) as (λ b. bytes_eq (codes "generate") n ≡ b → Which n) [
            | true ↦ λ g. option_of seed (same_as (codes "generate") g)
            | false ↦ λ g. elim (bytes_eq (codes "count") n) as (λ b. bytes_eq (codes "count") n ≡ b → Which n) [
              | true ↦ λ c. option_of count (same_as (codes "count") c)
              | false ↦ λ c. no_name p w m s g c
            ] refl
          ] refl
        ] refl
      ] refl
    ] refl
  ] refl

-- `clap` finds the rule of an option by its name
pub key_found : (n : List ℕ) (k : Key) → n ≡ key_name k → arg_by_long rules n ≡ Some (filled_option (key_name k))
key_found n pages e = ap (arg_by_long rules) e
key_found n page_words e = ap (arg_by_long rules) e
key_found n markers e = ap (arg_by_long rules) e
key_found n seed e = ap (arg_by_long rules) e
key_found n count e = ap (arg_by_long rules) e

-- the definition makes its setting
pub key_sets : (n : List ℕ) (k : Key) (v : List ℕ) → n ≡ key_name k → setting_named (45 ∷ 45 ∷ n) v ≡ key_setting k v
key_sets n pages v e = ap (λ n. setting_named (45 ∷ 45 ∷ n) v) e
key_sets n page_words v e = ap (λ n. setting_named (45 ∷ 45 ∷ n) v) e
key_sets n markers v e = ap (λ n. setting_named (45 ∷ 45 ∷ n) v) e
key_sets n seed v e = ap (λ n. setting_named (45 ∷ 45 ∷ n) v) e
key_sets n count v e = ap (λ n. setting_named (45 ∷ 45 ∷ n) v) e

-- it isn't `--summary`
pub key_is_other : (n : List ℕ) (k : Key) → n ≡ key_name k → is_text n (codes "summary") ≡ false
key_is_other n pages e = ap (λ n. is_text n (codes "summary")) e
key_is_other n page_words e = ap (λ n. is_text n (codes "summary")) e
key_is_other n markers e = ap (λ n. is_text n (codes "summary")) e
key_is_other n seed e = ap (λ n. is_text n (codes "summary")) e
key_is_other n count e = ap (λ n. is_text n (codes "summary")) e

-- ---- a word after two dashes

one_more : (a : ℕ) → 1 + a ≡ suc a
one_more a = omega arith

two_more : (a : ℕ) → 1 + (1 + a) ≡ suc (suc a)
two_more a = omega arith

two_past : (a : ℕ) → 1 + (1 + a) + 1 ≡ suc (suc (a + 1))
two_past a = omega arith

-- a name without `=` goes to the end of the word
whole_until : (n : List ℕ) → list_any is_equals n ≡ false → position_or_len is_equals n ≡ length n
whole_until [] e = refl
whole_until (b ∷ n) e =
    let two = or_parts (is_equals b) (list_any is_equals n) e in
    ap (λ x. cond (not x) (1 + position_or_len is_equals n) 0) two.0 ∙ ap (λ l. 1 + l) (whole_until n two.1) ∙ one_more (length n)

-- `clap` takes it for a name alone
pub name_alone : (n : List ℕ) → list_any is_equals n ≡ false → name_and_value n ≡ (n, None)
name_alone n e = λ i. (
  (ap (λ l. take l n) (whole_until n e) ∙ take_all (length n) n (omega arith)) i,
  cond (e i) (Some (after_first is_equals n)) None,
)

-- and a word with `=` for a name and a value
pub name_with : (n : List ℕ) → list_any is_equals n ≡ true → name_and_value n ≡ (before_first is_equals n, Some (after_first is_equals n))
name_with n e = λ i. (before_first is_equals n, cond (e i) (Some (after_first is_equals n)) None)

-- two dashes belong to the name, and not to the value
pub dashed_before : (n : List ℕ) → before_first is_equals (45 ∷ 45 ∷ n) ≡ 45 ∷ 45 ∷ before_first is_equals n
dashed_before n = ap (λ k. take k (45 ∷ 45 ∷ n)) (two_more (position_or_len is_equals n))

pub dashed_after : (n : List ℕ) → after_first is_equals (45 ∷ 45 ∷ n) ≡ after_first is_equals n
dashed_after n = ap (λ k. drop k (45 ∷ 45 ∷ n)) (two_past (position_or_len is_equals n))

-- the definition parts such a word in the same place
pub sets_alone : (n : List ℕ) → list_any is_equals n ≡ true
    → setting_alone (45 ∷ 45 ∷ n) ≡ setting_named (45 ∷ 45 ∷ before_first is_equals n) (after_first is_equals n)
sets_alone n e =
    ap (λ b. cond b (setting_named (before_first is_equals (45 ∷ 45 ∷ n)) (after_first is_equals (45 ∷ 45 ∷ n))) (cond (is_text n (codes "summary")) (Some Summary) None)) e
    ∙ ap₂ setting_named (dashed_before n) (dashed_after n)
