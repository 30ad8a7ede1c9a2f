-- What a word is, to the definition and to the walk of `clap` alike.
use Rattle.std.proofs.Common.{◌≡◌, ◌∙◌, ℕ, ◌==◌, ◌&&◌, not, Bool, true, false, true≢false, List, [], ◌∷◌, suc, zero, length, take, Option, Some, None, refl, sym, subst, ap, ap₂, codes, cond, is_some, nat_lt, nat_le}
use Rattle.std.specs.Prelude.{option_map, option_and_then, slice_index}
use Rattle.std.specs.Cmp.{unsigned_Decides}
use Rattle.std.specs.List.{list_any, position_or_len, before_first, after_first}
use Rattle.std.specs.Str.{bytes_eq}
use Rattle.std.proofs.lemmas.Bool.{and_right}
use Rattle.gc_graph.specs.Words.{is_text, is_number, value_after}
use Rattle.clap.specs.Lexer.{long_of, long_of_rest, short_of, short_of_rest, strip_byte}
use Rattle.clap.specs.Walk.{Text, arg_by_long, reacted, settled, walked}
use Rattle.clap.specs.Faults.{react_fault, settle_fault, turn_fault}
use Rattle.command_line.specs.Settings.{Setting, is_equals, is_page_size, most_markers, setting_alone, setting_named, takes_next}
use Rattle.command_line.specs.Settings.Setting.{Pages, PageWords, Markers, Summary, Seed, Count}
use Rattle.command_line.proofs.Built.{rules, shape, idle_at, wait_at}
use Rattle.command_line.proofs.Said.{Key, Said, pages, page_words, markers, seed, count, asks, sums_up, key_name, key_setting, setting_of}
use Rattle.command_line.proofs.Uses.{at, has_some, pend, rows, rule_for, values_for}
use Rattle.command_line.proofs.Names.{Which, option_of, summary_of, none_of, which, key_found, key_sets, key_is_other, setting_from, name_alone, name_with, sets_alone}
use Rattle.command_line.proofs.Turns.{apart_walks, apart_fails, joined_walks, joined_fails, summary_walks, summary_fails, summary_with_value_fails, unknown_fails, stray_fails}

-- ---- words that begin with two dashes, and others

-- the word begins with two dashes
abbrev starts : Text → Bool
starts [] = false
starts (x ∷ []) = false
starts (x ∷ y ∷ w) = (x == 45) && (y == 45)

-- with a third test it fails as well
third_too : (a b c : Bool) → (a && b) ≡ false → (a && (b && c)) ≡ false
third_too true true c e = absurd (true≢false e)
third_too true false c e = refl
third_too false b c e = refl

-- a word that doesn't begin so is no text that does
no_text : (w t : Text) → starts w ≡ false → is_text w (45 ∷ 45 ∷ t) ≡ false
no_text [] t e = refl
no_text (x ∷ []) t e = and_right (x == 45) false refl
no_text (x ∷ y ∷ w) t e = third_too (x == 45) (y == 45) (is_text w t) e

-- nor by the other test of texts
no_bytes : (w t : Text) → starts w ≡ false → bytes_eq w (45 ∷ 45 ∷ t) ≡ false
no_bytes [] t e = refl
no_bytes (x ∷ []) t e = and_right (x == 45) false refl
no_bytes (x ∷ y ∷ w) t e = third_too (x == 45) (y == 45) (bytes_eq w t) e

-- and none of its beginnings begins so
starts_less : (k : ℕ) (w : Text) → starts w ≡ false → starts (take k w) ≡ false
starts_less zero w e = refl
starts_less (suc k) [] e = refl
starts_less (suc zero) (x ∷ w) e = refl
starts_less (suc (suc k)) (x ∷ []) e = refl
starts_less (suc (suc k)) (x ∷ y ∷ w) e = e

-- to `clap` it has no name after two dashes
strip_one : (a : Bool) → option_and_then long_of_rest (option_and_then (strip_byte 45) (cond a (Some []) None)) ≡ None
strip_one true = refl
strip_one false = refl

no_long_at : (a b : Bool) (y : ℕ) (w : Text) → (a && b) ≡ false → (y == 45) ≡ b → option_and_then long_of_rest (option_and_then (strip_byte 45) (cond a (Some (y ∷ w)) None)) ≡ None
no_long_at true true y w e is = absurd (true≢false e)
no_long_at true false y w e is = ap (λ b. option_and_then long_of_rest (cond b (Some w) None)) is
no_long_at false b y w e is = refl

no_long : (w : Text) → starts w ≡ false → long_of w ≡ None
no_long [] e = refl
no_long (x ∷ []) e = strip_one (x == 45)
no_long (x ∷ y ∷ w) e = no_long_at (x == 45) (y == 45) y w e refl

-- the definition makes no setting of such a word
no_setting : (w v : Text) → starts w ≡ false → setting_named w v ≡ None
no_setting w v e = λ i. setting_from v (no_text w (codes "pages") e i) (no_text w (codes "page-words") e i) (no_text w (codes "markers") e i)
    (no_text w (codes "generate") e i) (no_text w (codes "count") e i)

none_either : (b : Bool) (x y : Option Setting) → x ≡ None → y ≡ None → cond b x y ≡ None
none_either true x y e f = e
none_either false x y e f = f

not_alone : (w : Text) → starts w ≡ false → setting_alone w ≡ None
not_alone w e = none_either (list_any is_equals w) (setting_named (before_first is_equals w) (after_first is_equals w)) (cond (is_text w (codes "--summary")) (Some Summary) None)
    (no_setting (before_first is_equals w) (after_first is_equals w) (starts_less (position_or_len is_equals w) w e))
    (ap (λ b. cond b (Some Summary) None) (no_text w (codes "summary") e))

-- a word is two dashes alone, or has something behind them, or is no option to `clap` and to the definition
pub data Dashes (w : Text) : Type 0 where
  lone : w ≡ 45 ∷ 45 ∷ [] → Dashes w
  dashed : (x : ℕ) (xs : Text) → w ≡ 45 ∷ 45 ∷ x ∷ xs → Dashes w
  plainly : long_of w ≡ None → bytes_eq w (45 ∷ 45 ∷ []) ≡ false → ((v : Text) → setting_named w v ≡ None) → setting_alone w ≡ None → Dashes w

not_dashed : (w : Text) → starts w ≡ false → Dashes w
not_dashed w e = plainly (no_long w e) (no_bytes w [] e) (λ v. no_setting w v e) (not_alone w e)

after_dashes : (w : Text) → Dashes (45 ∷ 45 ∷ w)
after_dashes [] = lone refl
after_dashes (x ∷ xs) = dashed x xs refl

two_dashes : (a b : Bool) (x y : ℕ) (w : Text) → (x == 45) ≡ a → (y == 45) ≡ b → Dashes (x ∷ y ∷ w)
two_dashes true true x y w e f =
    subst (λ (k : ℕ). Dashes (k ∷ y ∷ w)) (sym ((unsigned_Decides x 45).0 e))
    (subst (λ (k : ℕ). Dashes (45 ∷ k ∷ w)) (sym ((unsigned_Decides y 45).0 f)) (after_dashes w))
two_dashes true false x y w e f = not_dashed (x ∷ y ∷ w) (ap₂ (λ a b. a && b) e f)
two_dashes false b x y w e f = not_dashed (x ∷ y ∷ w) (ap₂ (λ a b. a && b) e f)

-- each word is one of these
pub dashes : (w : Text) → Dashes w
dashes [] = not_dashed [] refl
dashes (x ∷ []) = not_dashed (x ∷ []) refl
dashes (x ∷ y ∷ w) = two_dashes (x == 45) (y == 45) x y w refl refl

-- ---- a value that begins with a dash

-- it is no number
pub dashed_is_no_number : (w : Text) → is_number (45 ∷ w) ≡ false
dashed_is_no_number w = and_right (not (length (45 ∷ w) == 0)) _ (and_right (not (nat_lt 1 (length (45 ∷ w)) && (slice_index (45 ∷ w) 0 == 48))) _ refl)

short_no_number : (b : Bool) (x : ℕ) (w flags : Text) → (x == 45) ≡ b → option_and_then short_of_rest (cond b (Some w) None) ≡ Some flags → is_number (x ∷ w) ≡ false
short_no_number true x w flags e is = subst (λ (k : ℕ). is_number (k ∷ w) ≡ false) (sym ((unsigned_Decides x 45).0 e)) (dashed_is_no_number w)
short_no_number false x w flags e is = absurd (true≢false (sym (ap is_some is)))

-- nor is what `clap` takes for flags
pub short_is_no_number : (w flags : Text) → short_of w ≡ Some flags → is_number w ≡ false
short_is_no_number [] flags is = refl
short_is_no_number (x ∷ w) flags is = short_no_number (x == 45) x w flags refl is

-- what is no number makes no setting
pub no_key_setting : (k : Key) (v : Text) → is_number v ≡ false → key_setting k v ≡ None
no_key_setting pages v e = ap (λ b. option_map Pages (cond (b && (nat_le 1 (value_after 0 v) && nat_le (value_after 0 v) 1024)) (Some (value_after 0 v)) None)) e
no_key_setting page_words v e = ap (λ b. option_map PageWords (cond (b && is_page_size (value_after 0 v)) (Some (value_after 0 v)) None)) e
no_key_setting markers v e = ap (λ b. option_map Markers (cond (b && (nat_le 0 (value_after 0 v) && nat_le (value_after 0 v) most_markers)) (Some (value_after 0 v)) None)) e
no_key_setting seed v e = ap (λ b. option_map Seed (cond b (Some (value_after 0 v)) None)) e
no_key_setting count v e = ap (λ b. option_map Count (cond (b && (nat_le 1 (value_after 0 v) && nat_le (value_after 0 v) 50000)) (Some (value_after 0 v)) None)) e

-- ---- what a word means

-- to the definition and to the walk alike
pub data Means (w : Text) : Type 0 where
  -- it is a setting by itself
  sets : (s : Said) → takes_next w ≡ false → setting_alone w ≡ setting_of s
      → ((all : List Said) (p : Option (Key × Text)) → turn_fault shape [] (idle_at (at all p)) w ≡ react_fault rules false (rule_for s) (values_for s) (at all p))
      → ((all : List Said) (p : Option (Key × Text)) → walked rules [] (idle_at (at all p)) w ≡ idle_at (reacted rules (rule_for s) (values_for s) (at all p))) → Means w
  -- it is a name, whose value follows
  names : (k : Key) → takes_next w ≡ true → setting_alone w ≡ None → ((v : Text) → setting_named w v ≡ key_setting k v)
      → ((all : List Said) (p : Option (Key × Text)) → turn_fault shape [] (idle_at (at all p)) w ≡ settle_fault rules false (at all p))
      → ((all : List Said) (p : Option (Key × Text)) → walked rules [] (idle_at (at all p)) w ≡ wait_at (key_name k) (record (settled rules (at all p)) { pending = Some (key_name k, []) })) → Means w
  -- it is refused
  refuses : setting_alone w ≡ None → ((v : Text) → takes_next w ≡ true → setting_named w v ≡ None)
      → ((all : List Said) (p : Option (Key × Text)) → has_some (turn_fault shape [] (idle_at (at all p)) w) ≡ true) → Means w

module _ (x : ℕ) (xs : Text) where
  takes_none : list_any is_equals (x ∷ xs) ≡ true → takes_next (45 ∷ 45 ∷ x ∷ xs) ≡ false
  takes_none e = ap (λ b. not b && not (is_text (x ∷ xs) (codes "summary"))) e

  is_alone : list_any is_equals (x ∷ xs) ≡ false → setting_alone (45 ∷ 45 ∷ x ∷ xs) ≡ cond (is_text (x ∷ xs) (codes "summary")) (Some Summary) None
  is_alone e = ap (λ b. cond b (setting_named (before_first is_equals (45 ∷ 45 ∷ x ∷ xs)) (after_first is_equals (45 ∷ 45 ∷ x ∷ xs))) (cond (is_text (x ∷ xs) (codes "summary")) (Some Summary) None)) e

  with_value : list_any is_equals (x ∷ xs) ≡ true → Which (before_first is_equals (x ∷ xs)) → Means (45 ∷ 45 ∷ x ∷ xs)
  with_value e (option_of k is) =
      let n = before_first is_equals (x ∷ xs) in
      let v = after_first is_equals (x ∷ xs) in
      sets (asks k v) (takes_none e) (sets_alone (x ∷ xs) e ∙ key_sets n k v is)
      (λ all p. joined_fails x xs n (key_name k) v (at all p) (name_with (x ∷ xs) e) (key_found n k is))
      (λ all p. joined_walks x xs n (key_name k) v (at all p) (name_with (x ∷ xs) e) (key_found n k is))
  with_value e (summary_of is) =
      let n = before_first is_equals (x ∷ xs) in
      let v = after_first is_equals (x ∷ xs) in
      refuses (sets_alone (x ∷ xs) e ∙ ap (λ n. setting_named (45 ∷ 45 ∷ n) v) is) (λ u next. absurd (true≢false (sym next ∙ takes_none e)))
      (λ all p. summary_with_value_fails x xs n (at all p) (ap (arg_by_long rules) is) v (name_with (x ∷ xs) e))
  with_value e (none_of found named other) =
      let n = before_first is_equals (x ∷ xs) in
      let v = after_first is_equals (x ∷ xs) in
      refuses (sets_alone (x ∷ xs) e ∙ named v) (λ u next. absurd (true≢false (sym next ∙ takes_none e)))
      (λ all p. unknown_fails x xs n (Some v) (at all p) (name_with (x ∷ xs) e) found)

  without_value : list_any is_equals (x ∷ xs) ≡ false → Which (x ∷ xs) → Means (45 ∷ 45 ∷ x ∷ xs)
  without_value e (option_of k is) =
      names k (ap₂ (λ b c. not b && not c) e (key_is_other (x ∷ xs) k is))
      (is_alone e ∙ ap (λ b. cond b (Some Summary) None) (key_is_other (x ∷ xs) k is))
      (λ v. key_sets (x ∷ xs) k v is)
      (λ all p. apart_fails x xs (x ∷ xs) (key_name k) (at all p) (name_alone (x ∷ xs) e) (key_found (x ∷ xs) k is))
      (λ all p. apart_walks x xs (x ∷ xs) (key_name k) (at all p) (name_alone (x ∷ xs) e) (key_found (x ∷ xs) k is))
  without_value e (summary_of is) =
      sets sums_up (ap₂ (λ b c. not b && not c) e (ap (λ n. is_text n (codes "summary")) is))
      (is_alone e ∙ ap (λ n. cond (is_text n (codes "summary")) (Some Summary) None) is)
      (λ all p. summary_fails x xs (x ∷ xs) (at all p) (ap (arg_by_long rules) is) (name_alone (x ∷ xs) e))
      (λ all p. summary_walks x xs (x ∷ xs) (at all p) (ap (arg_by_long rules) is) (name_alone (x ∷ xs) e))
  without_value e (none_of found named other) =
      refuses (is_alone e ∙ ap (λ b. cond b (Some Summary) None) other) (λ v next. named v)
      (λ all p. unknown_fails x xs (x ∷ xs) None (at all p) (name_alone (x ∷ xs) e) found)

  either : (b : Bool) → list_any is_equals (x ∷ xs) ≡ b → Means (45 ∷ 45 ∷ x ∷ xs)
  either true e = with_value e (which (before_first is_equals (x ∷ xs)))
  either false e = without_value e (which (x ∷ xs))

-- each word but two dashes alone
pub means : (w : Text) → is_text w (codes "--") ≡ false → Means w
means w other = elim (dashes w) as (λ _. Means w) [
  | lone is ↦ absurd (true≢false (sym (ap (λ w. is_text w (codes "--")) is) ∙ other))
  | dashed x xs is ↦ subst Means (sym is) (either x xs (list_any is_equals (x ∷ xs)) refl)
  | plainly long not named alone ↦ refuses alone (λ v next. named v) (λ all p. stray_fails w (rows all) (pend p) long not)
]
