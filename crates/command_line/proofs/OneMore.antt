-- One more that is said is one more setting.
use Rattle.std.proofs.Common.{◌≡◌, ◌∙◌, ℕ, Bool, true, false, List, [], ◌∷◌, ◌++◌, Option, Some, None, refl, sym, ap, cond, is_some, arith}
use Rattle.std.proofs.lemmas.Option.{none-some, same_Some}
use Rattle.std.specs.Prelude.{option_map, option_and_then}
use Rattle.command_line.specs.declared.asked.Asked.{Asked}
use Rattle.command_line.specs.Settings.{Setting, before, number_of_word, number_within, page_size_of, most_markers}
use Rattle.command_line.specs.Settings.Setting.{Pages, PageWords, Markers, Summary, Seed, Count}
use Rattle.command_line.specs.Options.{with_setting}
use Rattle.command_line.specs.Heard.{Heard, all_read, asked_by, read_if_given}
use Rattle.command_line.proofs.Pairs.{is_asked}
use Rattle.command_line.proofs.InTurn.{in_turn}
use Rattle.command_line.proofs.Said.{Said, pages, page_words, markers, seed, count, asks, sums_up, name_of, setting_of, said, heard_of, add, none_of, hears, is_heard, heard_more, heard_said}

-- ---- what is asked for, with one more text read

-- what each text is read as
abbrev pages_of : Heard → Option (Option ℕ)
pages_of h = read_if_given (number_within 1 1024) h.pages

abbrev words_of : Heard → Option (Option ℕ)
words_of h = read_if_given page_size_of h.page_words

abbrev markers_of : Heard → Option (Option ℕ)
markers_of h = read_if_given (number_within 0 most_markers) h.markers

abbrev seed_of : Heard → Option (Option ℕ)
seed_of h = read_if_given number_of_word h.seed

abbrev count_of : Heard → Option (Option ℕ)
count_of h = read_if_given (number_within 1 50000) h.count

-- what was asked with this setting besides, where both are there
abbrev and_set : Option Setting → Option Asked → Option Asked
and_set s = option_and_then (λ a. option_map (with_setting a) s)

-- a number that is read is the setting of its option, besides what the others ask
module _ (b : Bool) (x : Option ℕ) (p w m g c : Option (Option ℕ)) where
  pages_read : all_read b (option_map (λ n. Some n) x) w m g c ≡ and_set (option_map Pages x) (all_read b (Some None) w m g c)
  pages_read = grind arith

  words_read : all_read b p (option_map (λ n. Some n) x) m g c ≡ and_set (option_map PageWords x) (all_read b p (Some None) m g c)
  words_read = grind arith

  markers_read : all_read b p w (option_map (λ n. Some n) x) g c ≡ and_set (option_map Markers x) (all_read b p w (Some None) g c)
  markers_read = grind arith

  seed_read : all_read b p w m (option_map (λ n. Some n) x) c ≡ and_set (option_map Seed x) (all_read b p w m (Some None) c)
  seed_read = grind arith

  count_read : all_read b p w m g (option_map (λ n. Some n) x) ≡ and_set (option_map Count x) (all_read b p w m g (Some None))
  count_read = grind arith

-- so is `--summary`
summary_read : (b : Bool) (p w m g c : Option (Option ℕ)) → all_read true p w m g c ≡ and_set (Some Summary) (all_read b p w m g c)
summary_read b p w m g c = grind arith

-- ---- an option is asked for just where it was heard

-- what was asked of each option is what was read of it
record Parts (b : Bool) (p w m g c : Option (Option ℕ)) (a : Asked) : Type 0 where
  is_b : b ≡ a.summary
  is_p : p ≡ Some a.pages
  is_w : w ≡ Some a.page_words
  is_m : m ≡ Some a.markers
  is_g : g ≡ Some a.seed
  is_c : c ≡ Some a.count

-- where something is asked, each text could be read
parts : (b : Bool) (p w m g c : Option (Option ℕ)) (a : Asked) → all_read b p w m g c ≡ Some a → Parts b p w m g c a
parts b (Some p) (Some w) (Some m) (Some g) (Some c) a e =
    let same = same_Some (record { pages = p; page_words = w; markers = m; summary = b; seed = g; count = c }) a e in
    record {
      is_b = ap (λ (a : Asked). a.summary) same;
      is_p = ap (λ (a : Asked). Some a.pages) same;
      is_w = ap (λ (a : Asked). Some a.page_words) same;
      is_m = ap (λ (a : Asked). Some a.markers) same;
      is_g = ap (λ (a : Asked). Some a.seed) same;
      is_c = ap (λ (a : Asked). Some a.count) same;
    }
parts b None w m g c a e = absurd (none-some a e)
parts b (Some p) None m g c a e = absurd (none-some a e)
parts b (Some p) (Some w) None g c a e = absurd (none-some a e)
parts b (Some p) (Some w) (Some m) None c a e = absurd (none-some a e)
parts b (Some p) (Some w) (Some m) (Some g) None a e = absurd (none-some a e)

-- what is read of a text that is there is there
mapped_is : {X : Type 0} (o : Option X) (y : Option X) → option_map (λ x. Some x) o ≡ Some y → is_some y ≡ true
mapped_is None y e = absurd (none-some y e)
mapped_is (Some x) y e = ap is_some (sym (same_Some (Some x) y e))

-- something was asked of an option just where it has a text
read_is : (read : List ℕ → Option ℕ) (o : Option (List ℕ)) (y : Option ℕ) → read_if_given read o ≡ Some y → is_some y ≡ is_some o
read_is read None y e = ap is_some (sym (same_Some None y e))
read_is read (Some t) y e = mapped_is (read t) y e

-- whether the option of a setting was asked for doesn't depend on its number
set_is : (a : Asked) (which : ℕ → Setting) (o : Option ℕ) (t : Setting) (b : Bool) → ((n : ℕ) → is_asked a (which n) ≡ b)
    → option_map which o ≡ Some t → is_asked a t ≡ b
set_is a which None t b asked e = absurd (none-some t e)
set_is a which (Some n) t b asked e = ap (is_asked a) (sym (same_Some (which n) t e)) ∙ asked n

-- the parts of what texts ask
parts_of : (h : Heard) (a : Asked) → asked_by h ≡ Some a
    → Parts h.summary (pages_of h) (words_of h) (markers_of h) (seed_of h) (count_of h) a
parts_of h a e = parts h.summary (pages_of h) (words_of h) (markers_of h) (seed_of h) (count_of h) a e

-- an option was asked for just where it was heard of
asked_heard : (h : Heard) (s : Said) (a : Asked) (t : Setting) → asked_by h ≡ Some a → setting_of s ≡ Some t → is_asked a t ≡ is_heard h s
asked_heard h (asks pages v) a t e is = set_is a Pages (number_within 1 1024 v) t _ (λ n. read_is (number_within 1 1024) h.pages a.pages (parts_of h a e).is_p) is
asked_heard h (asks page_words v) a t e is = set_is a PageWords (page_size_of v) t _ (λ n. read_is page_size_of h.page_words a.page_words (parts_of h a e).is_w) is
asked_heard h (asks markers v) a t e is = set_is a Markers (number_within 0 most_markers v) t _ (λ n. read_is (number_within 0 most_markers) h.markers a.markers (parts_of h a e).is_m) is
asked_heard h (asks seed v) a t e is = set_is a Seed (number_of_word v) t _ (λ n. read_is number_of_word h.seed a.seed (parts_of h a e).is_g) is
asked_heard h (asks count v) a t e is = set_is a Count (number_within 1 50000 v) t _ (λ n. read_is (number_within 1 50000) h.count a.count (parts_of h a e).is_c) is
asked_heard h sums_up a t e is = ap (is_asked a) (sym (same_Some Summary t is)) ∙ sym (parts_of h a e).is_b

-- ---- settings after what was said

-- what was asked so far, and these settings in turn
abbrev pub with_settings : Option Asked → Option (List Setting) → Option Asked
with_settings asked settings = option_and_then (λ a. option_and_then (in_turn a) settings) asked

-- a setting of an option that was asked for is refused
set_twice : (x : Option Asked) (t : Option Setting) (more : Option (List Setting))
    → ((a : Asked) (s : Setting) → x ≡ Some a → t ≡ Some s → is_asked a s ≡ true) → with_settings x (before t more) ≡ None
set_twice None t more twice = refl
set_twice (Some a) None more twice = refl
set_twice (Some a) (Some s) None twice = refl
set_twice (Some a) (Some s) (Some later) twice = ap (λ b. cond b None (in_turn (with_setting a s) later)) (twice a s refl refl)

-- any other is set before the later ones
set_once : (x : Option Asked) (t : Option Setting) (more : Option (List Setting))
    → ((a : Asked) (s : Setting) → x ≡ Some a → t ≡ Some s → is_asked a s ≡ false) → with_settings x (before t more) ≡ with_settings (and_set t x) more
set_once None t more once = refl
set_once (Some a) None more once = refl
set_once (Some a) (Some s) None once = refl
set_once (Some a) (Some s) (Some later) once = ap (λ b. cond b None (in_turn (with_setting a s) later)) (once a s refl refl)

-- a text of an option of which none was heard is one more setting
fresh : (h : Heard) (s : Said) → is_heard h s ≡ false → asked_by (hears h s) ≡ and_set (setting_of s) (asked_by h)
fresh h (asks pages v) none =
    pages_read h.summary (number_within 1 1024 v) (pages_of h) (words_of h) (markers_of h) (seed_of h) (count_of h)
    ∙ ap (λ o. and_set (option_map Pages (number_within 1 1024 v)) (asked_by (record h { pages = o }))) (sym (none_of h.pages none))
fresh h (asks page_words v) none =
    words_read h.summary (page_size_of v) (pages_of h) (words_of h) (markers_of h) (seed_of h) (count_of h)
    ∙ ap (λ o. and_set (option_map PageWords (page_size_of v)) (asked_by (record h { page_words = o }))) (sym (none_of h.page_words none))
fresh h (asks markers v) none =
    markers_read h.summary (number_within 0 most_markers v) (pages_of h) (words_of h) (markers_of h) (seed_of h) (count_of h)
    ∙ ap (λ o. and_set (option_map Markers (number_within 0 most_markers v)) (asked_by (record h { markers = o }))) (sym (none_of h.markers none))
fresh h (asks seed v) none =
    seed_read h.summary (number_of_word v) (pages_of h) (words_of h) (markers_of h) (seed_of h) (count_of h)
    ∙ ap (λ o. and_set (option_map Seed (number_of_word v)) (asked_by (record h { seed = o }))) (sym (none_of h.seed none))
fresh h (asks count v) none =
    count_read h.summary (number_within 1 50000 v) (pages_of h) (words_of h) (markers_of h) (seed_of h) (count_of h)
    ∙ ap (λ o. and_set (option_map Count (number_within 1 50000 v)) (asked_by (record h { count = o }))) (sym (none_of h.count none))
fresh h sums_up none =
    summary_read h.summary (pages_of h) (words_of h) (markers_of h) (seed_of h) (count_of h)

-- what is asked by all that was said, where no name was said twice
abbrev pub asked_of : Option (List Said) → Option Asked
asked_of = option_and_then (λ all. asked_by (heard_of all))

-- it is one more setting, or its name was said before and it is refused
step : (b : Bool) (all : List Said) (s : Said) (more : Option (List Setting)) → is_some (said (name_of s) all) ≡ b
    → with_settings (asked_by (heard_of all)) (before (setting_of s) more) ≡ with_settings (asked_of (cond b None (Some (all ++ s ∷ [])))) more
step true all s more is = set_twice (asked_by (heard_of all)) (setting_of s) more (λ a t e set. asked_heard (heard_of all) s a t e set ∙ heard_said all s ∙ is)
step false all s more is =
    set_once (asked_by (heard_of all)) (setting_of s) more (λ a t e set. asked_heard (heard_of all) s a t e set ∙ heard_said all s ∙ is)
    ∙ ap (λ x. with_settings x more) (sym (fresh (heard_of all) s (heard_said all s ∙ is)) ∙ ap asked_by (sym (heard_more all s is)))

-- one more said is one more setting
pub one_more_said : (all : List Said) (s : Said) (more : Option (List Setting))
    → with_settings (asked_of (Some all)) (before (setting_of s) more) ≡ with_settings (asked_of (add s all)) more
one_more_said all s more = step (is_some (said (name_of s) all)) all s more refl
