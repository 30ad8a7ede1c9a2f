-- What is said of options, one after the other, as it was written.
use Rattle.std.proofs.Common.{◌≡◌, ◌∙◌, Bool, true, false, true≢false, ℕ, List, [], ◌∷◌, ◌++◌, Option, Some, None, refl, ap, codes, cond, is_some}
use Rattle.std.specs.Prelude.{option_map}
use Rattle.std.specs.Str.{bytes_eq}
use Rattle.command_line.specs.Settings.{Setting, number_of_word, number_within, page_size_of, most_markers}
use Rattle.command_line.specs.Settings.Setting.{Pages, PageWords, Markers, Summary, Seed, Count}
use Rattle.command_line.specs.Heard.{Heard}

-- the options with a value
pub data Key : Type 0 where
  pages : Key
  page_words : Key
  markers : Key
  seed : Key
  count : Key

-- what a word, or two, say: the text of an option, or `--summary`
pub data Said : Type 0 where
  asks : Key → List ℕ → Said
  sums_up : Said

-- its name
abbrev pub key_name : Key → List ℕ
key_name pages = codes "pages"
key_name page_words = codes "page-words"
key_name markers = codes "markers"
key_name seed = codes "generate"
key_name count = codes "count"

-- the name of what is said
abbrev pub name_of : Said → List ℕ
name_of (asks k v) = key_name k
name_of sums_up = codes "summary"

-- its text, which for `--summary` is always the same
abbrev pub text_of : Said → List ℕ
text_of (asks k v) = v
text_of sums_up = codes "true"

-- the setting that a text of this option is
abbrev pub key_setting : Key → List ℕ → Option Setting
key_setting pages v = option_map Pages (number_within 1 1024 v)
key_setting page_words v = option_map PageWords (page_size_of v)
key_setting markers v = option_map Markers (number_within 0 most_markers v)
key_setting seed v = option_map Seed (number_of_word v)
key_setting count v = option_map Count (number_within 1 50000 v)

-- the setting that is said
abbrev pub setting_of : Said → Option Setting
setting_of (asks k v) = key_setting k v
setting_of sums_up = Some Summary

-- the first text that was said of a name
abbrev pub said : List ℕ → List Said → Option (List ℕ)
said id [] = None
said id (s ∷ more) = cond (bytes_eq (name_of s) id) (Some (text_of s)) (said id more)

-- what was heard of each option
abbrev pub heard_of : List Said → Heard
heard_of all = record {
  pages = said (codes "pages") all;
  page_words = said (codes "page-words") all;
  markers = said (codes "markers") all;
  summary = is_some (said (codes "summary") all);
  seed = said (codes "generate") all;
  count = said (codes "count") all;
}

-- with one more said, where its name was not said before
abbrev pub add : Said → List Said → Option (List Said)
add s all = cond (is_some (said (name_of s) all)) None (Some (all ++ s ∷ []))

-- ---- one more said

-- the first text, and where there is none the later one
abbrev or_said : Option (List ℕ) → Option (List ℕ) → Option (List ℕ)
or_said None later = later
or_said (Some text) later = Some text

-- without a later text it is the first
or_none : (o : Option (List ℕ)) → or_said o None ≡ o
or_none None = refl
or_none (Some t) = refl

-- what is not there is nothing
pub none_of : (o : Option (List ℕ)) → is_some o ≡ false → o ≡ None
none_of None e = refl
none_of (Some t) e = absurd (true≢false e)

-- a text before the first
first_or : (b : Bool) (t : List ℕ) (x y : Option (List ℕ)) → cond b (Some t) (or_said x y) ≡ or_said (cond b (Some t) x) y
first_or true t x y = refl
first_or false t x y = refl

-- with one more said, the text of a name is the earlier one, or this one
said_more : (id : List ℕ) (all : List Said) (s : Said)
    → said id (all ++ s ∷ []) ≡ or_said (said id all) (cond (bytes_eq (name_of s) id) (Some (text_of s)) None)
said_more id [] s = refl
said_more id (t ∷ all) s =
    ap (cond (bytes_eq (name_of t) id) (Some (text_of t))) (said_more id all s)
    ∙ first_or (bytes_eq (name_of t) id) (text_of t) (said id all) (cond (bytes_eq (name_of s) id) (Some (text_of s)) None)

-- with this heard
abbrev pub hears : Heard → Said → Heard
hears h (asks pages v) = record h { pages = Some v }
hears h (asks page_words v) = record h { page_words = Some v }
hears h (asks markers v) = record h { markers = Some v }
hears h (asks seed v) = record h { seed = Some v }
hears h (asks count v) = record h { count = Some v }
hears h sums_up = record h { summary = true }

-- the option was heard of
abbrev pub is_heard : Heard → Said → Bool
is_heard h (asks pages v) = is_some h.pages
is_heard h (asks page_words v) = is_some h.page_words
is_heard h (asks markers v) = is_some h.markers
is_heard h (asks seed v) = is_some h.seed
is_heard h (asks count v) = is_some h.count
is_heard h sums_up = h.summary

-- what was said of another name stays
kept : (id : List ℕ) (all : List Said) (s : Said) → bytes_eq (name_of s) id ≡ false → said id (all ++ s ∷ []) ≡ said id all
kept id all s other = said_more id all s ∙ ap (λ b. or_said (said id all) (cond b (Some (text_of s)) None)) other ∙ or_none (said id all)

-- of its own name it is what was said, where nothing was before
gained : (id : List ℕ) (all : List Said) (s : Said) → bytes_eq (name_of s) id ≡ true → is_some (said id all) ≡ false → said id (all ++ s ∷ []) ≡ Some (text_of s)
gained id all s same none =
    said_more id all s
    ∙ ap (λ b. or_said (said id all) (cond b (Some (text_of s)) None)) same
    ∙ ap (λ o. or_said o (Some (text_of s))) (none_of (said id all) none)

-- what is heard, from what was said of each name
heard_by : (all : List Said) (h : Heard) → said (codes "pages") all ≡ h.pages → said (codes "page-words") all ≡ h.page_words
    → said (codes "markers") all ≡ h.markers → is_some (said (codes "summary") all) ≡ h.summary → said (codes "generate") all ≡ h.seed
    → said (codes "count") all ≡ h.count → heard_of all ≡ h
heard_by all h p w m u g c = λ i. record {
  pages = p i;
  page_words = w i;
  markers = m i;
  summary = u i;
  seed = g i;
  count = c i;
}

-- what is heard with one more said
pub heard_more : (all : List Said) (s : Said) → is_some (said (name_of s) all) ≡ false → heard_of (all ++ s ∷ []) ≡ hears (heard_of all) s
heard_more all (asks pages v) none =
    heard_by (all ++ (asks pages v) ∷ []) (hears (heard_of all) (asks pages v))
    (gained _ all (asks pages v) refl none) (kept _ all (asks pages v) refl) (kept _ all (asks pages v) refl)
    (ap is_some (kept _ all (asks pages v) refl)) (kept _ all (asks pages v) refl) (kept _ all (asks pages v) refl)
heard_more all (asks page_words v) none =
    heard_by (all ++ (asks page_words v) ∷ []) (hears (heard_of all) (asks page_words v))
    (kept _ all (asks page_words v) refl) (gained _ all (asks page_words v) refl none) (kept _ all (asks page_words v) refl)
    (ap is_some (kept _ all (asks page_words v) refl)) (kept _ all (asks page_words v) refl) (kept _ all (asks page_words v) refl)
heard_more all (asks markers v) none =
    heard_by (all ++ (asks markers v) ∷ []) (hears (heard_of all) (asks markers v))
    (kept _ all (asks markers v) refl) (kept _ all (asks markers v) refl) (gained _ all (asks markers v) refl none)
    (ap is_some (kept _ all (asks markers v) refl)) (kept _ all (asks markers v) refl) (kept _ all (asks markers v) refl)
heard_more all (asks seed v) none =
    heard_by (all ++ (asks seed v) ∷ []) (hears (heard_of all) (asks seed v))
    (kept _ all (asks seed v) refl) (kept _ all (asks seed v) refl) (kept _ all (asks seed v) refl)
    (ap is_some (kept _ all (asks seed v) refl)) (gained _ all (asks seed v) refl none) (kept _ all (asks seed v) refl)
heard_more all (asks count v) none =
    heard_by (all ++ (asks count v) ∷ []) (hears (heard_of all) (asks count v))
    (kept _ all (asks count v) refl) (kept _ all (asks count v) refl) (kept _ all (asks count v) refl)
    (ap is_some (kept _ all (asks count v) refl)) (kept _ all (asks count v) refl) (gained _ all (asks count v) refl none)
heard_more all sums_up none =
    heard_by (all ++ sums_up ∷ []) (hears (heard_of all) sums_up)
    (kept _ all sums_up refl) (kept _ all sums_up refl) (kept _ all sums_up refl)
    (ap is_some (gained _ all sums_up refl none)) (kept _ all sums_up refl) (kept _ all sums_up refl)

-- an option was heard of just where its name was said
pub heard_said : (all : List Said) (s : Said) → is_heard (heard_of all) s ≡ is_some (said (name_of s) all)
heard_said all (asks pages v) = refl
heard_said all (asks page_words v) = refl
heard_said all (asks markers v) = refl
heard_said all (asks seed v) = refl
heard_said all (asks count v) = refl
heard_said all sums_up = refl
