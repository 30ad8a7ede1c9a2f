-- What `clap` answers on the words, and what its matches hold.
use Rattle.std.proofs.Common.{◌≡◌, ◌∙◌, ◌||◌, Bool, true, false, true≢false, List, [], ◌∷◌, ◌++◌, Option, Some, None, refl, sym, ap, codes, cond, is_some}
use Rattle.std.specs.Prelude.{fold, find, option_and_then, slice_get}
use Rattle.std.specs.Str.{bytes_eq}
use Rattle.std.proofs.lemmas.Bool.{or_parts}
use Rattle.clap.specs.Kinds.{Kinds, or_else}
use Rattle.clap.specs.Walk.{Row, Rule, Text, at_row, first_of, has_row, more_values, nothing_held, one_of, row_text, rows_of, settled, walk, walk_from, with_default}
use Rattle.clap.specs.Simple.{matches_of}
use Rattle.clap.specs.Faults.{defaults_fault, fault_of, settle_fault, walk_fault}
use Rattle.clap.specs.declared.parser.matches.Found.{Found}
use Rattle.clap.specs.declared.builder.value_parser.Reading.TheVariants.{AsWritten}
use Rattle.clap.specs.declared.parser.matches.ValueSource.TheVariants.{DefaultValue}
use Rattle.clap.proofs.FaultLemmas.{leaf_fault}
use Rattle.clap.proofs.WalkLemmas.{first_value-rows, one_text-rows}
use Rattle.command_line.specs.ClapRules.{options_app}
use Rattle.command_line.specs.Heard.{Holds}
use Rattle.command_line.proofs.Built.{filled_option, filled_summary, rules, shape}
use Rattle.command_line.proofs.Said.{Said, asks, sums_up, pages, page_words, markers, seed, count, name_of, text_of, said, heard_of}
use Rattle.command_line.proofs.Uses.{has_row_said, or_nothing, at_end, row_of, rows}
use Rattle.command_line.proofs.Walked.{fault_from, rows_from}

-- ---- the defaults

-- no rule but that of `--summary` has a default, so nothing is refused of the others
no_default : (name : Text) (rs : List Row) (rest : List Rule) → defaults_fault rs (filled_option name ∷ rest) ≡ defaults_fault rs rest
unfolding defaults_fault
no_default name rs rest = elim (has_row name rs) as (λ b. or_else (cond (b || true) [] []) (defaults_fault (cond b rs rs) rest) ≡ defaults_fault rs rest) [ true ↦ refl | false ↦ refl ]

summary_default : (rs : List Row) (rest : List Rule) → defaults_fault rs (filled_summary ∷ rest) ≡ defaults_fault (with_default rs filled_summary) rest
unfolding defaults_fault
summary_default rs rest = elim (has_row (codes "summary") rs) as (λ b. or_else (cond (b || false) [] []) (defaults_fault (with_default rs filled_summary) rest) ≡ defaults_fault (with_default rs filled_summary) rest) [ true ↦ refl | false ↦ refl ]

no_rules : (rs : List Row) → defaults_fault rs [] ≡ []
unfolding defaults_fault
no_rules rs = refl

-- nothing is refused of the defaults
no_default_fails : (rs : List Row) → defaults_fault rs rules ≡ []
no_default_fails rs =
    no_default (codes "pages") rs _ ∙ no_default (codes "page-words") rs _ ∙ no_default (codes "markers") rs _
    ∙ summary_default rs _ ∙ no_default (codes "generate") (with_default rs filled_summary) _ ∙ no_default (codes "count") (with_default rs filled_summary) _
    ∙ no_rules (with_default rs filled_summary)

kept : (name : Text) (rs : List Row) → with_default rs (filled_option name) ≡ rs
kept name rs = elim (has_row name rs) as (λ b. cond b rs rs ≡ rs) [ true ↦ refl | false ↦ refl ]

-- only `--summary` gets one
defaulted : (rs : List Row) → fold with_default rs rules ≡ with_default rs filled_summary
defaulted rs =
    let last = filled_summary ∷ filled_option (codes "generate") ∷ filled_option (codes "count") ∷ [] in
    ap (λ r. fold with_default r (filled_option (codes "page-words") ∷ filled_option (codes "markers") ∷ last)) (kept (codes "pages") rs)
    ∙ ap (λ r. fold with_default r (filled_option (codes "markers") ∷ last)) (kept (codes "page-words") rs)
    ∙ ap (λ r. fold with_default r last) (kept (codes "markers") rs)
    ∙ ap (λ r. fold with_default r (filled_option (codes "count") ∷ [])) (kept (codes "generate") (with_default rs filled_summary))
    ∙ kept (codes "count") (with_default rs filled_summary)

-- ---- the whole parse

-- what is refused of the whole is what is refused of the words
parts_of : (a b c d : Kinds) → c ≡ [] → d ≡ [] → or_else a (or_else [] (or_else b (or_else c d))) ≡ or_else a b
parts_of a b c d ec ed = (λ i. or_else a (or_else b (or_else (ec i) (ed i)))) ∙ ap (or_else a) (or_nothing b)

-- what `clap` refuses of the words
pub fault_is : (words : List Text) → fault_of options_app words ≡ fault_from (walk_from nothing_held) words
fault_is words =
    let end = (walk rules [] nothing_held words).held in
    leaf_fault (record { top = shape; subs = [] }) nothing_held words refl
    ∙ parts_of (walk_fault shape [] (walk_from nothing_held) words) (settle_fault rules false end) (defaults_fault (settled rules end).rows rules) []
    (no_default_fails (settled rules end).rows) refl

-- what it makes of them
pub matches_are : (words : List Text) → matches_of options_app words ≡ with_default (rows_from (walk_from nothing_held) words) filled_summary
matches_are words = defaulted (rows_from (walk_from nothing_held) words)

-- ---- what the matches hold

-- what is got of the row of a name
module _ (get : Row → Option Text) (reads : (s : Said) → get (row_of s) ≡ Some (text_of s)) (id : Text) where
  abbrev found : List Row → Option Text
  found rs = option_and_then get (find (λ r. bytes_eq r.id id) rs)

  found_or : (b : Bool) (r : Row) (o : Option Row) → option_and_then get (cond b (Some r) o) ≡ cond b (get r) (option_and_then get o)
  found_or true r o = refl
  found_or false r o = refl

  found_said : (all : List Said) → found (rows all) ≡ said id all
  found_said [] = refl
  found_said (s ∷ all) =
      found_or (bytes_eq (name_of s) id) (row_of s) (find (λ r. bytes_eq r.id id) (rows all))
      ∙ (λ i. cond (bytes_eq (name_of s) id) (reads s i) (found_said all i))

  -- a row of another name at the end
  found_before : (rs : List Row) (r : Row) → bytes_eq r.id id ≡ false → found (rs ++ r ∷ []) ≡ found rs
  found_before [] r other = ap (λ b. option_and_then get (cond b (Some r) None)) other
  found_before (x ∷ rs) r other =
      found_or (bytes_eq x.id id) x (find (λ r. bytes_eq r.id id) (rs ++ r ∷ []))
      ∙ ap (cond (bytes_eq x.id id) (get x)) (found_before rs r other)
      ∙ sym (found_or (bytes_eq x.id id) x (find (λ r. bytes_eq r.id id) rs))

  -- a row of this name, where it is the first
  found_last : (rs : List Row) (r : Row) → bytes_eq r.id id ≡ true → has_row id rs ≡ false → found (rs ++ r ∷ []) ≡ get r
  found_last [] r same none = ap (λ b. option_and_then get (cond b (Some r) None)) same
  found_last (x ∷ rs) r same none =
      let two = or_parts (bytes_eq x.id id) (has_row id rs) none in
      ap (λ b. option_and_then get (cond b (Some x) (find (λ r. bytes_eq r.id id) (rs ++ r ∷ [])))) two.0
      ∙ found_last rs r same two.1

-- the row of `--summary` where it was not said
abbrev default_row : Row
default_row = record { id = codes "summary"; values = codes "false" ∷ []; count = None; source = Some DefaultValue; reading = AsWritten }

-- the default stands last, where the summary was not said
with_last : (rs : List Row) (b : Bool) → has_row (codes "summary") rs ≡ b → with_default rs filled_summary ≡ cond b rs (rs ++ default_row ∷ [])
with_last rs true is = ap (λ b. cond b rs (at_row (codes "summary") (more_values DefaultValue (codes "false" ∷ [])) (default_row ∷ []) rs)) is
with_last rs false is =
    ap (λ b. cond b rs (at_row (codes "summary") (more_values DefaultValue (codes "false" ∷ [])) (default_row ∷ []) rs)) is
    ∙ at_end (codes "summary") (more_values DefaultValue (codes "false" ∷ [])) (default_row ∷ []) rs is

-- the first text of a row
abbrev first_text : Row → Option Text
first_text r = slice_get r.values 0

texts_first : (s : Said) → first_text (row_of s) ≡ Some (text_of s)
texts_first s = refl

texts_read : (s : Said) → row_text (row_of s) ≡ Some (text_of s)
texts_read s = refl

-- of any other name the matches hold what was said
option_held : (id : Text) (all : List Said) (b : Bool) → has_row (codes "summary") (rows all) ≡ b → bytes_eq (codes "summary") id ≡ false
    → first_of id (with_default (rows all) filled_summary) ≡ said id all
option_held id all true is other = ap (first_of id) (with_last (rows all) true is) ∙ found_said first_text texts_first id all
option_held id all false is other =
    ap (first_of id) (with_last (rows all) false is)
    ∙ found_before first_text texts_first id (rows all) default_row other
    ∙ found_said first_text texts_first id all

-- the summary's text is always the same
abbrev IsTrueText : Option Text → Type 0
IsTrueText None = Unit {0}
IsTrueText (Some t) = t ≡ codes "true"

true_text : (all : List Said) → IsTrueText (said (codes "summary") all)
true_text [] = tt
true_text (asks pages v ∷ all) = true_text all
true_text (asks page_words v ∷ all) = true_text all
true_text (asks markers v ∷ all) = true_text all
true_text (asks seed v ∷ all) = true_text all
true_text (asks count v ∷ all) = true_text all
true_text (sums_up ∷ all) = refl

-- and so it is that one, where there is one
flag_of : (o : Option Text) → IsTrueText o → is_some o ≡ true → o ≡ Some (codes "true")
flag_of None t e = absurd (true≢false (sym e))
flag_of (Some x) t e = ap (λ x. Some x) t

-- of `--summary` they hold whether it was said
summary_held : (all : List Said) (b : Bool) → is_some (said (codes "summary") all) ≡ b
    → one_of (codes "summary") (with_default (rows all) filled_summary) ≡ Some (cond b (codes "true") (codes "false"))
summary_held all true is =
    ap (one_of (codes "summary")) (with_last (rows all) true (has_row_said (codes "summary") all ∙ is))
    ∙ found_said row_text texts_read (codes "summary") all
    ∙ flag_of (said (codes "summary") all) (true_text all) is
summary_held all false is =
    ap (one_of (codes "summary")) (with_last (rows all) false (has_row_said (codes "summary") all ∙ is))
    ∙ found_last row_text texts_read (codes "summary") (rows all) default_row refl (has_row_said (codes "summary") all ∙ is)

-- the matches hold what was heard
pub holds : (found : Found) (all : List Said) → rows_of found ≡ with_default (rows all) filled_summary → Holds found (heard_of all)
holds found all is =
    let has = has_row (codes "summary") (rows all) in
    record {
      pages = first_value-rows found (codes "pages") ∙ ap (first_of (codes "pages")) is ∙ option_held (codes "pages") all has refl refl;
      page_words = first_value-rows found (codes "page-words") ∙ ap (first_of (codes "page-words")) is ∙ option_held (codes "page-words") all has refl refl;
      markers = first_value-rows found (codes "markers") ∙ ap (first_of (codes "markers")) is ∙ option_held (codes "markers") all has refl refl;
      summary = one_text-rows found (codes "summary") ∙ ap (one_of (codes "summary")) is ∙ summary_held all (is_some (said (codes "summary") all)) refl;
      seed = first_value-rows found (codes "generate") ∙ ap (first_of (codes "generate")) is ∙ option_held (codes "generate") all has refl refl;
      count = first_value-rows found (codes "count") ∙ ap (first_of (codes "count")) is ∙ option_held (codes "count") all has refl refl;
    }
