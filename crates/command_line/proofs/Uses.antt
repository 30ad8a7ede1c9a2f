-- What a use of an option does to the rows.
use Rattle.std.proofs.Common.{◌≡◌, ◌∙◌, ◌&&◌, ◌||◌, Bool, true, false, true≢false, List, [], ◌∷◌, ◌++◌, map, Option, Some, None, refl, sym, subst, ap, codes, cond, is_some}
use Rattle.std.proofs.lemmas.Bool.{or_parts}
use Rattle.std.proofs.lemmas.List.{append-nil, map-append}
use Rattle.std.specs.Prelude.{option_and_then, option_map}
use Rattle.std.specs.Option.{option_map_or}
use Rattle.std.specs.Str.{bytes_eq}
use Rattle.clap.specs.Kinds.{Kinds, or_else}
use Rattle.clap.specs.Walk.{Held, Row, Rule, Text, arg_by_id, at_row, has_row, more_values, reacted, settled, used, used_by_id, with_values, without}
use Rattle.clap.specs.Faults.{react_fault, settle_fault, use_fault}
use Rattle.clap.specs.declared.builder.value_parser.Reading.TheVariants.{AsWritten}
use Rattle.clap.specs.declared.parser.matches.ValueSource.TheVariants.{CommandLine}
use Rattle.clap.specs.declared.error.kind.ErrorKind.TheVariants as kind
use Rattle.command_line.proofs.Built.{filled_option, filled_summary, held, rules}
use Rattle.command_line.proofs.Said.{Key, Said, pages, page_words, markers, seed, count, asks, sums_up, key_name, name_of, text_of, said, add}

-- something is refused
abbrev pub has_some : Kinds → Bool
has_some [] = false
has_some (k ∷ ks) = true

-- what is refused first is refused
pub some_first : (a b : Kinds) → has_some a ≡ true → has_some (or_else a b) ≡ true
some_first [] b e = absurd (true≢false (sym e))
some_first (k ∷ ks) b e = refl

-- nothing more is refused
pub or_nothing : (a : Kinds) → or_else a [] ≡ a
or_nothing [] = refl
or_nothing (k ∷ ks) = refl

-- where nothing is refused there is no kind of refusal
pub no_kinds : (a : Kinds) → has_some a ≡ false → a ≡ []
no_kinds [] e = refl
no_kinds (k ∷ ks) e = absurd (true≢false e)

-- the row of what is said
abbrev pub row_of : Said → Row
row_of s = record { id = name_of s; values = text_of s ∷ []; count = None; source = Some CommandLine; reading = AsWritten }

-- the rows of all that is said
abbrev pub rows : List Said → List Row
rows = map row_of

-- the first text or a later one
or_some : (b : Bool) (x : Bool) (t : Text) (o : Option Text) → x ≡ is_some o → (b || x) ≡ is_some (cond b (Some t) o)
or_some true x t o e = refl
or_some false x t o e = e

-- a name has a row just where it was said
pub has_row_said : (id : Text) (all : List Said) → has_row id (rows all) ≡ is_some (said id all)
has_row_said id [] = refl
has_row_said id (s ∷ all) = or_some (bytes_eq (name_of s) id) (has_row id (rows all)) (text_of s) (said id all) (has_row_said id all)

-- where a name has no row, one is added at the end
pub at_end : (id : Text) (change : Row → List Row) (missing : List Row) (rs : List Row) → has_row id rs ≡ false → at_row id change missing rs ≡ rs ++ missing
at_end id change missing [] e = refl
at_end id change missing (r ∷ rs) e =
    let two = or_parts (bytes_eq r.id id) (has_row id rs) e in
    ap (λ b. cond b (change r ++ rs) (r ∷ at_row id change missing rs)) two.0
    ∙ ap (λ xs. r ∷ xs) (at_end id change missing rs two.1)

-- ---- the use that says it

-- the rule of its option
abbrev pub rule_for : Said → Rule
rule_for (asks k v) = filled_option (key_name k)
rule_for sums_up = filled_summary

-- the values that it gives
abbrev pub values_for : Said → List Text
values_for (asks k v) = v ∷ []
values_for sums_up = []

-- a use of a name without a row adds its row
added : (s : Said) (rs : List Row) → has_row (name_of s) rs ≡ false → with_values (name_of s) AsWritten CommandLine (text_of s ∷ []) (without (name_of s) rs) ≡ rs ++ row_of s ∷ []
added s rs none =
    ap (with_values (name_of s) AsWritten CommandLine (text_of s ∷ [])) (at_end (name_of s) (λ _. []) [] rs none ∙ append-nil rs)
    ∙ at_end (name_of s) (more_values CommandLine (text_of s ∷ [])) (row_of s ∷ []) rs none

used_row : (s : Said) (rs : List Row) → has_row (name_of s) rs ≡ false → used (rule_for s) (values_for s) rs ≡ rs ++ row_of s ∷ []
used_row (asks k v) rs none = added (asks k v) rs none
used_row sums_up rs none = added sums_up rs none

-- a name that has a row is refused
repeats : (b : Bool) → has_some (or_else (cond (b && true) (kind.ArgumentConflict ∷ []) []) []) ≡ b
repeats true = refl
repeats false = refl

use_fails : (s : Said) (rs : List Row) → has_some (use_fault false (rule_for s) (values_for s) rs) ≡ has_row (name_of s) rs
use_fails (asks k v) rs = repeats (has_row (key_name k) rs)
use_fails sums_up rs = repeats (has_row (codes "summary") rs)

-- what a use comes to: refused, or one row more
abbrev pub ComesTo : Kinds → List Row → Option (List Said) → Type 0
ComesTo fault now None = has_some fault ≡ true
ComesTo fault now (Some all) = (fault ≡ []) × (now ≡ rows all)

-- a use is refused where the name was said, and else says one more
use_as : (b : Bool) (s : Said) (all : List Said) → is_some (said (name_of s) all) ≡ b
    → ComesTo (use_fault false (rule_for s) (values_for s) (rows all)) (used (rule_for s) (values_for s) (rows all)) (cond b None (Some (all ++ s ∷ [])))
use_as true s all is = use_fails s (rows all) ∙ has_row_said (name_of s) all ∙ is
use_as false s all is = (
  no_kinds (use_fault false (rule_for s) (values_for s) (rows all)) (use_fails s (rows all) ∙ has_row_said (name_of s) all ∙ is),
  used_row s (rows all) (has_row_said (name_of s) all ∙ is) ∙ sym (map-append row_of all (s ∷ [])),
)

-- a use comes to what was said and this
pub use_comes : (s : Said) (all : List Said) → ComesTo (use_fault false (rule_for s) (values_for s) (rows all)) (used (rule_for s) (values_for s) (rows all)) (add s all)
use_comes s all = use_as (is_some (said (name_of s) all)) s all refl

-- ---- the use that is still pending

-- the option whose text was given and not yet used
abbrev pub pend : Option (Key × Text) → Option (Text × List Text)
pend = option_map (λ p. (key_name p.0, p.1 ∷ []))

-- what is held after all this was said, with such an option
abbrev pub at : List Said → Option (Key × Text) → Held
at all p = held (rows all) (pend p)

-- all that was said, with that of the option too
abbrev pub settles : List Said → Option (Key × Text) → Option (List Said)
settles all None = Some all
settles all (Some p) = add (asks p.0 p.1) all

-- each option with a value is found by its name
pub by_id : (k : Key) → arg_by_id rules (key_name k) ≡ Some (filled_option (key_name k))
by_id pages = refl
by_id page_words = refl
by_id markers = refl
by_id seed = refl
by_id count = refl

-- to settle comes to that
pub settle_comes : (all : List Said) (p : Option (Key × Text)) → ComesTo (settle_fault rules false (at all p)) (settled rules (at all p)).rows (settles all p)
settle_comes all None = (refl, refl)
settle_comes all (Some p) =
    subst (λ (a : Option Rule). ComesTo (option_map_or (λ a. use_fault false a (p.1 ∷ []) (rows all)) a []) (used_by_id a (p.1 ∷ []) (rows all)) (add (asks p.0 p.1) all))
    (sym (by_id p.0)) (use_comes (asks p.0 p.1) all)

-- a use after what is pending
react_after : (s : Said) (fault : Kinds) (now : List Row) (r : Option (List Said)) → ComesTo fault now r
    → ComesTo (or_else fault (use_fault false (rule_for s) (values_for s) now)) (used (rule_for s) (values_for s) now) (option_and_then (add s) r)
react_after s fault now None bad = some_first fault (use_fault false (rule_for s) (values_for s) now) bad
react_after s fault now (Some all) good =
    subst (λ (rs : List Row). ComesTo (or_else fault (use_fault false (rule_for s) (values_for s) rs)) (used (rule_for s) (values_for s) rs) (add s all)) (sym good.1)
    (subst (λ (f : Kinds). ComesTo (or_else f (use_fault false (rule_for s) (values_for s) (rows all))) (used (rule_for s) (values_for s) (rows all)) (add s all)) (sym good.0) (use_comes s all))

-- to settle and then say one more comes to that
pub react_comes : (s : Said) (all : List Said) (p : Option (Key × Text))
    → ComesTo (react_fault rules false (rule_for s) (values_for s) (at all p)) (reacted rules (rule_for s) (values_for s) (at all p)).rows (option_and_then (add s) (settles all p))
react_comes s all p = react_after s (settle_fault rules false (at all p)) (settled rules (at all p)).rows (settles all p) (settle_comes all p)
