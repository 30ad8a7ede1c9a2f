-- What a word does in the walk of `clap`: where the walk is after it, and what is refused of it.
use Rattle.std.proofs.Common.{◌≡◌, ◌∙◌, ℕ, Bool, true, false, List, [], ◌∷◌, length, Option, Some, None, refl, ap, cond}
use Rattle.std.specs.Prelude.{slice_get, is_some, nat_lt}
use Rattle.std.specs.Option.{option_map_or}
use Rattle.std.specs.Str.{bytes_eq, chars}
use Rattle.clap.specs.Lexer.{long_of, short_of, name_and_value}
use Rattle.clap.specs.Kinds.{Kinds, or_else}
use Rattle.clap.specs.Walk.{Held, Outcome, Row, Rule, Step, Text, Waiting, Walk, after_flag, after_step, arg_by_id, arg_by_long, bundle, bundle_met, bundle_step, long_or_other, trailing, idle, long_met, next, option, option_word, plain, plain_word, reacted, settled, short_or_plain, takes_values, walked}
use Rattle.clap.specs.Faults.{bundle_fault, bundle_step_fault, flag_word_fault, flags_fault, long_fault, option_fault, react_fault, settle_fault, step_fault, turn_fault, use_fault}
use Rattle.clap.specs.declared.error.kind.ErrorKind.TheVariants as kind
use Rattle.command_line.proofs.Built.{filled_option, filled_summary, held, idle_at, rules, shape, wait_at}
use Rattle.command_line.proofs.Uses.{has_some, or_nothing, some_first}

-- two dashes, and something behind them
abbrev dashed_word : ℕ → Text → Text
dashed_word x xs = 45 ∷ 45 ∷ x ∷ xs

-- the step of such a word, where its name has this rule
abbrev long_step : Waiting → Text → Option Text → Held → Option Rule → Held × Step
long_step waiting w v h rule = after_flag rules waiting w (long_met rules rule v h).0 (long_met rules rule v h).1

-- the walk after a step
abbrev goes : Text → Walk → Held × Step → Walk
goes w walk met = after_step rules w walk met.0 met.1

-- what is refused of a word, and then of its step
abbrev refusals : Kinds → Held × Step → Kinds
refusals fault met = or_else fault (step_fault shape 1 met.0 met.1)

refused_first : (fault : Kinds) (met : Held × Step) → has_some fault ≡ true → has_some (refusals fault met) ≡ true
refused_first fault met e = some_first fault (step_fault shape 1 met.0 met.1) e

-- ---- `--name` and `--name=value`

module _ (x : ℕ) (xs : Text) (n : Text) (v : Option Text) (h : Held) (is : name_and_value (x ∷ xs) ≡ (n, v)) where
  walks : walked rules [] (idle_at h) (dashed_word x xs) ≡ goes (dashed_word x xs) (idle_at h) (long_step idle (dashed_word x xs) v h (arg_by_long rules n))
  unfolding walked
  walks = ap (λ q. goes (dashed_word x xs) (idle_at h) (long_step idle (dashed_word x xs) q.1 h (arg_by_long rules q.0))) is

  fails : turn_fault shape [] (idle_at h) (dashed_word x xs)
      ≡ refusals (long_fault rules false (arg_by_long rules n) v h) (long_step idle (dashed_word x xs) v h (arg_by_long rules n))
  fails = ap (λ q. refusals (long_fault rules false (arg_by_long rules q.0) q.1 h) (long_step idle (dashed_word x xs) q.1 h (arg_by_long rules q.0))) is

  -- the same, where the rule of its name is known
  walks_by : (rule : Option Rule) → arg_by_long rules n ≡ rule → walked rules [] (idle_at h) (dashed_word x xs)
      ≡ goes (dashed_word x xs) (idle_at h) (long_step idle (dashed_word x xs) v h rule)
  walks_by rule found = walks ∙ ap (λ rule. goes (dashed_word x xs) (idle_at h) (long_step idle (dashed_word x xs) v h rule)) found

  fails_by : (rule : Option Rule) → arg_by_long rules n ≡ rule → turn_fault shape [] (idle_at h) (dashed_word x xs)
      ≡ refusals (long_fault rules false rule v h) (long_step idle (dashed_word x xs) v h rule)
  fails_by rule found = fails ∙ ap (λ rule. refusals (long_fault rules false rule v h) (long_step idle (dashed_word x xs) v h rule)) found

  -- the name of no option is refused
  pub unknown_fails : arg_by_long rules n ≡ None → has_some (turn_fault shape [] (idle_at h) (dashed_word x xs)) ≡ true
  unknown_fails none = ap has_some (fails_by None none)

-- an option whose value is to follow
module _ (x : ℕ) (xs : Text) (n name : Text) (h : Held) (is : name_and_value (x ∷ xs) ≡ (n, None)) (found : arg_by_long rules n ≡ Some (filled_option name)) where
  pub apart_walks : walked rules [] (idle_at h) (dashed_word x xs) ≡ wait_at name (record (settled rules h) { pending = Some (name, []) })
  apart_walks = walks_by x xs n None h is (Some (filled_option name)) found

  pub apart_fails : turn_fault shape [] (idle_at h) (dashed_word x xs) ≡ settle_fault rules false h
  apart_fails = fails_by x xs n None h is (Some (filled_option name)) found ∙ or_nothing (settle_fault rules false h)

-- an option with its value
module _ (x : ℕ) (xs : Text) (n name t : Text) (h : Held) (is : name_and_value (x ∷ xs) ≡ (n, Some t)) (found : arg_by_long rules n ≡ Some (filled_option name)) where
  pub joined_walks : walked rules [] (idle_at h) (dashed_word x xs) ≡ idle_at (reacted rules (filled_option name) (t ∷ []) h)
  joined_walks = walks_by x xs n (Some t) h is (Some (filled_option name)) found

  pub joined_fails : turn_fault shape [] (idle_at h) (dashed_word x xs) ≡ react_fault rules false (filled_option name) (t ∷ []) h
  joined_fails = fails_by x xs n (Some t) h is (Some (filled_option name)) found ∙ or_nothing (react_fault rules false (filled_option name) (t ∷ []) h)

-- `--summary`, which takes no value
module _ (x : ℕ) (xs : Text) (n : Text) (h : Held) (found : arg_by_long rules n ≡ Some filled_summary) where
  pub summary_walks : name_and_value (x ∷ xs) ≡ (n, None) → walked rules [] (idle_at h) (dashed_word x xs) ≡ idle_at (reacted rules filled_summary [] h)
  summary_walks is = walks_by x xs n None h is (Some filled_summary) found

  pub summary_fails : name_and_value (x ∷ xs) ≡ (n, None) → turn_fault shape [] (idle_at h) (dashed_word x xs) ≡ react_fault rules false filled_summary [] h
  summary_fails is = fails_by x xs n None h is (Some filled_summary) found ∙ or_nothing (react_fault rules false filled_summary [] h)

  pub summary_with_value_fails : (t : Text) → name_and_value (x ∷ xs) ≡ (n, Some t) → has_some (turn_fault shape [] (idle_at h) (dashed_word x xs)) ≡ true
  summary_with_value_fails t is = ap has_some (fails_by x xs n (Some t) h is (Some filled_summary) found)

-- ---- a word after two dashes where a value is wanted

no_value_yet : (b : Bool) (r : Rule) (v : Option Text) (h : Held) → has_some (settle_fault rules false h) ≡ true
    → has_some (cond b (option_fault rules false r v h) (cond (is_some v) (kind.TooManyValues ∷ []) (react_fault rules false r [] h))) ≡ true
no_value_yet true r (Some t) h e = some_first (settle_fault rules false h) (use_fault false r (t ∷ []) (settled rules h).rows) e
no_value_yet true r None h e = e
no_value_yet false r (Some t) h e = refl
no_value_yet false r None h e = some_first (settle_fault rules false h) (use_fault false r [] (settled rules h).rows) e

long_in_vain : (a : Option Rule) (v : Option Text) (h : Held) → has_some (settle_fault rules false h) ≡ true → has_some (long_fault rules false a v h) ≡ true
long_in_vain None v h e = refl
long_in_vain (Some r) v h e = no_value_yet (takes_values r) r v h e

-- a value of an option can't be a word that begins with two dashes
pub dashes_fail : (x : ℕ) (xs : Text) (name : Text) (h : Held) → has_some (settle_fault rules false h) ≡ true
    → has_some (turn_fault shape [] (wait_at name h) (dashed_word x xs)) ≡ true
dashes_fail x xs name h e =
    let q = name_and_value (x ∷ xs) in
    let rule = arg_by_long rules q.0 in
    refused_first (long_fault rules false rule q.1 h) (long_step (option name) (dashed_word x xs) q.1 h rule) (long_in_vain rule q.1 h e)

-- ---- a word that does not begin with two dashes

-- a bundle of flags is refused, or is no flag
data Vain (fault : Kinds) (h : Held) (met : Held × Outcome) : Type 0 where
  refuses : has_some fault ≡ true → Vain fault h met
  passes : fault ≡ [] → met ≡ (h, plain) → Vain fault h met

first_flag : (o : Option ℕ) (flags : Text) (k : ℕ) (h : Held)
    → Vain (bundle_step_fault rules false o flags 0 h (flags_fault rules false k)) h (bundle_step rules o flags 0 plain h (bundle_met rules k))
first_flag None flags k h = passes refl refl
first_flag (Some c) flags k h = refuses refl

vain : (flags : Text) (rs : List Row) (p : Option (Text × List Text)) → Vain (bundle_fault rules false flags (held rs p)) (held rs p) (bundle rules flags (held rs p))
unfolding bundle_met flags_fault
vain [] rs p = passes refl refl
vain (y ∷ ys) rs p = first_flag (slice_get (chars (y ∷ ys)) 0) (y ∷ ys) (length ys) (held rs p)

-- the step of such a word: two dashes alone or not, with a name after two dashes or without one
abbrev other_step : Waiting → Text → Held → Bool → Option (Text × Option Text) → Held × Step
other_step waiting w h b l = cond b (h, trailing 1) (long_or_other rules waiting w l h)

abbrev other_failing : Waiting → Text → Held → Bool → Option (Text × Option Text) → Kinds
other_failing waiting w h b l = refusals (cond b [] (flag_word_fault rules false l w h)) (other_step waiting w h b l)

-- what is refused of a word with this behind one dash
abbrev short_failing : Waiting → Text → Held → Option Text → Kinds
short_failing waiting w h o = refusals (option_map_or (λ flags. bundle_fault rules false flags h) o []) (short_or_plain rules waiting w o h)

-- the step of flags that were met so
abbrev flags_step : Waiting → Text → Held × Outcome → Held × Step
flags_step waiting w met = after_flag rules waiting w met.0 met.1

-- with no option waiting, it is refused
stray : (o : Option Text) (w : Text) (rs : List Row) (p : Option (Text × List Text)) → has_some (short_failing idle w (held rs p) o) ≡ true
stray None w rs p = refl
stray (Some flags) w rs p = elim (vain flags rs p) as (λ _. has_some (short_failing idle w (held rs p) (Some flags)) ≡ true) [
  | refuses bad ↦ refused_first (bundle_fault rules false flags (held rs p)) (short_or_plain rules idle w (Some flags) (held rs p)) bad
  | passes none met ↦ ap has_some (λ i. refusals (none i) (flags_step idle w (met i)))
]

pub stray_fails : (w : Text) (rs : List Row) (p : Option (Text × List Text)) → long_of w ≡ None → bytes_eq w (45 ∷ 45 ∷ []) ≡ false
    → has_some (turn_fault shape [] (idle_at (held rs p)) w) ≡ true
stray_fails w rs p short other = ap has_some (λ i. other_failing idle w (held rs p) (other i) (short i)) ∙ stray (short_of w) w rs p

-- what a word does as a value: it is refused, and begins with a dash, or it is the value
pub data Values (w name : Text) (rs : List Row) : Type 0 where
  refuses_it : (flags : Text) → short_of w ≡ Some flags → has_some (turn_fault shape [] (wait_at name (held rs (Some (name, [])))) w) ≡ true → Values w name rs
  takes_it : turn_fault shape [] (wait_at name (held rs (Some (name, [])))) w ≡ []
      → walked rules [] (wait_at name (held rs (Some (name, [])))) w ≡ idle_at (held rs (Some (name, w ∷ []))) → Values w name rs

module _ (w name : Text) (rs : List Row) (found : arg_by_id rules name ≡ Some (filled_option name)) (same : bytes_eq name name ≡ true)
    (short : long_of w ≡ None) (other : bytes_eq w (45 ∷ 45 ∷ []) ≡ false) where
  -- what is held while the value is awaited
  abbrev h : Held
  h = held rs (Some (name, []))

  value_is : plain_word rules (option name) w h ≡ (held rs (Some (name, w ∷ [])), next idle)
  value_is =
      ap (λ a. ((option_word a name w h).0, next (option_word a name w h).1)) found
      ∙ ap (λ b. (held rs (Some (name, w ∷ [])), next (cond (nat_lt (cond b 1 0) 1) (option name) idle))) same

  fails_as : turn_fault shape [] (wait_at name h) w ≡ short_failing (option name) w h (short_of w)
  fails_as = λ i. other_failing (option name) w h (other i) (short i)

  walks_as : walked rules [] (wait_at name h) w ≡ goes w (wait_at name h) (short_or_plain rules (option name) w (short_of w) h)
  unfolding walked
  walks_as = λ i. goes w (wait_at name h) (other_step (option name) w h (other i) (short i))

  value_by : (o : Option Text) → short_of w ≡ o → Values w name rs
  value_by None is = takes_it
      (fails_as ∙ ap (short_failing (option name) w h) is ∙ ap (λ met. step_fault shape 1 met.0 met.1) value_is)
      (walks_as ∙ ap (λ o. goes w (wait_at name h) (short_or_plain rules (option name) w o h)) is ∙ ap (goes w (wait_at name h)) value_is)
  value_by (Some flags) is = elim (vain flags rs (Some (name, []))) as (λ _. Values w name rs) [
    | refuses bad ↦ refuses_it flags is (ap has_some (fails_as ∙ ap (short_failing (option name) w h) is)
        ∙ refused_first (bundle_fault rules false flags h) (short_or_plain rules (option name) w (Some flags) h) bad)
    | passes none met ↦ takes_it
        (fails_as ∙ ap (short_failing (option name) w h) is
        ∙ (λ i. refusals (none i) (flags_step (option name) w (met i)))
        ∙ ap (λ met. step_fault shape 1 met.0 met.1) value_is)
        (walks_as ∙ ap (λ o. goes w (wait_at name h) (short_or_plain rules (option name) w o h)) is
        ∙ ap (λ met. goes w (wait_at name h) (flags_step (option name) w met)) met
        ∙ ap (goes w (wait_at name h)) value_is)
  ]

  pub value_read : Values w name rs
  value_read = value_by (short_of w) refl
