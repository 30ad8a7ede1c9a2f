-- What the words of a faultless line say: a command with numbers in their ranges, or a type of few fields.
use Rattle.std.proofs.Common.{◌≡◌, ◌≢◌, ℕ, ◌<◌, ◌≤◌, ◌||◌, ◌&&◌, Bool, true, false, cond, List, [], ◌∷◌, length, map, All, Option, Some, None, refl, sym, ap, ◌∙◌, subst, inl, inr, arith}
use Rattle.std.specs.Prelude.{codes, nat_lt, nat_le, is_some}
use Rattle.std.specs.Cmp.Lexicographic.{bytes_decides}
use Rattle.std.proofs.lemmas.Bool.{cases_Bool, and_cases, or_parts, not-false, true≢false, lt-ltb, ltb-false, leb-false, eqb-true}
use Rattle.std.proofs.lemmas.Option.{same_Some, none-some}
use Rattle.std.proofs.lemmas.List.{length-map}
use Rattle.gc_graph.specs.declared.command.Command.{Command}
use Rattle.gc_graph.specs.declared.kind.Kind.{Kind}
use Rattle.gc_graph.specs.State.{ObjectType}
use Rattle.gc_graph.specs.Fields.{field_words}
use Rattle.gc_graph.specs.Lawful.{IsAllowed}
use Rattle.gc_graph.specs.Words.{is_text}
use Rattle.gc_graph.specs.Forms.{Place, Form, form_of, line_form, type_places}
use Rattle.gc_graph.specs.Forms.Place.{Letters}
use Rattle.gc_graph.specs.Forms.Form.{Missing, Unknown, Known}
use Rattle.gc_graph.specs.Reasons.{Reason, Bounds, kind_of_letter, kinds_of, is_unknown, is_bad, is_outside, any_word, rest_of, first_is, is_half_null, has_unknown_word, has_bad_number, has_other_count, has_outside, has_too_many, is_too_large, is_any_too_large, reason_of_words, command_by, command_of_words, type_said, type_of_words}
use Rattle.gc_graph.specs.Reasons.Reason.{UnknownWord, BadNumber, Count, Range}
use Rattle.gc_graph.proofs.SaidNumbers.{fit}
use Rattle.gc_graph.proofs.AllowedForms.{IsAllowedForm, form_allowed}
use Rattle.gc_graph.proofs.TypeLists.{callbacks_are_known}

-- the words have none of the faults that words have by themselves
pub record AreFaultless (version : ℕ) (bounds : Bounds) (words : List (List ℕ)) : Type 0 where
  pub known : has_unknown_word (line_form version words) words ≡ false
  pub good : has_bad_number (line_form version words) words ≡ false
  pub count : has_other_count (line_form version words) words ≡ false
  pub inside : has_outside bounds (line_form version words) words ≡ false
  pub few : has_too_many bounds words ≡ false

if_none : (b : Bool) (reason : Reason) (other : Option Reason) → cond b (Some reason) other ≡ None → (b ≡ false) × (other ≡ None)
if_none true reason other e = absurd (none-some reason (sym e))
if_none false reason other e = (refl, e)

pub faultless : (version : ℕ) (bounds : Bounds) (words : List (List ℕ)) → reason_of_words version bounds words ≡ None → AreFaultless version bounds words
faultless version bounds words none =
    let form : Form = line_form version words in
    let known = if_none (has_unknown_word form words) UnknownWord _ none in
    let good = if_none (has_bad_number form words) BadNumber _ known.1 in
    let count = if_none (has_other_count form words) Count _ good.1 in
    let inside = if_none (has_outside bounds form words || has_too_many bounds words) Range None count.1 in
    let parts = or_parts (has_outside bounds form words) (has_too_many bounds words) inside.0 in
    record { known = known.0; good = good.0; count = count.0; inside = parts.0; few = parts.1 }

-- ---- a command

-- the form of a line whose first word isn't `type` is that of a command
pub form_is : (version : ℕ) (words : List (List ℕ)) → first_is (codes "type") words ≡ false → line_form version words ≡ form_of words
form_is version [] other = refl
form_is version (first ∷ rest) other = rw other refl

command_allowed_by : (bounds : Bounds) (types : ℕ) (words : List (List ℕ)) (form : Form) (c : Command) → bounds.types ≤ types
    → IsAllowedForm (record { types = types; callbacks = bounds.callbacks }) form → has_bad_number form words ≡ false → has_other_count form words ≡ false → has_outside bounds form words ≡ false
    → command_by form words ≡ Some c → IsAllowed types c
command_allowed_by bounds types words (Missing places) c low allowed good count inside e = absurd (none-some c e)
command_allowed_by bounds types words Unknown c low allowed good count inside e = absurd (none-some c e)
command_allowed_by bounds types words (Known places command) c low allowed good count inside e =
    let same : length (rest_of words) ≡ length places = eqb-true _ _ (not-false _ count) in
    allowed _ c (fit bounds types low places (rest_of words) same (or_parts (any_word is_bad places (rest_of words)) (is_half_null words) good).0 inside) e

-- a line of a type says no command
pub no_command : (words : List (List ℕ)) → first_is (codes "type") words ≡ true → command_of_words words ≡ None
no_command [] is = refl
no_command (first ∷ rest) is =
    ap (λ (word : List ℕ). command_of_words (word ∷ rest)) ((bytes_decides first (codes "type")).0 is)

pub command_allowed : (version : ℕ) (bounds : Bounds) (types : ℕ) (words : List (List ℕ)) (c : Command) → bounds.types ≤ types
    → AreFaultless version bounds words → command_of_words words ≡ Some c → IsAllowed types c
command_allowed version bounds types words c low f e = elim (cases_Bool (first_is (codes "type") words)) [
  | inl is ↦ absurd (none-some c (sym (no_command words is) ∙ e))
  | inr other ↦
      (let form = form_is version words other in
      command_allowed_by bounds types words (form_of words) c low
      (form_allowed (record { types = types; callbacks = bounds.callbacks }) words)
      (ap (λ form. has_bad_number form words) (sym form) ∙ f.good)
      (ap (λ form. has_other_count form words) (sym form) ∙ f.count)
      (ap (λ form. has_outside bounds form words) (sym form) ∙ f.inside) e)
]

-- ---- a type

-- few fields, and few prefinalizers and weak callbacks, which are callbacks; a weak callback is shown all words of the fields,
-- and in version 1 there is none
pub record IsGoodType (version callbacks : ℕ) (type : ObjectType) : Type 0 where
  pub narrow : length type.kinds ≤ 64
  pub few : length type.prefinalizers ≤ 16
  pub known : All (λ number. number < callbacks) type.prefinalizers
  pub few_weak : length type.weak_callbacks ≤ 16
  pub known_weak : All (λ number. number < callbacks) type.weak_callbacks
  pub shown : type.weak_callbacks ≢ [] → field_words type.kinds ≤ 64
  pub none_before : version ≡ 1 → type.weak_callbacks ≡ []

kinds_by : (word : List ℕ) (none : Bool) → length (cond none [] (map kind_of_letter word)) ≤ length word
kinds_by word true = omega arith
kinds_by word false = omega (arith, length-map word kind_of_letter)

kinds_few : (word : List ℕ) → length (kinds_of word) ≤ length word
kinds_few word = kinds_by word (is_text word (codes "-"))

type_form : (version : ℕ) (text : List ℕ) (rest : List (List ℕ)) → is_text text (codes "type") ≡ true
    → line_form version (text ∷ rest) ≡ Known (type_places version rest) (λ numbers. None)
type_form version text rest is = rw is refl

-- the type of a type line isn't too large, and before it stand fewer types than there can be
type_fits : (version : ℕ) (bounds : Bounds) (words : List (List ℕ)) → AreFaultless version bounds words → first_is (codes "type") words ≡ true
    → (is_any_too_large (type_of_words words) ≡ false) × (bounds.types < 16383)
type_fits version bounds words f is =
    elim (and_cases (first_is (codes "type") words) (is_any_too_large (type_of_words words) || nat_le 16383 bounds.types) f.few) [
      | inl other ↦ absurd (true≢false (sym is ∙ other))
      | inr small ↦
          (let parts = or_parts (is_any_too_large (type_of_words words)) (nat_le 16383 bounds.types) small in
          let low = leb-false _ _ parts.1 in (parts.0, omega arith))
    ]

-- fields of a type that isn't too large
words_shown : (callbacks : List ℕ) (kinds : List Kind) → (nat_lt 0 (length callbacks) && nat_lt 64 (field_words kinds)) ≡ false → callbacks ≢ []
    → field_words kinds ≤ 64
words_shown callbacks kinds small some = elim (and_cases (nat_lt 0 (length callbacks)) (nat_lt 64 (field_words kinds)) small) [
  | inl none ↦ absurd (some (no_callbacks callbacks none))
  | inr few ↦ ltb-false _ _ few
] where
  no_callbacks : (callbacks : List ℕ) → nat_lt 0 (length callbacks) ≡ false → callbacks ≡ []
  no_callbacks [] none = refl
  no_callbacks (callback ∷ more) none = absurd (true≢false (sym (lt-ltb 0 (length (callback ∷ more)) (omega arith)) ∙ none))

good_by : (version : ℕ) (bounds : Bounds) (first letters : List ℕ) (more : List (List ℕ)) → is_text first (codes "type") ≡ true
    → AreFaultless version bounds (first ∷ letters ∷ more) → is_too_large (type_said letters more) ≡ false
    → IsGoodType version bounds.callbacks (type_said letters more)
good_by version bounds first letters more is f fits =
    let form = type_form version first (letters ∷ more) is in
    let places : List Place = type_places version (letters ∷ more) in
    let u : any_word is_unknown places (letters ∷ more) ≡ false = rw form at f.known in
    let g : (any_word is_bad places (letters ∷ more) || is_half_null (first ∷ letters ∷ more)) ≡ false = rw form at f.good in
    let i : any_word (is_outside bounds) places (letters ∷ more) ≡ false = rw form at f.inside in
    let type : ObjectType = type_said letters more in
    let known = callbacks_are_known version bounds letters more u (or_parts (any_word is_bad places (letters ∷ more)) _ g).0 i in
    let many = or_parts (nat_lt 16 (length type.prefinalizers)) _ fits in
    let weak = or_parts (nat_lt 16 (length type.weak_callbacks)) _ many.1 in
    record {
      narrow = omega (arith, kinds_few letters, ltb-false _ _ (or_parts (nat_lt 64 (length letters)) _ i).0);
      few = ltb-false _ _ many.0;
      known = known.prefinalizers;
      few_weak = ltb-false _ _ weak.0;
      known_weak = known.weak_callbacks;
      shown = words_shown type.weak_callbacks type.kinds weak.1;
      none_before = known.none_before;
    }

type_by : (version : ℕ) (bounds : Bounds) (first letters : List ℕ) (more : List (List ℕ)) (type : ObjectType) (is : Bool) → is_text first (codes "type") ≡ is
    → AreFaultless version bounds (first ∷ letters ∷ more) → cond is (Some (type_said letters more)) None ≡ Some type
    → IsGoodType version bounds.callbacks type
type_by version bounds first letters more type true is f e =
    let some : type_of_words (first ∷ letters ∷ more) ≡ Some (type_said letters more) = rw is refl in
    subst (IsGoodType version bounds.callbacks) (same_Some _ type e)
    (good_by version bounds first letters more is f
    (ap is_any_too_large (sym some) ∙ (type_fits version bounds (first ∷ letters ∷ more) f is).0))
type_by version bounds first letters more type false is f e = absurd (none-some type e)

pub type_is_good : (version : ℕ) (bounds : Bounds) (words : List (List ℕ)) (type : ObjectType) → AreFaultless version bounds words
    → type_of_words words ≡ Some type → IsGoodType version bounds.callbacks type
type_is_good version bounds [] type f e = absurd (none-some type e)
type_is_good version bounds (first ∷ []) type f e = absurd (none-some type e)
type_is_good version bounds (first ∷ letters ∷ more) type f e = type_by version bounds first letters more type (is_text first (codes "type")) refl f e

some_by : (type : ObjectType) (is : Bool) → is ≡ is_some (cond is (Some type) None)
some_by type true = refl
some_by type false = refl

-- one word is no type line
one_word : (version : ℕ) (bounds : Bounds) (first : List ℕ) (is : Bool) → is_text first (codes "type") ≡ is
    → AreFaultless version bounds (first ∷ []) → is ≡ false
one_word version bounds first true is f =
    let short : has_other_count (Known (Letters ∷ []) (λ numbers. None)) (first ∷ []) ≡ false = rw (type_form version first [] is) at f.count in
    absurd (true≢false short)
one_word version bounds first false is f = refl

-- a line of a type says one
pub type_lines_say : (version : ℕ) (bounds : Bounds) (words : List (List ℕ)) → AreFaultless version bounds words
    → first_is (codes "type") words ≡ is_some (type_of_words words)
type_lines_say version bounds [] f = refl
type_lines_say version bounds (first ∷ []) f = one_word version bounds first (is_text first (codes "type")) refl f
type_lines_say version bounds (first ∷ letters ∷ more) f = some_by (type_said letters more) (is_text first (codes "type"))

-- before a type line stand fewer types than there can be
pub room_for_type : (version : ℕ) (bounds : Bounds) (words : List (List ℕ)) → AreFaultless version bounds words
    → first_is (codes "type") words ≡ true → bounds.types < 16383
room_for_type version bounds words f is = (type_fits version bounds words f is).1
