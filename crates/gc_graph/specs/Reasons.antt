-- What is wrong with the words of a line, and what they say where nothing is.
use Rattle.std.specs.Prelude.{ℕ, suc, ◌==◌, ◌&&◌, ◌||◌, not, nat_lt, nat_le, Bool, true, false, List, [], ◌∷◌, ◌++◌, length, map, drop, Option, Some, None, if◌then◌else◌, codes}
use Rattle.std.specs.List.{list_all, list_any}
use Rattle.gc_graph.specs.declared.command.Command.{Command}
use Rattle.gc_graph.specs.declared.kind.Kind.{Kind}
use Rattle.gc_graph.specs.declared.kind.Kind.TheVariants.{Strong, Weak, Pair, Plain}
use Rattle.gc_graph.specs.State.{ObjectType}
use Rattle.gc_graph.specs.Fields.{field_words}
use Rattle.gc_graph.specs.Words.{is_text, is_number, value_after}
use Rattle.gc_graph.specs.Forms.{Place, Form, before_weak, from_weak, form_of, line_form}
use Rattle.gc_graph.specs.Forms.Place.{Fixed, Either, Letters, Number, NumberOr, TypeNumber, Callback}
use Rattle.gc_graph.specs.Forms.Form.{Missing, Unknown, Known}

-- why a line is faulty, from the lowest number to the highest
pub data Reason : Type 0 where
  Header : Reason
  UnknownWord : Reason
  BadNumber : Reason
  Count : Reason
  Range : Reason
  Order : Reason
  Section : Reason
  TooLong : Reason

-- the number of a reason, as a fault tells it
abbrev pub number_of : Reason → ℕ
number_of Header = 1
number_of UnknownWord = 2
number_of BadNumber = 3
number_of Count = 4
number_of Range = 5
number_of Order = 6
number_of Section = 7
number_of TooLong = 8

-- how many types the lines before declare, and how many callbacks there are
pub record Bounds : Type 0 where
  pub types : ℕ
  pub callbacks : ℕ

-- the value of a word that is a number
abbrev pub value_of : List ℕ → ℕ
value_of word = value_after 0 word

-- ---- the letters of a type

-- a byte that stands for a kind of field
abbrev pub is_letter : ℕ → Bool
is_letter b = list_any (λ letter. b == letter) (codes "SWEP")

-- letters out of these four, or `-` for none
abbrev pub are_letters : List ℕ → Bool
are_letters word = is_text word (codes "-") || list_all is_letter word

-- the kind for which a letter stands
abbrev pub kind_of_letter : ℕ → Kind
kind_of_letter b = if b == 83 then Strong else if b == 87 then Weak else if b == 69 then Pair else Plain

-- the kinds for which the letters of a type line stand, in order
abbrev pub kinds_of : List ℕ → List Kind
kinds_of word = if is_text word (codes "-") then [] else map kind_of_letter word

-- ---- one word at its place

-- neither the fixed word nor letters
abbrev pub is_unknown : Place → List ℕ → Bool
is_unknown (Fixed text) word = not (is_text word text)
is_unknown (Either one other) word = not (is_text word one || is_text word other)
is_unknown Letters word = not (are_letters word)
is_unknown (Number from limit) word = false
is_unknown (NumberOr text from limit) word = false
is_unknown TypeNumber word = false
is_unknown Callback word = false

-- no number, nor the word in its stead
abbrev pub is_bad : Place → List ℕ → Bool
is_bad (Fixed text) word = false
is_bad (Either one other) word = false
is_bad Letters word = false
is_bad (Number from limit) word = not (is_number word)
is_bad (NumberOr text from limit) word = not (is_text word text || is_number word)
is_bad TypeNumber word = not (is_number word)
is_bad Callback word = not (is_number word)

-- a number that is out of this range
abbrev pub is_beyond : ℕ → ℕ → List ℕ → Bool
is_beyond from limit word = is_number word && not (nat_le from (value_of word) && nat_lt (value_of word) limit)

-- the word says a number that is out of the range of its place, or has more letters than a type may have
abbrev pub is_outside : Bounds → Place → List ℕ → Bool
is_outside bounds (Fixed text) word = false
is_outside bounds (Either one other) word = false
is_outside bounds Letters word = nat_lt 64 (length word)
is_outside bounds (Number from limit) word = is_beyond from limit word
is_outside bounds (NumberOr text from limit) word = is_beyond from limit word
is_outside bounds TypeNumber word = is_beyond 0 bounds.types word
is_outside bounds Callback word = is_beyond 0 bounds.callbacks word

-- the numbers that a word says
abbrev pub says : Place → List ℕ → List ℕ
says (Fixed text) word = []
says (Either one other) word = (if is_text word one then 0 else 1) ∷ []
says Letters word = []
says (Number from limit) word = value_of word ∷ []
says (NumberOr text from limit) word = (if is_text word text then 0 else suc (value_of word)) ∷ []
says TypeNumber word = value_of word ∷ []
says Callback word = value_of word ∷ []

-- ---- the words of a line

-- some word that is there is so at its place
abbrev pub any_word : (Place → List ℕ → Bool) → List Place → List (List ℕ) → Bool
any_word is_so [] words = false
any_word is_so (place ∷ places) [] = false
any_word is_so (place ∷ places) (word ∷ words) = is_so place word || any_word is_so places words

-- the numbers that the words say at their places, in order
abbrev pub all_say : List Place → List (List ℕ) → List ℕ
all_say [] words = []
all_say (place ∷ places) [] = []
all_say (place ∷ places) (word ∷ words) = says place word ++ all_say places words

-- the words after the first
abbrev pub rest_of : List (List ℕ) → List (List ℕ)
rest_of words = drop 1 words

-- the first word is this one
abbrev pub first_is : List ℕ → List (List ℕ) → Bool
first_is text [] = false
first_is text (word ∷ words) = is_text word text

-- one of the two is null and the other a number
abbrev pub is_half : List ℕ → List ℕ → Bool
is_half k v = (is_text k (codes "-") && is_number v) || (is_number k && is_text v (codes "-"))

-- a pair of which one is null and the other a slot
abbrev pub is_half_null : List (List ℕ) → Bool
is_half_null (first ∷ p ∷ f ∷ k ∷ v ∷ more) = is_text first (codes "pair") && is_half k v
is_half_null words = false

-- ---- the type that a line says

-- the numbers that stand after the name of a list
abbrev pub numbers_of : List (List ℕ) → List ℕ
numbers_of list = map value_of (drop 1 list)

-- the type of these letters; its prefinalizers stand after `pre`, its weak callbacks after `weak`
abbrev pub type_said : List ℕ → List (List ℕ) → ObjectType
type_said letters more = record {
  kinds = kinds_of letters;
  prefinalizers = numbers_of (before_weak more);
  weak_callbacks = numbers_of (from_weak more);
}

-- the type that the words of a line say
abbrev pub type_of_words : List (List ℕ) → Option ObjectType
type_of_words [] = None
type_of_words (first ∷ []) = None
type_of_words (first ∷ letters ∷ more) = if is_text first (codes "type") then Some (type_said letters more) else None

-- over 16 prefinalizers, over 16 weak callbacks, or at least one of these and fields of over 64 words
abbrev pub is_too_large : ObjectType → Bool
is_too_large type =
    nat_lt 16 (length type.prefinalizers)
    || (nat_lt 16 (length type.weak_callbacks) || (nat_lt 0 (length type.weak_callbacks) && nat_lt 64 (field_words type.kinds)))

-- a type, if there is one, is too large
abbrev pub is_any_too_large : Option ObjectType → Bool
is_any_too_large None = false
is_any_too_large (Some type) = is_too_large type

-- ---- what is wrong

-- some word is none of those that may stand there, or chooses no form
abbrev pub has_unknown_word : Form → List (List ℕ) → Bool
has_unknown_word (Missing places) words = any_word is_unknown places (rest_of words)
has_unknown_word Unknown words = true
has_unknown_word (Known places command) words = any_word is_unknown places (rest_of words)

-- some word is no number where one should be, or a pair is half null
abbrev pub has_bad_number : Form → List (List ℕ) → Bool
has_bad_number (Missing places) words = any_word is_bad places (rest_of words)
has_bad_number Unknown words = false
has_bad_number (Known places command) words = any_word is_bad places (rest_of words) || is_half_null words

-- there are fewer or more words than the form has
abbrev pub has_other_count : Form → List (List ℕ) → Bool
has_other_count (Missing places) words = true
has_other_count Unknown words = false
has_other_count (Known places command) words = not (length (rest_of words) == length places)

-- some number is out of its range
abbrev pub has_outside : Bounds → Form → List (List ℕ) → Bool
has_outside bounds (Missing places) words = any_word (is_outside bounds) places (rest_of words)
has_outside bounds Unknown words = false
has_outside bounds (Known places command) words = any_word (is_outside bounds) places (rest_of words)

-- a type line whose type is too large, or before which stand 16,383
abbrev pub has_too_many : Bounds → List (List ℕ) → Bool
has_too_many bounds words = first_is (codes "type") words && (is_any_too_large (type_of_words words) || nat_le 16383 bounds.types)

-- the lowest reason that words give by themselves, in this form
abbrev pub reason_by_form : Bounds → Form → List (List ℕ) → Option Reason
reason_by_form bounds form words =
    if has_unknown_word form words then Some UnknownWord
    else if has_bad_number form words then Some BadNumber
    else if has_other_count form words then Some Count
    else if has_outside bounds form words || has_too_many bounds words then Some Range
    else None

-- the lowest reason that the words of a command give by themselves
abbrev pub reason_of_command : Bounds → List (List ℕ) → Option Reason
reason_of_command bounds words = reason_by_form bounds (form_of words) words

-- the lowest reason that the words of a line give by themselves, in a version of the grammar
abbrev pub reason_of_words : ℕ → Bounds → List (List ℕ) → Option Reason
reason_of_words version bounds words = reason_by_form bounds (line_form version words) words

-- ---- what the words say

-- the command that the words of a form say
abbrev pub command_by : Form → List (List ℕ) → Option Command
command_by (Missing places) words = None
command_by Unknown words = None
command_by (Known places command) words = command (all_say places (rest_of words))

-- the command that the words of a line say
abbrev pub command_of_words : List (List ℕ) → Option Command
command_of_words words = command_by (form_of words) words
