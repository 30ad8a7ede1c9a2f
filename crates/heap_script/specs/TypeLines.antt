-- The reasons of a type line, by its parts: the letters and the two lists of callbacks.
use Rattle.std.specs.Prelude.{◌≡◌, ℕ, ◌==◌, ◌&&◌, ◌||◌, not, nat_lt, nat_le, ◌≤◌, Bool, true, false, List, [], ◌∷◌, length, drop, map, Option, Some, None, if◌then◌else◌, codes}
use Rattle.std.specs.List.{list_all, list_any}
use Rattle.gc_graph.specs.declared.kind.Kind.{Kind}
use Rattle.gc_graph.specs.Fields.{field_words}
use Rattle.gc_graph.specs.Words.{is_text, is_number}
use Rattle.gc_graph.specs.Forms.{before_weak, from_weak, first_list, second_list}
use Rattle.gc_graph.specs.Reasons.{Reason, Bounds, value_of, are_letters, is_beyond, numbers_of, type_said, is_too_large}
use Rattle.gc_graph.specs.Reasons.Reason.{UnknownWord, BadNumber, Count, Range}
use Rattle.line_words.specs.Cursor.{line_words, lines_after, IsLineEnd}
use Rattle.heap_script.specs.declared.type_lines.Callbacks.{Callbacks}
use Rattle.heap_script.specs.declared.type_lines.Lists.{Lists}

-- ---- the callbacks of a list

-- over 16 callbacks, or one that isn't there
abbrev pub are_over : ℕ → List (List ℕ) → Bool
are_over callbacks numbers = nat_lt 16 (length numbers) || list_any (is_beyond 0 callbacks) numbers

-- the callbacks are numbers; those that there are stand there, where none is over
pub record AreCallbacks (callbacks : ℕ) (words : List (List ℕ)) (numbers : List ℕ) (over : Bool) : Type 0 where
  pub plain : list_all is_number words ≡ true
  pub over_is : over ≡ are_over callbacks words
  pub numbers_are : over ≡ false → numbers ≡ map value_of words

-- the words of a list that ends at the word `weak`, or goes on to the end of the line
abbrev pub ended_by : Bool → List (List ℕ) → List (List ℕ)
ended_by stops words = if stops then before_weak words else words

-- the words from there on
abbrev pub left_by : Bool → List (List ℕ) → List (List ℕ)
left_by stops words = if stops then from_weak words else []

-- of words that begin at `from`, these are left where a list ends: none, or the word `weak` and those after it
pub record IsEnded (left : List (List ℕ)) (bytes : List ℕ) (from : ℕ) (list : Callbacks) : Type 0 where
  pub line : list.weak ≡ false → (left ≡ []) × IsLineEnd bytes from list.end
  pub weak : list.weak ≡ true → left ≡ codes "weak" ∷ line_words (drop list.end bytes)
  pub order : from ≤ list.end
  pub within : list.end ≤ length bytes
  pub same : lines_after (drop from bytes) ≡ lines_after (drop list.end bytes)

-- a list was read whose numbers begin at `from`
pub record AreNumbers (callbacks : ℕ) (stops : Bool) (bytes : List ℕ) (from : ℕ) (list : Callbacks) : Type 0 where
  pub called : AreCallbacks callbacks (ended_by stops (line_words (drop from bytes))) list.numbers.items list.over
  pub bare : list.bare ≡ (length (ended_by stops (line_words (drop from bytes))) == 0)
  pub ended : IsEnded (left_by stops (line_words (drop from bytes))) bytes from list

-- ---- the two lists

-- the word before the numbers is another than the name of the list
abbrev pub is_misnamed : List ℕ → List (List ℕ) → Bool
is_misnamed name [] = false
is_misnamed name (word ∷ numbers) = not (is_text word name)

-- the words after the name are numbers
abbrev pub has_numbers : List (List ℕ) → Bool
has_numbers list = list_all is_number (drop 1 list)

-- the name stands alone
abbrev pub is_bare : List (List ℕ) → Bool
is_bare list = length list == 1

-- the lowest reason of two lists, but for ranges
abbrev pub reason_of_both : List (List ℕ) → List (List ℕ) → Option Reason
reason_of_both first second =
    if is_misnamed (codes "pre") first then Some UnknownWord
    else if not (has_numbers first && has_numbers second) then Some BadNumber
    else if is_bare first || is_bare second then Some Count
    else None

-- the lowest reason of the words after the letters, but for ranges
abbrev pub reason_of_lists : ℕ → List (List ℕ) → Option Reason
reason_of_lists version words = reason_of_both (first_list version words) (second_list version words)

-- the first list was read, which begins at `from`
pub record IsFirstRead (version callbacks : ℕ) (bytes : List ℕ) (from : ℕ) (list : Callbacks) : Type 0 where
  pub named : is_misnamed (codes "pre") (first_list version (line_words (drop from bytes))) ≡ false
  pub called : AreCallbacks callbacks (drop 1 (first_list version (line_words (drop from bytes)))) list.numbers.items list.over
  pub bare : list.bare ≡ is_bare (first_list version (line_words (drop from bytes)))
  pub ended : IsEnded (second_list version (line_words (drop from bytes))) bytes from list

-- both lists were read, which begin at `from`
pub record AreBothRead (version callbacks : ℕ) (bytes : List ℕ) (from : ℕ) (lists : Lists) : Type 0 where
  pub over_is :
      lists.over
      ≡ (are_over callbacks (drop 1 (first_list version (line_words (drop from bytes))))
      || are_over callbacks (drop 1 (second_list version (line_words (drop from bytes)))))
  pub first_are : lists.over ≡ false → lists.first.items ≡ numbers_of (first_list version (line_words (drop from bytes)))
  pub second_are : lists.over ≡ false → lists.second.items ≡ numbers_of (second_list version (line_words (drop from bytes)))

-- ---- the whole line

-- the reason, or that of a range
abbrev pub or_range : Bool → Option Reason → Option Reason
or_range over (Some reason) = Some reason
or_range over None = if over then Some Range else None

-- a weak callback isn't shown all words of the fields
abbrev pub is_past_shown : List ℕ → List Kind → Bool
is_past_shown callbacks kinds = nat_lt 0 (length callbacks) && nat_lt 64 (field_words kinds)

-- a callback of one of the lists isn't there
abbrev pub has_beyond : ℕ → ℕ → List (List ℕ) → Bool
has_beyond version callbacks words =
    list_any (is_beyond 0 callbacks) (drop 1 (first_list version words)) || list_any (is_beyond 0 callbacks) (drop 1 (second_list version words))

-- too many letters or types, a callback that isn't there, or a type that is too large
abbrev pub is_over : ℕ → Bounds → List ℕ → List (List ℕ) → Bool
is_over version bounds letters words =
    nat_lt 64 (length letters)
    || (has_beyond version bounds.callbacks words || (is_too_large (type_said letters words) || nat_le 16383 bounds.types))

-- the lowest reason of the words after `type`
abbrev pub reason_of_type : ℕ → Bounds → List (List ℕ) → Option Reason
reason_of_type version bounds [] = Some Count
reason_of_type version bounds (letters ∷ words) =
    if not (are_letters letters) then Some UnknownWord else or_range (is_over version bounds letters words) (reason_of_lists version words)
