-- The forms of a script's commands: what may stand at each word of a line, and the command that the words say.
use Rattle.std.specs.Prelude.{ℕ, zero, suc, ◌^◌, ◌==◌, nat_lt, List, [], ◌∷◌, ◌++◌, length, replicate, Option, Some, None, if◌then◌else◌, codes}
use Rattle.gc_graph.specs.declared.command.Command.{Command}
use Rattle.gc_graph.specs.declared.command.Command.TheVariants as C
use Rattle.gc_graph.specs.declared.command.Order.{Order}
use Rattle.gc_graph.specs.declared.command.Order.TheVariants as Q
use Rattle.gc_graph.specs.declared.command.Want.{Want}
use Rattle.gc_graph.specs.declared.command.Want.TheVariants.{Precise, Conservative}
use Rattle.gc_graph.specs.Words.{is_text}

-- ---- places

-- what may stand at one place of a line
pub data Place : Type 0 where
  -- this word
  Fixed : List ℕ → Place
  -- one of two words; the first says 0, the second 1
  Either : List ℕ → List ℕ → Place
  -- the letters of a type
  Letters : Place
  -- a number from the first on, and below the second
  Number : ℕ → ℕ → Place
  -- this word, which says 0, or such a number, which says one more than it is
  NumberOr : List ℕ → ℕ → ℕ → Place
  -- the number of a type line before
  TypeNumber : Place
  -- the number of a callback
  Callback : Place

-- a strong slot
abbrev pub slot : Place
slot = Number 0 256

-- a strong slot, or `-` for null
abbrev pub slot_or_null : Place
slot_or_null = NumberOr (codes "-") 0 256

-- a weak slot
abbrev pub weak_slot : Place
weak_slot = Number 0 64

-- a slot of the region
abbrev pub region_slot : Place
region_slot = Number 0 32

-- a field of an object
abbrev pub field : Place
field = Number 0 67108864

-- a word of an object, by its distance from the first
abbrev pub offset : Place
offset = Number 0 67108864

-- at most 33,554,432 of them
abbrev pub extra_words : Place
extra_words = Number 0 33554433

-- how far from the last word of the stack
abbrev pub stack_place : Place
stack_place = Number 0 1024

-- a number of 64 bits
abbrev pub any_number : Place
any_number = Number 0 (2 ^ 64)

-- how many objects a step traces
abbrev pub objects : Place
objects = Number 1 4294967296

-- so many pages, or `all`
abbrev pub pages_or_all : Place
pages_or_all = NumberOr (codes "all") 1 4294967296

-- a thread of the script
abbrev pub thread : Place
thread = Number 1 9

-- whether the pause looks at the stack
abbrev pub want : Place
want = Either (codes "precise") (codes "conservative")

-- ---- from the numbers that the words say to the command

-- a command without numbers
abbrev pub none : Command → List ℕ → Option Command
none command [] = Some command
none command (a ∷ more) = None

-- a command with one number
abbrev pub one : (ℕ → Command) → List ℕ → Option Command
one make (a ∷ []) = Some (make a)
one make numbers = None

-- a command with two numbers
abbrev pub two : (ℕ → ℕ → Command) → List ℕ → Option Command
two make (a ∷ b ∷ []) = Some (make a b)
two make numbers = None

-- a command with three numbers
abbrev pub three : (ℕ → ℕ → ℕ → Command) → List ℕ → Option Command
three make (a ∷ b ∷ c ∷ []) = Some (make a b c)
three make numbers = None

-- no extra words where their number is left out
abbrev pub new_command : List ℕ → Option Command
new_command (p ∷ t ∷ []) = Some (C.New p t 0)
new_command (p ∷ t ∷ e ∷ []) = Some (C.New p t e)
new_command numbers = None

-- a field is set to null or to what a slot holds
abbrev pub set_command : List ℕ → Option Command
set_command (p ∷ f ∷ zero ∷ []) = Some (C.SetNull p f)
set_command (p ∷ f ∷ suc q ∷ []) = Some (C.Set p f q)
set_command numbers = None

-- a pair is set to null, or to what two slots hold; one null alone is no pair
abbrev pub pair_command : List ℕ → Option Command
pair_command (p ∷ f ∷ zero ∷ zero ∷ []) = Some (C.PairNull p f)
pair_command (p ∷ f ∷ suc k ∷ suc v ∷ []) = Some (C.Pair p f k v)
pair_command numbers = None

-- all pages are swept, or so many
abbrev pub sweep_command : List ℕ → Option Command
sweep_command (zero ∷ []) = Some C.SweepAll
sweep_command (suc n ∷ []) = Some (C.Sweep n)
sweep_command numbers = None

-- the threads are told to go, or joined
abbrev pub threads_command : List ℕ → Option Command
threads_command (zero ∷ []) = Some C.ThreadsGo
threads_command (suc n ∷ []) = Some C.ThreadsJoin
threads_command numbers = None

-- a command with its want
abbrev pub by_want : (Want → Command) → List ℕ → Option Command
by_want make (zero ∷ []) = Some (make Precise)
by_want make (suc n ∷ []) = Some (make Conservative)
by_want make numbers = None

-- an order without numbers, for a thread
abbrev pub order_of_none : Order → List ℕ → Option Command
order_of_none order (j ∷ []) = Some (C.At j order)
order_of_none order numbers = None

-- an order with one number, for a thread
abbrev pub order_of_one : (ℕ → Order) → List ℕ → Option Command
order_of_one make (j ∷ x ∷ []) = Some (C.At j (make x))
order_of_one make numbers = None

-- an order with two numbers, for a thread
abbrev pub order_of_two : (ℕ → ℕ → Order) → List ℕ → Option Command
order_of_two make (j ∷ x ∷ y ∷ []) = Some (C.At j (make x y))
order_of_two make numbers = None

-- ---- the table

-- a word that chooses a form, the places after it, those that may be left out, and the command that the numbers say
pub record Row : Type 0 where
  pub name : List ℕ
  pub places : List Place
  pub optional : List Place
  pub command : List ℕ → Option Command

-- a row of which no place may be left out
abbrev pub row : List ℕ → List Place → (List ℕ → Option Command) → Row
row name places command = record { name = name; places = places; optional = []; command = command }

-- the forms that the first word chooses
abbrev pub rows : List Row
rows =
    record { name = codes "new"; places = slot ∷ TypeNumber ∷ []; optional = extra_words ∷ []; command = new_command }
    ∷ row (codes "set") (slot ∷ field ∷ slot_or_null ∷ []) set_command
    ∷ row (codes "pair") (slot ∷ field ∷ slot_or_null ∷ slot_or_null ∷ []) pair_command
    ∷ row (codes "put") (slot ∷ field ∷ any_number ∷ []) (three (λ p f n. C.Put p f n))
    ∷ row (codes "word") (slot ∷ field ∷ []) (two (λ p f. C.Word p f))
    ∷ row (codes "get") (slot ∷ field ∷ slot ∷ []) (three (λ p f q. C.Get p f q))
    ∷ row (codes "key") (slot ∷ field ∷ slot ∷ []) (three (λ p f q. C.Key p f q))
    ∷ row (codes "val") (slot ∷ field ∷ slot ∷ []) (three (λ p f q. C.Val p f q))
    ∷ row (codes "copy") (slot ∷ slot ∷ []) (two (λ p q. C.Copy p q))
    ∷ row (codes "drop") (slot ∷ []) (one (λ p. C.Drop p))
    ∷ row (codes "weak") (weak_slot ∷ slot ∷ []) (two (λ w p. C.Weak w p))
    ∷ row (codes "read") (weak_slot ∷ slot ∷ []) (two (λ w p. C.Read w p))
    ∷ row (codes "push") (slot ∷ offset ∷ []) (two (λ p o. C.Push p o))
    ∷ row (codes "push#") (any_number ∷ []) (one (λ n. C.PushPlain n))
    ∷ row (codes "pop") [] (none C.Pop)
    ∷ row (codes "peek") (stack_place ∷ slot ∷ []) (two (λ i q. C.Peek i q))
    ∷ row (codes "sweep") (pages_or_all ∷ []) sweep_command
    ∷ row (codes "stat") [] (none C.Stat)
    ∷ row (codes "export") (slot ∷ region_slot ∷ []) (two (λ p x. C.Export p x))
    ∷ row (codes "import") (region_slot ∷ slot ∷ []) (two (λ x p. C.Import x p))
    ∷ row (codes "threads") (Either (codes "go") (codes "join") ∷ []) threads_command
    ∷ []

-- the forms that the word after `gc` chooses
abbrev pub gc_rows : List Row
gc_rows =
    row (codes "start") [] (none C.GcStart)
    ∷ row (codes "step") (objects ∷ []) (one (λ n. C.GcStep n))
    ∷ row (codes "finish") (want ∷ []) (by_want (λ w. C.GcFinish w))
    ∷ row (codes "now") (want ∷ []) (by_want (λ w. C.GcNow w))
    ∷ []

-- the forms that the word after `at` and its thread chooses
abbrev pub at_rows : List Row
at_rows =
    row (codes "copy") (region_slot ∷ region_slot ∷ []) (order_of_two (λ x y. Q.Copy x y))
    ∷ row (codes "clear") (region_slot ∷ []) (order_of_one (λ x. Q.Clear x))
    ∷ row (codes "weaken") (region_slot ∷ []) (order_of_one (λ x. Q.Weaken x))
    ∷ row (codes "upgrade") (region_slot ∷ region_slot ∷ []) (order_of_two (λ x y. Q.Upgrade x y))
    ∷ row (codes "totals") [] (order_of_none Q.Totals)
    ∷ []

-- ---- the form of a line

-- what the words of a line choose
pub data Form : Type 0 where
  -- the word that chooses the form isn't there; the places that stand before it
  Missing : List Place → Form
  -- it chooses none
  Unknown : Form
  -- the places after the first word, and the command that the numbers say
  Known : List Place → (List ℕ → Option Command) → Form

-- the row that a word chooses, if there is one
abbrev pub row_named : List ℕ → List Row → Option Row
row_named word [] = None
row_named word (row ∷ rows) = if is_text word row.name then Some row else row_named word rows

-- the places of a row for so many words; those that may be left out count where there are more words than the others
abbrev pub places_of : Row → ℕ → List Place
places_of row words = if nat_lt (length row.places) words then row.places ++ row.optional else row.places

-- the form of a row that the first word chooses
abbrev pub plain_form : ℕ → Option Row → Form
plain_form words None = Unknown
plain_form words (Some row) = Known (places_of row words) row.command

-- the form of a row that the word after `gc` chooses
abbrev pub gc_form : ℕ → Option Row → Form
gc_form words None = Unknown
gc_form words (Some row) = Known (Fixed row.name ∷ places_of row words) row.command

-- the form of a row that the word after `at` and its thread chooses
abbrev pub at_form : ℕ → Option Row → Form
at_form words None = Unknown
at_form words (Some row) = Known (thread ∷ Fixed row.name ∷ places_of row words) row.command

-- the form by the word after `gc`
abbrev pub form_after_gc : List (List ℕ) → Form
form_after_gc [] = Missing []
form_after_gc (second ∷ rest) = gc_form (length rest) (row_named second gc_rows)

-- the form by the second word after `at`
abbrev pub form_after_at : List (List ℕ) → Form
form_after_at [] = Missing []
form_after_at (j ∷ []) = Missing (thread ∷ [])
form_after_at (j ∷ third ∷ rest) = at_form (length rest) (row_named third at_rows)

-- the words of a type line before the word `weak`
abbrev pub before_weak : List (List ℕ) → List (List ℕ)
before_weak [] = []
before_weak (word ∷ words) = if is_text word (codes "weak") then [] else word ∷ before_weak words

-- the words from the word `weak` on
abbrev pub from_weak : List (List ℕ) → List (List ℕ)
from_weak [] = []
from_weak (word ∷ words) = if is_text word (codes "weak") then word ∷ words else from_weak words

-- after the letters stands the list of the prefinalizers, which `weak` ends in version 2
abbrev pub first_list : ℕ → List (List ℕ) → List (List ℕ)
first_list version words = if version == 2 then before_weak words else words

-- and then that of the weak callbacks, in version 2
abbrev pub second_list : ℕ → List (List ℕ) → List (List ℕ)
second_list version words = if version == 2 then from_weak words else []

-- the places of a list: its name, and a callback for each word after it
abbrev pub list_places : List ℕ → List (List ℕ) → List Place
list_places name [] = []
list_places name (word ∷ numbers) = Fixed name ∷ replicate (length numbers) Callback

-- the callback that a list lacks whose name stands alone
abbrev pub lacking : List (List ℕ) → List Place
lacking (word ∷ []) = Callback ∷ []
lacking words = []

-- the letters, the two lists, and what they lack
abbrev pub type_places : ℕ → List (List ℕ) → List Place
type_places version [] = Letters ∷ []
type_places version (letters ∷ words) =
    Letters ∷ (list_places (codes "pre") (first_list version words) ++ (list_places (codes "weak") (second_list version words)
    ++ (lacking (first_list version words) ++ lacking (second_list version words))))

-- the form of a command by its words
abbrev pub form_of : List (List ℕ) → Form
form_of [] = Missing []
form_of (first ∷ rest) =
    if is_text first (codes "gc") then form_after_gc rest
    else if is_text first (codes "at") then form_after_at rest
    else plain_form (length rest) (row_named first rows)

-- the form of a line by its words, in a version of the grammar
abbrev pub line_form : ℕ → List (List ℕ) → Form
line_form version [] = Missing []
line_form version (first ∷ rest) =
    if is_text first (codes "type") then Known (type_places version rest) (λ numbers. None) else form_of (first ∷ rest)
