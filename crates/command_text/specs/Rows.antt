-- The rows of the code's table as those of the grammar.
use Rattle.std.specs.Prelude.{◌≡◌, ℕ, ◌+◌, ◌^◌, ◌≤◌, ◌==◌, ◌&&◌, not, nat_le, is_some, Bool, true, false, List, [], ◌∷◌, ◌++◌, length, map, take, drop, replicate, Option, Some, None, if◌then◌else◌, codes}
use Rattle.std.specs.List.{list_all}
use Rattle.std.specs.Borrow.{Bor}
use Rattle.gc_graph.specs.declared.command.Command.{Command}
use Rattle.gc_graph.specs.declared.command.Command.TheVariants as C
use Rattle.gc_graph.specs.declared.command.Order.TheVariants as Q
use Rattle.gc_graph.specs.Words.{is_text}
use Rattle.gc_graph.specs.Forms.{Place, slot, field, slot_or_null, want, any_number, pages_or_all, none, one, two, three, new_command, set_command, pair_command, sweep_command, threads_command, by_want, order_of_none, order_of_one, order_of_two}
use Rattle.gc_graph.specs.Forms.Place.{Either, Number, NumberOr, TypeNumber}
use Rattle.gc_graph.specs.Forms.{Row as GrammarRow}
use Rattle.gc_graph.specs.Reasons.{Bounds as GrammarBounds}
use Rattle.command_text.specs.declared.places.Bounds.{Bounds}
use Rattle.command_text.specs.declared.forms.Spot.{Spot}
use Rattle.command_text.specs.declared.forms.Spot.TheVariants as S
use Rattle.command_text.specs.declared.making.SmallForm.{SmallForm}
use Rattle.command_text.specs.declared.making.SmallForm.TheVariants as F
use Rattle.command_text.specs.declared.making.BareForm.{BareForm}
use Rattle.command_text.specs.declared.making.BareForm.TheVariants as B
use Rattle.command_text.specs.declared.making.OneForm.{OneForm}
use Rattle.command_text.specs.declared.making.OneForm.TheVariants as N
use Rattle.command_text.specs.declared.making.TwoForm.{TwoForm}
use Rattle.command_text.specs.declared.making.TwoForm.TheVariants as T
use Rattle.command_text.specs.declared.making.ThreeForm.{ThreeForm}
use Rattle.command_text.specs.declared.making.ThreeForm.TheVariants as H
use Rattle.command_text.specs.declared.making.OrderForm.{OrderForm}
use Rattle.command_text.specs.declared.making.OrderForm.TheVariants as O
use Rattle.command_text.specs.declared.wide.WideForm.{WideForm}
use Rattle.command_text.specs.declared.wide.WideForm.TheVariants as W
use Rattle.command_text.specs.declared.forms.Make.{Make}
use Rattle.command_text.specs.declared.forms.Make.TheVariants as M
use Rattle.command_text.specs.declared.forms.Row.{Row}

-- ---- places

-- the place of the grammar that a spot stands for
abbrev pub place_of_spot : Spot → Place
place_of_spot (S.Number from last) = Number from (last + 1)
place_of_spot (S.NumberOrNull from last) = NumberOr (codes "-") from (last + 1)
place_of_spot S.TypeNumber = TypeNumber
place_of_spot S.Want = want
place_of_spot S.GoOrJoin = Either (codes "go") (codes "join")

-- the word for null
abbrev pub is_null : List ℕ → Bool
is_null word = is_text word (codes "-")

-- the bounds of the grammar for those of the code
abbrev pub bounds_of : Bounds → GrammarBounds
bounds_of bounds = record { types = bounds.types; callbacks = bounds.callbacks }

-- ---- commands

-- the command that a thread and the numbers of its order make
abbrev pub order_command_of : OrderForm → List ℕ → Option Command
order_command_of O.Copy = order_of_two (λ x y. Q.Copy x y)
order_command_of O.Clear = order_of_one (λ x. Q.Clear x)
order_command_of O.Weaken = order_of_one (λ x. Q.Weaken x)
order_command_of O.Upgrade = order_of_two (λ x y. Q.Upgrade x y)
order_command_of O.Totals = order_of_none Q.Totals

-- the command that has no number
abbrev pub bare_command_of : BareForm → Command
bare_command_of B.Pop = C.Pop
bare_command_of B.Stat = C.Stat
bare_command_of B.GcStart = C.GcStart

-- the command that one number makes
abbrev pub one_command_of : OneForm → ℕ → Command
one_command_of N.Drop = λ p. C.Drop p
one_command_of N.GcStep = λ n. C.GcStep n

-- the command that two numbers make
abbrev pub two_command_of : TwoForm → ℕ → ℕ → Command
two_command_of T.Word = λ p f. C.Word p f
two_command_of T.Copy = λ p q. C.Copy p q
two_command_of T.Weak = λ w p. C.Weak w p
two_command_of T.Read = λ w p. C.Read w p
two_command_of T.Push = λ p o. C.Push p o
two_command_of T.Peek = λ i q. C.Peek i q
two_command_of T.Export = λ p x. C.Export p x
two_command_of T.Import = λ x p. C.Import x p

-- the command that three numbers make
abbrev pub three_command_of : ThreeForm → ℕ → ℕ → ℕ → Command
three_command_of H.Get = λ p f q. C.Get p f q
three_command_of H.Key = λ p f q. C.Key p f q
three_command_of H.Val = λ p f q. C.Val p f q

-- the command that numbers of 32 bits make
abbrev pub small_command_of : SmallForm → List ℕ → Option Command
small_command_of (F.Bare form) = none (bare_command_of form)
small_command_of (F.One form) = one (one_command_of form)
small_command_of (F.Two form) = two (two_command_of form)
small_command_of (F.Three form) = three (three_command_of form)
small_command_of F.New = new_command
small_command_of F.Set = set_command
small_command_of F.Pair = pair_command
small_command_of F.Threads = threads_command
small_command_of F.GcFinish = by_want (λ w. C.GcFinish w)
small_command_of F.GcNow = by_want (λ w. C.GcNow w)
small_command_of (F.At form) = order_command_of form

-- the command that numbers make of which the last may be wide
abbrev pub wide_command_of : WideForm → List ℕ → Option Command
wide_command_of W.Put = three (λ p f n. C.Put p f n)
wide_command_of W.PushPlain = one (λ n. C.PushPlain n)
wide_command_of W.Sweep = sweep_command

-- the command that the numbers of a line make
abbrev pub command_of : Make → List ℕ → Option Command
command_of (M.Small form) = small_command_of form
command_of (M.Wide form) = wide_command_of form

-- the place of the wide number
abbrev pub wide_place_of : WideForm → Place
wide_place_of W.Put = any_number
wide_place_of W.PushPlain = any_number
wide_place_of W.Sweep = pages_or_all

-- the places after the spots
abbrev pub tail_of : Make → List Place
tail_of (M.Small form) = []
tail_of (M.Wide form) = wide_place_of form ∷ []

-- ---- rows

-- all places of a row
abbrev pub places_in : Row → List Place
places_in row = map place_of_spot row.spots.now ++ tail_of row.make

-- the row of the grammar for which a row stands
abbrev pub row_by : Row → GrammarRow
row_by row = record {
  name = row.name.now;
  places = take row.least (places_in row);
  optional = drop row.least (places_in row);
  command = command_of row.make;
}

-- the same for each row of a table
abbrev pub rows_by : List Row → List GrammarRow
rows_by table = map row_by table

-- a row was found exactly where the grammar has one, and stands for it
abbrev pub SameRow : Option (Bor Row) → Option GrammarRow → Type 0
SameRow None None = Unit {0}
SameRow (Some row) (Some other) = row_by row.now ≡ other
SameRow None (Some other) = ⊥
SameRow (Some row) None = ⊥

-- ---- what the reader of places asks of a row

-- the form makes a pair
abbrev pub makes_pair : Make → Bool
makes_pair (M.Small F.Pair) = true
makes_pair make = false

-- the places of a pair
abbrev pub pair_places : List Place
pair_places = slot ∷ field ∷ slot_or_null ∷ slot_or_null ∷ []

-- so many numbers can make the command
abbrev pub takes : Make → ℕ → Bool
takes make count = is_some (command_of make (replicate count 1))

-- both are true, or none is
abbrev pub agree : Bool → Bool → Bool
agree a b = if a then b else not b

-- where the last number is wide, no place may be left out
abbrev pub is_least_right : Make → ℕ → ℕ → Bool
is_least_right (M.Small form) least most = nat_le least most
is_least_right (M.Wide form) least most = least == most

-- at most four small numbers, with so many before the spots, and the command takes as many numbers as may be there
abbrev pub is_sound : ℕ → Row → Bool
is_sound before row =
    is_least_right row.make row.least (length (places_in row)) && (nat_le (before + length row.spots.now) 4
    && (takes row.make (before + row.least) && takes row.make (before + length (places_in row))))

-- a test of rows
abbrev pub RowTest : Type 0
RowTest = Row → Bool

-- a row that the first word chooses: only `pair` makes a pair
abbrev pub is_plain_row : RowTest
is_plain_row row = is_sound 0 row && agree (is_text row.name.now (codes "pair")) (makes_pair row.make)

-- a row that the word after `gc` chooses
abbrev pub is_gc_row : RowTest
is_gc_row row = is_sound 0 row && not (makes_pair row.make)

-- a row that the word after `at` and its thread chooses
abbrev pub is_at_row : RowTest
is_at_row row = is_sound 1 row && not (makes_pair row.make)

-- how large a wide number may be: one more than 32 bits hold for `sweep`
abbrev pub IsLow : WideForm → ℕ → Type 0
IsLow W.Put value = Unit {0}
IsLow W.PushPlain value = Unit {0}
IsLow W.Sweep value = value ≤ 2 ^ 32

-- no two rows of a table have the same name
abbrev pub are_distinct : List Row → Bool
are_distinct [] = true
are_distinct (row ∷ table) = list_all (λ other. not (is_text other.name.now row.name.now)) table && are_distinct table
