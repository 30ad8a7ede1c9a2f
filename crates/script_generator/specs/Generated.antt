-- The generated script: a document tree with weak observers, and a side table of pairs.
use Rattle.std.specs.Prelude.{ℕ, suc, zero, ◌+◌, ◌*◌, ◌%◌, ◌==◌, ◌&&◌, nat_le, Bool, List, [], ◌∷◌, ◌++◌, if◌then◌else◌}
use Rattle.std.specs.Int.{is_power_of_two}
use Rattle.std.specs.List.{flat_map, range_with_len}
use Rattle.gc_graph.specs.declared.command.Command.{Command}
use Rattle.gc_graph.specs.declared.command.Command.TheVariants as C
use Rattle.gc_graph.specs.declared.command.Want.TheVariants.{Precise}
use Rattle.gc_graph.specs.declared.kind.Kind.TheVariants.{Strong, Weak, Pair, Plain}
use Rattle.gc_graph.specs.State.{ObjectType}
use Rattle.gc_graph.specs.Script.{Script}

-- ---- the numbers that choose

-- the number after this one
abbrev pub next_number : ℕ → ℕ
next_number x = (x * 75 + 74) % 65537

-- the number that was reached from the seed in so many steps
abbrev pub number_after : ℕ → ℕ → ℕ
number_after seed zero = seed % 65537
number_after seed (suc i) = next_number (number_after seed i)

-- ---- the types

-- an element of the tree: its first child and its next sibling, the element that it observes, and its number
abbrev pub element : ObjectType
element = record { kinds = Strong ∷ Strong ∷ Weak ∷ Plain ∷ []; prefinalizers = []; weak_callbacks = [] }

-- an entry of the side table: the next entry, and an element with what belongs to it
abbrev pub table_entry : ObjectType
table_entry = record { kinds = Strong ∷ Pair ∷ []; prefinalizers = []; weak_callbacks = [] }

-- the types by number
abbrev pub generated_types : List ObjectType
generated_types = element ∷ table_entry ∷ []

-- ---- a turn

-- the tree's first element is made, in slot 0; slot 2 has the newest element of the tree
abbrev pub first_commands : List Command
first_commands = C.New 0 0 0 ∷ C.Copy 0 2 ∷ []

-- element i is made, observes the first one, becomes the first child of slot p's, and is the newest from then on
abbrev pub child_commands : ℕ → ℕ → List Command
child_commands p i =
    C.New 1 0 0 ∷ C.Put 1 3 i ∷ C.Set 1 2 0 ∷ C.Get p 0 3 ∷ C.Set 1 1 3 ∷ C.Set p 0 1 ∷ C.Copy 1 2 ∷ C.Drop 1 ∷ C.Drop 3 ∷ []

-- the side table, in slot 5, gets an entry more: its key is a new element with an observer, and its value names its key
abbrev pub entry_commands : ℕ → List Command
entry_commands i =
    C.New 1 0 0 ∷ C.New 4 1 0 ∷ C.Set 4 0 5 ∷ C.Copy 4 5 ∷ C.New 6 0 0 ∷ C.Set 6 0 1 ∷ C.Pair 4 1 1 6 ∷ C.Weak (i % 64) 1 ∷ C.Drop 1 ∷ C.Drop 4
    ∷ C.Drop 6 ∷ []

-- the number of the turn chooses what it makes: a child of the first element, a child of the newest, or an entry
abbrev pub chosen_commands : ℕ → ℕ → List Command
chosen_commands i x = if x % 3 == 0 then child_commands 0 i else if x % 3 == 1 then child_commands 2 i else entry_commands i

-- whether a cycle goes on beside the turn: its number is a power of two, and at least 4
abbrev pub has_cycle : ℕ → Bool
has_cycle i = nat_le 4 i && is_power_of_two i

-- the cycle is started before the turn
abbrev pub starting_commands : ℕ → List Command
starting_commands i = if has_cycle i then C.GcStart ∷ C.GcStep 2 ∷ [] else []

-- a collection at once, whose sweep is ended
abbrev pub collection_commands : List Command
collection_commands = C.GcNow Precise ∷ C.SweepAll ∷ []

-- the cycle is ended after the turn, and then comes another collection
abbrev pub ending_commands : ℕ → List Command
ending_commands i = if has_cycle i then C.GcFinish Precise ∷ collection_commands else []

-- turn i, with its number
abbrev pub turn_commands : ℕ → ℕ → List Command
turn_commands i x = starting_commands i ++ chosen_commands i x ++ ending_commands i

-- ---- the script

-- the turns from 1 to the count, each with the number after that of the turn before
abbrev pub turns : ℕ → ℕ → List Command
turns seed count = flat_map (λ i. turn_commands i (number_after seed i)) (range_with_len 1 count)

-- the script of a seed and a count of turns, with a collection at its end
abbrev pub generated : ℕ → ℕ → Script
generated seed count = record { types = generated_types; commands = first_commands ++ turns seed count ++ collection_commands }
