-- The stack of a heap, and what calls on it change.
use Rattle.std.specs.Prelude.{◌≡◌, ℕ, ◌-◌, ◌<◌, ◌≤◌, Bool, true, false, List, [], ◌∷◌, ◌++◌, length, map, reverse, take, drop, Option, Some, None, All, ⊤}
use Rattle.gc_graph.specs.declared.command.Want.{Want}
use Rattle.gc_graph.specs.declared.command.Want.TheVariants.{Precise, Conservative}
use Rattle.gc_graph.specs.State.{Node, StackWord, node_at, size_of}
use Rattle.gc_graph.specs.State.StackWord.{Pointer, Number}
use Rattle.gc_graph.specs.May.{address_of}
use Rattle.heap_region.specs.Nodes.{place_of}

-- the words of the stack, the last one first; and in the order in which they were pushed the address that each is, and the place
-- of the object to which it points, if it is a pointer
pub record StackView : Type 0 where
  pub words : List StackWord
  pub addresses : List ℕ
  pub places : List (Option ℕ)

-- a stack without words
abbrev pub empty_stack : StackView
empty_stack = record { words = []; addresses = []; places = [] }

-- each word has its address and its place, for 1,024 of which there is room
pub record HasStackRoom (s : StackView) (addresses places : ℕ) : Type 0 where
  pub for_addresses : 1024 ≤ addresses
  pub for_places : 1024 ≤ places
  pub addressed : length s.addresses ≡ length s.words
  pub placed : length s.places ≡ length s.words

-- the place of the object to which a word points, if it is a pointer
abbrev pub pointed_place : List Node → StackWord → Option ℕ
pointed_place nodes (Pointer n offset) = Some (place_of nodes n)
pointed_place nodes (Number w) = None

-- a pointer points to a word that its node has
abbrev pub PointsInside : List Node → StackWord → Type 0
PointsInside nodes (Pointer n offset) = offset < size_of (node_at nodes n)
PointsInside nodes (Number w) = ⊤

-- the stack holds the addresses that its words are, and the places of the objects to which they point, each of which has the
-- word that is pointed to
pub record HoldsWords (nodes : List Node) (s : StackView) : Type 0 where
  pub addresses : s.addresses ≡ reverse (map (address_of nodes) s.words)
  pub places : s.places ≡ reverse (map (pointed_place nodes) s.words)
  pub inside : All (PointsInside nodes) s.words

-- a pointer to the word at an offset of the node that a slot names, or the number 0 where it names none
abbrev pub pointer_into : Option ℕ → ℕ → StackWord
pointer_into None offset = Number 0
pointer_into (Some n) offset = Pointer n offset

-- the word was pushed, with its address and its place
abbrev pub stack_with_word : StackView → StackWord → ℕ → Option ℕ → StackView
stack_with_word s word address place = record { words = word ∷ s.words; addresses = s.addresses ++ address ∷ []; places = s.places ++ place ∷ [] }

-- the last word was taken away
abbrev pub without_last : StackView → StackView
without_last s = record {
  words = drop 1 s.words;
  addresses = take (length s.addresses - 1) s.addresses;
  places = take (length s.places - 1) s.places;
}

-- the stack isn't looked at
abbrev pub is_precise : Want → Bool
is_precise Precise = true
is_precise Conservative = false
