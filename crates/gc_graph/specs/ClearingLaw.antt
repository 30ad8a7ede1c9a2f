-- The law of weak clearing: which fields of live nodes and which weak slots it makes null, and that it leaves the others.
use Rattle.std.specs.Prelude.{◌≡◌, ◌⊎◌, ℕ, ◌+◌, List, length, Some, None, slice_index_or}
use Rattle.gc_graph.specs.declared.kind.Kind.TheVariants.{Weak, Pair}
use Rattle.gc_graph.specs.declared.kind.Value.{Value}
use Rattle.gc_graph.specs.declared.kind.Value.TheVariants.{Null, Ref}
use Rattle.gc_graph.specs.State.{Setup, State, Node, node_at, IsLive, IsDead}
use Rattle.gc_graph.specs.Fields.{kind_of_field, word_of_field, value_at}
use Rattle.gc_graph.specs.Outcomes.{weak_slot_at}
use Rattle.gc_graph.specs.Pause.{cleared}
use Rattle.gc_graph.specs.Valid.{IsTyped}

-- what the field of the node holds: its first word, and the second one of a pair
abbrev pub first_held : List Node → ℕ → ℕ → Value
first_held nodes n f = value_at (node_at nodes n) (word_of_field (node_at nodes n).object f)

-- the value of a pair
abbrev pub second_held : List Node → ℕ → ℕ → Value
second_held nodes n f = value_at (node_at nodes n) (word_of_field (node_at nodes n).object f + 1)

-- a weak field that names a dead node, or a pair whose key does
pub record LosesItsNode (nodes : List Node) (n f : ℕ) : Type 0 where
  pub weakly : (kind_of_field (node_at nodes n).object f ≡ Weak) ⊎ (kind_of_field (node_at nodes n).object f ≡ Pair)
  pub target : ℕ
  pub names : first_held nodes n f ≡ Ref target
  pub dead : IsDead nodes target

-- the field holds nothing, in both words of a pair
pub record IsNull (nodes after : List Node) (n f : ℕ) : Type 0 where
  pub first : first_held after n f ≡ Null
  pub second : kind_of_field (node_at nodes n).object f ≡ Pair → second_held after n f ≡ Null

-- the field holds what it held, in both words of a pair
pub record HoldsTheSame (nodes after : List Node) (n f : ℕ) : Type 0 where
  pub first : first_held after n f ≡ first_held nodes n f
  pub second : kind_of_field (node_at nodes n).object f ≡ Pair → second_held after n f ≡ second_held nodes n f

-- of a live node just those fields become null that lose their node, and of the weak slots just those that name a dead one
pub record ClearsJustTheDead (setup : Setup) (s : State) (nodes : List Node) : Type 0 where
  pub cleared_fields :
      (n f : ℕ) → IsLive nodes n → IsTyped setup (length nodes) (node_at nodes n) → LosesItsNode nodes n f
      → IsNull nodes (cleared s nodes).nodes n f
  pub spared_fields :
      (n f : ℕ) → IsLive nodes n → IsTyped setup (length nodes) (node_at nodes n) → (LosesItsNode nodes n f → ⊥)
      → HoldsTheSame nodes (cleared s nodes).nodes n f
  pub cleared_slots : (w n : ℕ) → weak_slot_at s w ≡ Some n → IsDead nodes n → slice_index_or (cleared s nodes).weak w None ≡ None
  pub spared_slots :
      (w : ℕ) → ((n : ℕ) → weak_slot_at s w ≡ Some n → IsDead nodes n → ⊥) → slice_index_or (cleared s nodes).weak w None ≡ weak_slot_at s w

-- so it is in each state, whatever nodes were judged dead
abbrev pub ClearsNothingElse : Type 0
ClearsNothingElse = (setup : Setup) (s : State) (nodes : List Node) → ClearsJustTheDead setup s nodes
