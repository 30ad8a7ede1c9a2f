-- The nodes of a heap at their places.
use Rattle.std.specs.Prelude.{◌≡◌, ℕ, ◌<◌, Bool, List, length}
use Rattle.gc_graph.specs.State.{Node, node_at}
use Rattle.gc_graph.specs.State.Life.{Gone}
use Rattle.gc_graph.specs.Pause.{is_dead_at}

-- a node stands at its place until it is finalised
pub record StandsAt (nodes : List Node) (place n : ℕ) : Type 0 where
  pub there : n < length nodes
  pub place_is : (node_at nodes n).place ≡ place
  pub not_gone : (node_at nodes n).life ≡ Gone → ⊥

-- some node stands at the place
abbrev pub IsNodePlace : List Node → ℕ → Type 0
IsNodePlace nodes place = (n : ℕ) × StandsAt nodes place n

-- the answer is true exactly where the node that stands at the place is dead
abbrev pub TellsDead : List Node → ℕ → Bool → Type 0
TellsDead nodes place answer = (n : ℕ) → StandsAt nodes place n → answer ≡ is_dead_at nodes n
