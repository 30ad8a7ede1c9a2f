-- Nodes by their numbers: the object of one, and that who isn't gone has a number below the number of nodes.
use Rattle.std.proofs.Common.{◌≡◌, ◌≢◌, ℕ, zero, suc, ◌<◌, true, List, [], ◌∷◌, length, refl, ap, inl, inr}
use Rattle.std.proofs.lemmas.Bool.{cases_lt}
use Rattle.std.proofs.lemmas.List.{get_or_past}
use Rattle.gc_graph.specs.Graph.{object_at}
use Rattle.gc_graph.specs.State.{Node, no_node, node_at, graph_of, is_there, Life, IsLive, IsDead}
use Rattle.gc_graph.specs.State.Life.{Live, Dead, Gone}
use Rattle.gc_graph.specs.Valid.{IsThere}

-- the object at a number in the graph of some nodes is that of the node with this number
pub object_of_node : (nodes : List Node) (m : ℕ) → object_at (graph_of nodes) m ≡ (node_at nodes m).object
object_of_node [] m = refl
object_of_node (node ∷ nodes) zero = refl
object_of_node (node ∷ nodes) (suc m) = object_of_node nodes m

pub gone_not_live : (x : Life) → x ≡ Gone → x ≡ Live → ⊥
gone_not_live Live e f = cc
gone_not_live Dead e f = cc
gone_not_live Gone e f = cc

pub gone_not_dead : (x : Life) → x ≡ Gone → x ≡ Dead → ⊥
gone_not_dead Live e f = cc
gone_not_dead Dead e f = cc
gone_not_dead Gone e f = cc

pub live_not_dead : (x : Life) → x ≡ Live → x ≡ Dead → ⊥
live_not_dead Live e f = cc
live_not_dead Dead e f = cc
live_not_dead Gone e f = cc

not_gone_below : (nodes : List Node) (n : ℕ) → (node_at nodes n).life ≢ Gone → n < length nodes
not_gone_below nodes n there =
    elim (cases_lt n (length nodes)) [
      | inl l ↦ l
      | inr past ↦ absurd (there (ap (λ (x : Node). x.life) (get_or_past nodes n no_node past)))
    ]

-- a live node has a number below the number of nodes
pub live_below : (nodes : List Node) (n : ℕ) → IsLive nodes n → n < length nodes
live_below nodes n live = not_gone_below nodes n (λ gone. gone_not_live _ gone live)

pub dead_below : (nodes : List Node) (n : ℕ) → IsDead nodes n → n < length nodes
dead_below nodes n dead = not_gone_below nodes n (λ gone. gone_not_dead _ gone dead)

gone_not_there : (x : Life) → x ≡ Gone → is_there x ≡ true → ⊥
gone_not_there Live e f = cc
gone_not_there Dead e f = cc
gone_not_there Gone e f = cc

-- a node that is there, live or dead, has a number below the number of nodes
pub there_below : (nodes : List Node) (n : ℕ) → IsThere nodes n → n < length nodes
there_below nodes n there = not_gone_below nodes n (λ gone. gone_not_there _ gone there)
