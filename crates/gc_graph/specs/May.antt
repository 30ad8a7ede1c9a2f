-- What a pause may keep, and what the stack hits.
use Rattle.std.specs.Prelude.{ℕ, suc, ◌+◌, ◌&&◌, nat_le, nat_lt, Bool, true, false, List, [], ◌∷◌, ◌++◌, length, filter}
use Rattle.std.specs.List.{list_any, range_with_len}
use Rattle.gc_graph.specs.declared.command.Want.{Want}
use Rattle.gc_graph.specs.declared.command.Want.TheVariants.{Precise, Conservative}
use Rattle.gc_graph.specs.declared.phase.Phase.{Phase}
use Rattle.gc_graph.specs.declared.phase.Phase.TheVariants.{Idle, Marking, Sweeping}
use Rattle.gc_graph.specs.Graph.{Object}
use Rattle.gc_graph.specs.Reach.{Reach}
use Rattle.gc_graph.specs.State.{State, Node, StackWord, node_at, is_there, size_of, graph_of, roots_of}
use Rattle.gc_graph.specs.State.StackWord.{Pointer, Number}

-- the numbers from n on whose flags are set
abbrev pub members_from : ℕ → List Bool → List ℕ
members_from n [] = []
members_from n (true ∷ set) = n ∷ members_from (suc n) set
members_from n (false ∷ set) = members_from (suc n) set

-- the members of a set, in their order
abbrev pub members : List Bool → List ℕ
members set = members_from 0 set

-- at the start of a collection: what the roots reach may be kept, and nothing is traced yet
abbrev pub marking : State → State
marking s = record s { phase = Marking; may = Reach (graph_of s.nodes) (roots_of s); traced = 0 }

-- a new node may be kept, where marking goes on
abbrev pub may_with_new : Phase → List Bool → List Bool
may_with_new Idle may = may
may_with_new Marking may = may ++ true ∷ []
may_with_new Sweeping may = may

-- a node that was read weakly may be kept, with all that it reaches, where marking goes on
abbrev pub may_with_read : Phase → List Object → List Bool → ℕ → List Bool
may_with_read Idle graph may n = may
may_with_read Marking graph may n = Reach graph (members may ++ n ∷ [])
may_with_read Sweeping graph may n = may

-- the state after a weak read that gave the node
abbrev pub weakly_read : State → ℕ → State
weakly_read s n = record s { may = may_with_read s.phase (graph_of s.nodes) s.may n }

-- a read through a weak field or handle may keep what it gave, and another read keeps nothing
abbrev pub read_node : Bool → State → ℕ → State
read_node true s n = weakly_read s n
read_node false s n = s

-- ---- the stack: inner pointers count (precise and conservative garbage collection, `include/cppgc/README.md`)

-- the address that a stack word is
abbrev pub address_of : List Node → StackWord → ℕ
address_of nodes (Pointer n offset) = (node_at nodes n).place + offset
address_of nodes (Number w) = w

-- the node is there and has the word at a
abbrev pub has_word : Node → ℕ → Bool
has_word node a = is_there node.life && (nat_le node.place a && nat_lt a (node.place + size_of node))

-- some stack word is the address of a word of the node
abbrev pub is_hit : List Node → List StackWord → ℕ → Bool
is_hit nodes stack n = list_any (λ word. has_word (node_at nodes n) (address_of nodes word)) stack

-- the nodes that the stack hits
abbrev pub hits_of : List Node → List StackWord → List ℕ
hits_of nodes stack = filter (is_hit nodes stack) (range_with_len 0 (length nodes))

-- a precise pause doesn't look at the stack
abbrev pub hits_for : Want → State → List ℕ
hits_for Precise s = []
hits_for Conservative s = hits_of s.nodes s.stack
