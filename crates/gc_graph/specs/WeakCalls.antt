-- The weak callbacks of a pause: for which nodes they run, what they are shown, and what they do (`RegisterWeakCallback`,
-- `include/cppgc/visitor.h`).
use Rattle.std.specs.Prelude.{ℕ, ◌/◌, ◌%◌, ◌==◌, ◌&&◌, Bool, false, not, List, [], ◌∷◌, length, map, flat_map, if◌then◌else◌, slice_index_or}
use Rattle.std.specs.List.{range_with_len}
use Rattle.gc_graph.specs.declared.action.ActionKind.{ActionKind}
use Rattle.gc_graph.specs.declared.kind.Kind.{Kind}
use Rattle.gc_graph.specs.declared.kind.Kind.TheVariants.{Strong, Weak, Pair, Plain}
use Rattle.gc_graph.specs.declared.kind.Value.{Value}
use Rattle.gc_graph.specs.declared.line.Line.{Line}
use Rattle.gc_graph.specs.declared.line.Line.TheVariants as L
use Rattle.gc_graph.specs.State.{ObjectType, Node, node_at, no_type, is_live}
use Rattle.gc_graph.specs.Actions.{acted, action_of, shown_words}
use Rattle.gc_graph.specs.Pause.{names_dead, is_dead_at, mask_of, kind_of_callback}

-- ---- for which nodes

-- of the words of fields of these kinds, which are weak ones that name a dead node
abbrev pub dying_words : (ℕ → Bool) → List Kind → List Value → List Bool
dying_words dead (Weak ∷ kinds) (value ∷ values) = names_dead dead value ∷ dying_words dead kinds values
dying_words dead (Strong ∷ kinds) (value ∷ values) = false ∷ dying_words dead kinds values
dying_words dead (Plain ∷ kinds) (value ∷ values) = false ∷ dying_words dead kinds values
dying_words dead (Pair ∷ kinds) (key ∷ value ∷ values) = false ∷ false ∷ dying_words dead kinds values
dying_words dead (Pair ∷ kinds) (key ∷ []) = false ∷ []
dying_words dead (kind ∷ kinds) [] = []
dying_words dead [] values = []

-- the number that stands for those of node n: 2^i for word i
abbrev pub dying_mask : List Node → ℕ → ℕ
dying_mask nodes n = mask_of (dying_words (is_dead_at nodes) (node_at nodes n).object.kinds (node_at nodes n).object.values)

-- a callback that runs for a node, and the number that stands for the node's words which weak clearing set to null
pub record WeakCall : Type 0 where
  pub node : ℕ
  pub callback : ℕ
  pub mask : ℕ

-- the callback of this number runs for the node
abbrev pub weak_call : ℕ → ℕ → ℕ → WeakCall
weak_call node mask callback = record { node = node; callback = callback; mask = mask }

-- the weak callbacks of node n, in their order, where it lives and weak clearing sets a field of it to null
abbrev pub calls_for : List ObjectType → List Node → ℕ → List WeakCall
calls_for types nodes n =
    if is_live (node_at nodes n).life && not (dying_mask nodes n == 0)
    then map (weak_call n (dying_mask nodes n)) (slice_index_or types (node_at nodes n).object.ty no_type).weak_callbacks
    else []

-- all that a pause runs, in the order of the nodes' numbers, where these are the nodes after judgement
abbrev pub weak_calls : List ObjectType → List Node → List WeakCall
weak_calls types nodes = flat_map (calls_for types nodes) (range_with_len 0 (length nodes))

-- ---- what they are shown, and what they do

-- a word is shown as 2 where its bit of the mask is set, bit i for word i
abbrev pub shown_under : ℕ → List ℕ → List ℕ
shown_under mask [] = []
shown_under mask (word ∷ words) = (if mask % 2 == 0 then word else 2) ∷ shown_under (mask / 2) words

-- each callback acts on what the ones before it left, and is shown the words that they left
abbrev pub called : List ActionKind → List WeakCall → List Node → List Node
called callbacks [] nodes = nodes
called callbacks (c ∷ more) nodes =
    called callbacks more
    (acted nodes c.node (action_of (kind_of_callback callbacks c.callback) (shown_under c.mask (shown_words (node_at nodes c.node)))))

-- a line for each weak callback that ran
abbrev pub weakcall_lines : List WeakCall → List Line
weakcall_lines calls = map (λ c. L.WeakCall c.node c.callback) calls
