-- What a pause keeps, what it condemns, which weak handles it clears, and which prefinalizers it runs.
use Rattle.std.specs.Prelude.{ℕ, ◌+◌, ◌*◌, Bool, true, false, List, [], ◌∷◌, ◌++◌, map, filter, reverse, Option, Some, None, count_by, if◌then◌else◌, slice_index_or}
use Rattle.gc_graph.specs.declared.action.ActionKind.{ActionKind}
use Rattle.gc_graph.specs.declared.action.ActionKind.TheVariants as K
use Rattle.gc_graph.specs.declared.kind.Kind.{Kind}
use Rattle.gc_graph.specs.declared.kind.Kind.TheVariants.{Strong, Weak, Pair, Plain}
use Rattle.gc_graph.specs.declared.kind.Value.{Value}
use Rattle.gc_graph.specs.declared.kind.Value.TheVariants.{Null, Ref, Word}
use Rattle.gc_graph.specs.declared.line.Line.{Line}
use Rattle.gc_graph.specs.declared.line.Line.TheVariants as L
use Rattle.gc_graph.specs.Graph.{IsClosed, IsWithin}
use Rattle.gc_graph.specs.Reach.{Reach}
use Rattle.gc_graph.specs.State.{State, Node, Life, RegionSlot, Registration, node_at, is_live, is_dead, graph_of, roots_of}
use Rattle.gc_graph.specs.State.Life.{Live, Dead, Gone}
use Rattle.gc_graph.specs.May.{members}
use Rattle.gc_graph.specs.History.{weak_target}
use Rattle.gc_graph.specs.Actions.{shown_words, action_of, acted}

-- the least that a pause keeps: what the roots and the hits reach
abbrev pub least_kept : State → List ℕ → List Bool
least_kept s hits = Reach (graph_of s.nodes) (roots_of s ++ hits)

-- the most that it keeps: what the nodes that may be kept and the hits reach
abbrev pub most_kept : State → List ℕ → List Bool
most_kept s hits = Reach (graph_of s.nodes) (members s.may ++ hits)

-- a pause keeps a closed set between the two (atomic, incremental and concurrent garbage collection,
-- `include/cppgc/README.md`)
pub record IsKept (s : State) (hits : List ℕ) (kept : List Bool) : Type 0 where
  pub closed : IsClosed (graph_of s.nodes) kept
  pub reached : IsWithin (least_kept s hits) kept
  pub bounded : IsWithin kept (most_kept s hits)

-- a live node that isn't kept is condemned
abbrev pub judged : Bool → Life → Life
judged true life = life
judged false Live = Dead
judged false Dead = Dead
judged false Gone = Gone

-- a set has a flag for each node, and a node past its end isn't kept
abbrev pub condemn : List Bool → List Node → List Node
condemn kept [] = []
condemn [] (node ∷ nodes) = record node { life = judged false node.life } ∷ condemn [] nodes
condemn (flag ∷ kept) (node ∷ nodes) = record node { life = judged flag node.life } ∷ condemn kept nodes

-- how many nodes live
abbrev pub live_count : List Node → ℕ
live_count nodes = count_by (λ n. is_live n.life) nodes

-- how many nodes are dead
abbrev pub dead_count : List Node → ℕ
dead_count nodes = count_by (λ n. is_dead n.life) nodes

-- whether node n is dead
abbrev pub is_dead_at : List Node → ℕ → Bool
is_dead_at nodes n = is_dead (node_at nodes n).life

-- ---- weak handles to dead nodes become null (`WeakMember`, `WeakPersistent`, `EphemeronPair`)

-- whether the value names a dead node
abbrev pub names_dead : (ℕ → Bool) → Value → Bool
names_dead dead Null = false
names_dead dead (Ref n) = dead n
names_dead dead (Word w) = false

-- the weak fields that name a dead node, and both words of the pairs whose key is dead
abbrev pub cleared_values : (ℕ → Bool) → List Kind → List Value → List Value
cleared_values dead (Weak ∷ kinds) (value ∷ values) =
    (if names_dead dead value then Null else value) ∷ cleared_values dead kinds values
cleared_values dead (Pair ∷ kinds) (key ∷ value ∷ values) =
    (if names_dead dead key then Null else key) ∷ (if names_dead dead key then Null else value) ∷ cleared_values dead kinds values
cleared_values dead (Pair ∷ kinds) (key ∷ []) = key ∷ []
cleared_values dead (Strong ∷ kinds) (value ∷ values) = value ∷ cleared_values dead kinds values
cleared_values dead (Plain ∷ kinds) (value ∷ values) = value ∷ cleared_values dead kinds values
cleared_values dead (kind ∷ kinds) [] = []
cleared_values dead [] values = values

-- the node with its weak fields and pairs cleared
abbrev pub with_cleared : (ℕ → Bool) → Node → Node
with_cleared dead node =
    record node { object = record node.object { values = cleared_values dead node.object.kinds node.object.values } }

-- the fields of dead holders stay as they are
abbrev pub clear_node : (ℕ → Bool) → Node → Node
clear_node dead node = if is_live node.life then with_cleared dead node else node

-- the fields of all live nodes are cleared
abbrev pub clear_fields : List Node → List Node
clear_fields nodes = map (clear_node (is_dead_at nodes)) nodes

-- a weak slot that names a dead node becomes null
abbrev pub clear_slot : (ℕ → Bool) → Option ℕ → Option ℕ
clear_slot dead None = None
clear_slot dead (Some n) = if dead n then None else Some n

-- whether a node is named, and dead
abbrev pub names_dead_node : (ℕ → Bool) → Option ℕ → Bool
names_dead_node dead None = false
names_dead_node dead (Some n) = dead n

-- the number that stands for the set flags: 2^x for flag x
abbrev pub mask_of : List Bool → ℕ
mask_of [] = 0
mask_of (flag ∷ flags) = (if flag then 1 else 0) + 2 * mask_of flags

-- the weak slots of the region that name a dead node
abbrev pub dying_slots : List Node → List RegionSlot → ℕ
dying_slots nodes region = mask_of (map (λ slot. names_dead_node (is_dead_at nodes) (weak_target slot)) region)

-- what weak clearing leaves, where these are the nodes after judgement: the nodes with their weak fields and pairs cleared,
-- the weak slots, and the number that stands for the slots of the region that it clears
pub record Cleared : Type 0 where
  pub nodes : List Node
  pub weak : List (Option ℕ)
  pub region_mask : ℕ

-- weak clearing of a state whose nodes were judged
abbrev pub cleared : State → List Node → Cleared
cleared s judged_nodes = record {
  nodes = clear_fields judged_nodes;
  weak = map (clear_slot (is_dead_at judged_nodes)) s.weak;
  region_mask = dying_slots judged_nodes s.region;
}

-- ---- prefinalizers of dead nodes run, the last that was registered first (`include/cppgc/prefinalizer.h`)

-- whether the node of the registration is dead
abbrev pub dies : List Node → Registration → Bool
dies nodes registration = is_dead_at nodes registration.node

-- the registrations that are run, in the order in which they are
abbrev pub run_order : List Node → List Registration → List Registration
run_order nodes registrations = reverse (filter (dies nodes) registrations)

-- what callback c does; nothing past the last
abbrev pub kind_of_callback : List ActionKind → ℕ → ActionKind
kind_of_callback callbacks c = slice_index_or callbacks c K.Nothing

-- each callback acts on what the ones before it left
abbrev pub prefinalised : List ActionKind → List Registration → List Node → List Node
prefinalised callbacks [] nodes = nodes
prefinalised callbacks (r ∷ more) nodes =
    prefinalised callbacks more
    (acted nodes r.node (action_of (kind_of_callback callbacks r.callback) (shown_words (node_at nodes r.node))))

-- a line for each prefinalizer that was run
abbrev pub prefinalise_lines : List Registration → List Line
prefinalise_lines registrations = map (λ r. L.Prefinalise r.node r.callback) registrations
