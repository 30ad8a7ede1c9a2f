-- What holds of every state that a lawful run comes to.
use Rattle.std.specs.Prelude.{◌≡◌, ◌≢◌, ◌⊎◌, ℕ, ◌+◌, ◌*◌, ◌<◌, ◌≤◌, true, List, [], ◌∷◌, length, All, ⊤}
use Rattle.gc_graph.specs.declared.kind.Kind.{Kind}
use Rattle.gc_graph.specs.declared.kind.Kind.TheVariants.{Strong, Weak, Pair, Plain}
use Rattle.gc_graph.specs.declared.kind.Value.{Value}
use Rattle.gc_graph.specs.declared.kind.Value.TheVariants.{Null, Ref, Word}
use Rattle.gc_graph.specs.declared.phase.Phase.{Phase}
use Rattle.gc_graph.specs.declared.phase.Phase.TheVariants.{Idle, Marking, Sweeping}
use Rattle.gc_graph.specs.Graph.{IsIn, IsClosed}
use Rattle.gc_graph.specs.Reach.{HoldsAll}
use Rattle.gc_graph.specs.State.{Setup, Shape, State, Node, RegionSlot, node_at, type_at, is_there, IsLive, IsDead, size_of, graph_of, roots_of, slot_targets, stack_targets}
use Rattle.gc_graph.specs.State.RegionSlot.{Vacant, StrongTo, WeakTo}
use Rattle.gc_graph.specs.Fields.{field_words}
use Rattle.gc_graph.specs.Pages.{ArePure}

-- ---- objects

-- null, or the number of a node below the bound
abbrev pub IsReferenceBelow : ℕ → Value → Type 0
IsReferenceBelow bound Null = ⊤
IsReferenceBelow bound (Ref n) = n < bound
IsReferenceBelow bound (Word w) = ⊥

-- a plain word
abbrev pub IsPlainWord : Value → Type 0
IsPlainWord Null = ⊥
IsPlainWord (Ref n) = ⊥
IsPlainWord (Word w) = ⊤

-- a pair has no null word beside one that isn't null
abbrev pub ArePaired : Value → Value → Type 0
ArePaired Null value = value ≡ Null
ArePaired (Ref n) value = value ≢ Null
ArePaired (Word w) value = ⊥

-- the values are of their fields' kinds, and the words after the fields are plain
abbrev pub HaveKinds : ℕ → List Kind → List Value → Type 0
HaveKinds bound (Strong ∷ kinds) (value ∷ values) = IsReferenceBelow bound value × HaveKinds bound kinds values
HaveKinds bound (Weak ∷ kinds) (value ∷ values) = IsReferenceBelow bound value × HaveKinds bound kinds values
HaveKinds bound (Pair ∷ kinds) (key ∷ value ∷ values) =
    IsReferenceBelow bound key × IsReferenceBelow bound value × ArePaired key value × HaveKinds bound kinds values
HaveKinds bound (Pair ∷ kinds) (key ∷ []) = ⊥
HaveKinds bound (Plain ∷ kinds) (value ∷ values) = IsPlainWord value × HaveKinds bound kinds values
HaveKinds bound (kind ∷ kinds) [] = ⊥
HaveKinds bound [] values = All IsPlainWord values

-- the object has the fields of its type and its extra words, and names nothing but numbers below the bound
pub record IsTyped (setup : Setup) (bound : ℕ) (node : Node) : Type 0 where
  pub ty : node.object.ty < length setup.types
  pub kinds_are : node.object.kinds ≡ (type_at setup node.object.ty).kinds
  pub values_are : HaveKinds bound node.object.kinds node.object.values
  pub count : length node.object.values ≡ field_words node.object.kinds + node.object.extra

-- no other node than a live one is named
abbrev pub NamesLive : List Node → Value → Type 0
NamesLive nodes Null = ⊤
NamesLive nodes (Ref n) = IsLive nodes n
NamesLive nodes (Word w) = ⊤

-- the node with this number is live or dead
abbrev pub IsThere : List Node → ℕ → Type 0
IsThere nodes n = is_there (node_at nodes n).life ≡ true

-- the objects have no word in common
abbrev pub AreApart : Node → Node → Type 0
AreApart x y = (x.place + size_of x ≤ y.place) ⊎ (y.place + size_of y ≤ x.place)

-- how many words the heap has
abbrev pub word_count : Shape → ℕ
word_count shape = shape.pages * shape.page_words

-- ---- handles

-- each of these is live
abbrev pub AreLive : List Node → List ℕ → Type 0
AreLive nodes targets = All (IsLive nodes) targets

-- what the region's slots name, strong and weak
abbrev pub region_targets : List RegionSlot → List ℕ
region_targets [] = []
region_targets (Vacant ∷ region) = region_targets region
region_targets (StrongTo n ∷ region) = n ∷ region_targets region
region_targets (WeakTo n ∷ region) = n ∷ region_targets region

-- ---- phases

-- no node is dead outside a sweep, and in a sweep the dead ones lie in pages that are not yet swept
abbrev pub IsSettled : Shape → Phase → ℕ → List Node → Type 0
IsSettled shape Idle cursor nodes = (n : ℕ) → IsDead nodes n → ⊥
IsSettled shape Marking cursor nodes = (n : ℕ) → IsDead nodes n → ⊥
IsSettled shape Sweeping cursor nodes =
    (cursor < shape.pages) × ((n : ℕ) → IsDead nodes n → cursor * shape.page_words ≤ (node_at nodes n).place)

-- while marking goes on, what may be kept is closed, holds the roots, and has live nodes alone
pub record IsMay (s : State) : Type 0 where
  pub closed : IsClosed (graph_of s.nodes) s.may
  pub roots : HoldsAll s.may (roots_of s)
  pub live : (n : ℕ) → IsIn s.may n → IsLive s.nodes n
  pub whole : length s.may ≡ length s.nodes

-- while marking goes on, the nodes that may be kept are these
abbrev pub HasMay : Phase → State → Type 0
HasMay Idle s = ⊤
HasMay Marking s = IsMay s
HasMay Sweeping s = ⊤

-- a state is valid: objects are typed and lie apart in the heap, in pages that are pure; live nodes and handles name
-- live nodes
pub record IsValid (setup : Setup) (s : State) : Type 0 where
  pub typed : All (IsTyped setup (length s.nodes)) s.nodes
  pub named : (n : ℕ) → IsLive s.nodes n → All (NamesLive s.nodes) (node_at s.nodes n).object.values
  pub apart : (m n : ℕ) → m ≢ n → IsThere s.nodes m → IsThere s.nodes n → AreApart (node_at s.nodes m) (node_at s.nodes n)
  pub within : (n : ℕ) → IsThere s.nodes n → (node_at s.nodes n).place + size_of (node_at s.nodes n) ≤ word_count setup.shape
  pub pure : ArePure setup.shape.page_words s.nodes
  pub slots : AreLive s.nodes (slot_targets s.slots)
  pub weak : AreLive s.nodes (slot_targets s.weak)
  pub stack : AreLive s.nodes (stack_targets s.stack)
  pub region : AreLive s.nodes (region_targets s.region)
  pub registered : All (λ r. IsLive s.nodes r.node) s.registrations
  pub settled : IsSettled setup.shape s.phase s.cursor s.nodes
  pub may_kept : HasMay s.phase s
