-- The objects in the words are the nodes, and what calls on them change.
use Rattle.std.specs.Prelude.{◌≡◌, ℕ, ◌+◌, ◌<◌, ◌≤◌, List, [], ◌∷◌, ◌++◌, length, Option, Some, None, option_map, All, slice_set}
use Rattle.gc_graph.specs.declared.kind.Value.{Value}
use Rattle.gc_graph.specs.declared.action.ActionKind.{ActionKind}
use Rattle.gc_graph.specs.State.{Shape, Setup, ObjectType, Node, node_at, size_of, IsLive}
use Rattle.gc_graph.specs.Fields.{word_of_field, with_value, target_of, new_node}
use Rattle.page_words.specs.Seat.{SeatView, IsStill}
use Rattle.page_space.specs.Space.{SpaceView, IsSpaceOf}
use Rattle.atomic_pause.specs.WeakCalling.{MayCallBack}
use Rattle.atomic_pause.specs.Nodes.{place_of, word_of, IsHeld}
use Rattle.heap_objects.specs.declared.marking.Grey.{Grey}
use Rattle.heap_objects.specs.Fields.{IsLiveReference}
use Rattle.heap_objects.specs.Marking.{GreyView, HasFound, grey_of, refused_in}
use Rattle.heap_objects.specs.Refused.{RefusedCounts, RefusalsTold}

-- the objects: the heap's shape and types, the kinds of its callbacks, the nodes, what is known of the words but for the
-- headers that were looked at, and what is kept of marking
pub record ObjectsView : Type 0 where
  pub shape : Shape
  pub types : List ObjectType
  pub callbacks : List ActionKind
  pub nodes : List Node
  pub seat : SeatView
  pub grey : GreyView

-- how many pushes and notes were refused since the heap was made
abbrev pub refused_of : ObjectsView → RefusedCounts
refused_of o = refused_in o.grey

-- what the objects tell of refusals
abbrev pub refusals_told_of : ObjectsView → RefusalsTold
refusals_told_of o = record { now = refused_of o; since = o.grey.since }

-- what was set up
abbrev pub setup_of_objects : ObjectsView → Setup
setup_of_objects o = record { shape = o.shape; markers = o.grey.markers; types = o.types; callbacks = o.callbacks }

-- each type has at most 16 prefinalizers and 16 weak callbacks, there are so many callbacks that each of these is one, and all words of
-- whoever has a weak one are shown
pub record HaveCallbacks (callbacks : ℕ) (types : List ObjectType) : Type 0 where
  pub few : All (λ type. length type.prefinalizers ≤ 16) types
  pub known : All (λ type. All (λ number. number < callbacks) type.prefinalizers) types
  pub few_weak : All (λ type. length type.weak_callbacks ≤ 16) types
  pub weak : MayCallBack callbacks types

-- the words hold the nodes, and the next number is the one that no node has; a header can name each type; nothing is in hand and
-- nothing waits for its mark; the owner's state tells whether marking goes on, beside notes of its own; and what it tells as found
-- traced the seat found so
pub record AreObjects
    (space : SpaceView) (v : SeatView) (types : List ObjectType) (callbacks : List ActionKind) (made : ℕ) (nodes : List Node) (grey : Grey)
    : Type 0 where
  pub called : HaveCallbacks (length callbacks) types
  pub few : length types < 16384
  pub known : v.types ≡ types
  pub laid : IsSpaceOf space v
  pub still : IsStill v
  pub held : IsHeld nodes v
  pub numbers_are : made ≡ length nodes
  pub told : grey.marking.on ≡ v.on
  pub own : 0 < length grey.crew.notes
  pub found : HasFound v (grey_of grey)

-- ---- reading

-- the node lies where it lay, with the size that it had
abbrev pub StaysAt : List Node → List Node → ℕ → Type 0
StaysAt old new n = (place_of new n ≡ place_of old n) × (size_of (node_at new n) ≡ size_of (node_at old n))

-- a live node is there, and this is its place
abbrev pub IsLiveAt : List Node → ℕ → ℕ → Type 0
IsLiveAt nodes n place = IsLive nodes n × (place_of nodes n ≡ place)

-- the word stands for the value, which is null or names a live node
pub record IsReferenceTo (nodes : List Node) (x : Value) (w : ℕ) : Type 0 where
  pub word : w ≡ word_of (place_of nodes) x
  pub names : IsLiveReference nodes x

-- the place and the number of what a value names
abbrev pub target_in : List Node → Value → Option (ℕ × ℕ)
target_in nodes value = option_map (λ m. (place_of nodes m, m)) (target_of value)

-- ---- changing

-- a new object joins the nodes where there was a place for it
abbrev pub with_made : Setup → List Node → ℕ → ℕ → Option ℕ → List Node
with_made setup nodes t extra None = nodes
with_made setup nodes t extra (Some place) = nodes ++ new_node setup t extra place ∷ []

-- field f of the named node got the value
abbrev pub written_in : List Node → Option ℕ → ℕ → Value → List Node
written_in nodes None f value = nodes
written_in nodes (Some n) f value = slice_set nodes n (with_value (node_at nodes n) (word_of_field (node_at nodes n).object f) value)

-- the pair that is field f of the named node got the key and the value
abbrev pub paired_in : List Node → Option ℕ → ℕ → Value → Value → List Node
paired_in nodes None f key value = nodes
paired_in nodes (Some n) f key value =
    slice_set nodes n
    (with_value (with_value (node_at nodes n) (word_of_field (node_at nodes n).object f) key) (word_of_field (node_at nodes n).object f + 1) value)
