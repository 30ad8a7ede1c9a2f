-- The state of a heap as a graph.
use Rattle.std.specs.Prelude.{◌≡◌, ℕ, ◌+◌, Bool, true, false, List, [], ◌∷◌, ◌++◌, length, map, Option, Some, None, replicate, if◌then◌else◌, slice_index_or, count_by, sum_by}
use Rattle.gc_graph.specs.declared.action.ActionKind.{ActionKind}
use Rattle.gc_graph.specs.declared.command.Order.{Order}
use Rattle.gc_graph.specs.declared.kind.Kind.{Kind}
use Rattle.gc_graph.specs.declared.phase.Phase.{Phase}
use Rattle.gc_graph.specs.declared.phase.Phase.TheVariants.{Idle}
use Rattle.gc_graph.specs.declared.region.Entry.{Entry}
use Rattle.gc_graph.specs.Graph.{Object, no_object}

-- how many pages a heap has, and how many words a page
pub record Shape : Type 0 where
  pub pages : ℕ
  pub page_words : ℕ

-- what a type line declares: the kinds of the fields, and the callbacks that are the type's prefinalizers and its weak
-- callbacks
pub record ObjectType : Type 0 where
  pub kinds : List Kind
  pub prefinalizers : List ℕ
  pub weak_callbacks : List ℕ

-- what stands at a number that no type has
abbrev pub no_type : ObjectType
no_type = record { kinds = []; prefinalizers = []; weak_callbacks = [] }

-- what the options, the script and the program fix: the shape of the heap, how many markers run, the types by number,
-- and the kinds of the callbacks by number
pub record Setup : Type 0 where
  pub shape : Shape
  pub markers : ℕ
  pub types : List ObjectType
  pub callbacks : List ActionKind

-- the type with this number
abbrev pub type_at : Setup → ℕ → ObjectType
type_at setup t = slice_index_or setup.types t no_type

-- a node is live until a pause condemns it, then dead, and gone once it is finalised
pub data Life : Type 0 where
  Live : Life
  Dead : Life
  Gone : Life

-- not condemned
abbrev pub is_live : Life → Bool
is_live Live = true
is_live Dead = false
is_live Gone = false

-- condemned, and not yet finalised
abbrev pub is_dead : Life → Bool
is_dead Live = false
is_dead Dead = true
is_dead Gone = false

-- there from the making until the finalisation
abbrev pub is_there : Life → Bool
is_there Live = true
is_there Dead = true
is_there Gone = false

-- a node: its object, the address of its first word, and where it stands in its life
pub record Node : Type 0 where
  pub object : Object
  pub place : ℕ
  pub life : Life

-- what stands at a number that no node has
abbrev pub no_node : Node
no_node = record { object = no_object; place = 0; life = Gone }

-- the node with this number
abbrev pub node_at : List Node → ℕ → Node
node_at nodes n = slice_index_or nodes n no_node

-- the node with this number is live
abbrev pub IsLive : List Node → ℕ → Type 0
IsLive nodes n = (node_at nodes n).life ≡ Live

-- the node with this number is dead
abbrev pub IsDead : List Node → ℕ → Type 0
IsDead nodes n = (node_at nodes n).life ≡ Dead

-- a header, a serial number, and the words of the fields and of the extra words
abbrev pub size_of : Node → ℕ
size_of node = 2 + length node.object.values

-- a word of the stack: a pointer to the word at an offset of a node, or a number (precise and conservative
-- garbage collection, `include/cppgc/README.md`)
pub data StackWord : Type 0 where
  Pointer : ℕ → ℕ → StackWord
  Number : ℕ → StackWord

-- a slot of the region: null, strong or weak (`CrossThreadPersistent` and `WeakCrossThreadPersistent`,
-- `include/cppgc/cross-thread-persistent.h`)
pub data RegionSlot : Type 0 where
  Vacant : RegionSlot
  StrongTo : ℕ → RegionSlot
  WeakTo : ℕ → RegionSlot

-- a callback that is to run when the node dies (`CPPGC_USING_PRE_FINALIZER`, `include/cppgc/prefinalizer.h`)
pub record Registration : Type 0 where
  pub node : ℕ
  pub callback : ℕ

-- the state of a heap between two commands
pub record State : Type 0 where
  -- by number
  pub nodes : List Node
  -- what each strong slot and each weak slot names (`Persistent` and `WeakPersistent`, `include/cppgc/persistent.h`)
  pub slots : List (Option ℕ)
  pub weak : List (Option ℕ)
  -- the last word first
  pub stack : List StackWord
  pub region : List RegionSlot
  -- in the order in which they were made
  pub registrations : List Registration
  pub phase : Phase
  -- how many pages the open sweep has swept
  pub cursor : ℕ
  -- while marking goes on: the pause keeps nothing but what these nodes and the hits reach
  pub may : List Bool
  -- how many objects the steps of this cycle have traced
  pub traced : ℕ
  -- the orders of threads 1 to 8 that wait, and the numbers of the threads that run
  pub queues : List (List Order)
  pub running : List ℕ
  -- the threads were told to go, and not yet joined
  pub awaiting : Bool
  -- the entries of the region's history that were taken and not yet printed
  pub unprinted : List Entry
  -- commands that were answered
  pub ordinal : ℕ
  pub pauses : ℕ
  pub finalised : ℕ
  -- outcomes that were full
  pub full : ℕ

-- a heap without objects: 256 strong slots, 64 weak ones and 32 of the region, all null; an empty stack; no orders
abbrev pub empty_state : State
empty_state = record {
  nodes = [];
  slots = replicate 256 None;
  weak = replicate 64 None;
  stack = [];
  region = replicate 32 Vacant;
  registrations = [];
  phase = Idle;
  cursor = 0;
  may = [];
  traced = 0;
  queues = replicate 8 [];
  running = [];
  awaiting = false;
  unprinted = [];
  ordinal = 0;
  pauses = 0;
  finalised = 0;
  full = 0;
}

-- the graph of the nodes: their objects
abbrev pub graph_of : List Node → List Object
graph_of nodes = map (λ n. n.object) nodes

-- the targets of the slots that aren't null
abbrev pub slot_targets : List (Option ℕ) → List ℕ
slot_targets [] = []
slot_targets (Some n ∷ slots) = n ∷ slot_targets slots
slot_targets (None ∷ slots) = slot_targets slots

-- the nodes that the stack's pointers name
abbrev pub stack_targets : List StackWord → List ℕ
stack_targets [] = []
stack_targets (Pointer n offset ∷ stack) = n ∷ stack_targets stack
stack_targets (Number w ∷ stack) = stack_targets stack

-- the nodes that the strong slots of the region name
abbrev pub strong_region_targets : List RegionSlot → List ℕ
strong_region_targets [] = []
strong_region_targets (Vacant ∷ region) = strong_region_targets region
strong_region_targets (StrongTo n ∷ region) = n ∷ strong_region_targets region
strong_region_targets (WeakTo n ∷ region) = strong_region_targets region

-- the roots: what the strong slots, the stack's pointers and the strong region slots name
abbrev pub roots_of : State → List ℕ
roots_of s = slot_targets s.slots ++ stack_targets s.stack ++ strong_region_targets s.region

-- how many objects are not finalised
abbrev pub objects_of : List Node → ℕ
objects_of nodes = count_by (λ n. is_there n.life) nodes

-- the words of the objects that are not finalised
abbrev pub used_of : List Node → ℕ
used_of nodes = sum_by (λ n. if is_there n.life then size_of n else 0) nodes
