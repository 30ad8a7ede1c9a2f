-- The objects of a heap while prefinalizers run on them.
use Rattle.std.specs.Prelude.{◌≡◌, ℕ, ◌≤◌, false, List, [], length, All, ⊤}
use Rattle.gc_graph.specs.declared.action.ActionKind.{ActionKind}
use Rattle.gc_graph.specs.declared.kind.Value.{Value}
use Rattle.gc_graph.specs.declared.kind.Value.TheVariants.{Null, Ref, Word}
use Rattle.gc_graph.specs.State.{Setup, ObjectType, Node, node_at}
use Rattle.gc_graph.specs.ActionLaw.{AreTyped}
use Rattle.page_words.specs.Seat.{SeatView}
use Rattle.nodes_in_words.specs.Space.{SpaceView, IsSpaceOf}
use Rattle.nodes_in_words.specs.Nodes.{IsThere, IsHeld, most_nodes}
use Rattle.nodes_in_words.specs.Places.{BodiesAreJudged}

-- what was set up
abbrev pub setup_in_space : SpaceView → List ObjectType → List ActionKind → Setup
setup_in_space space types callbacks = record { shape = space.shape; markers = 0; types = types; callbacks = callbacks }

-- null, a number, or the name of a node that is there
abbrev pub NamesThere : List Node → Value → Type 0
NamesThere nodes Null = ⊤
NamesThere nodes (Ref n) = IsThere nodes n
NamesThere nodes (Word w) = ⊤

-- the nodes that are there, dead ones too, name nothing but nodes that are there
abbrev pub AllNameThere : List Node → Type 0
AllNameThere nodes = (n : ℕ) → IsThere nodes n → All (NamesThere nodes) (node_at nodes n).object.values

-- marking is over, and each object is marked or dead; nothing was swept yet, so that each names objects that are there
pub record IsPrepared (space : SpaceView) (types : List ObjectType) (v : SeatView) (nodes : List Node) : Type 0 where
  pub known : v.types ≡ types
  pub laid : IsSpaceOf space v
  pub off : v.on ≡ false
  pub held : IsHeld nodes v
  pub few : length nodes ≤ most_nodes
  pub typed : AreTyped (setup_in_space space types []) nodes
  pub named : AllNameThere nodes
  pub judged : BodiesAreJudged v
