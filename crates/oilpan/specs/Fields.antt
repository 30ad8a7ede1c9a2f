-- The fields of an object as calls write and read them.
use Rattle.std.specs.Prelude.{◌≡◌, ℕ, ◌<◌, ◌≤◌, Bool, true, false, Option, Some, None, ⊤}
use Rattle.gc_graph.specs.declared.kind.Kind.{Kind}
use Rattle.gc_graph.specs.declared.kind.Value.{Value}
use Rattle.gc_graph.specs.declared.kind.Value.TheVariants.{Null, Ref}
use Rattle.gc_graph.specs.State.{State, node_at}
use Rattle.gc_graph.specs.Fields.{field_count, kind_of_field}
use Rattle.gc_graph.specs.Outcomes.{answered}
use Rattle.oilpan.specs.declared.errors.FieldError.{FieldError}
use Rattle.oilpan.specs.declared.errors.FieldError.TheVariants as F
use Rattle.oilpan.specs.declared.errors.GetError.{GetError}
use Rattle.oilpan.specs.declared.errors.GetError.TheVariants as G
use Rattle.oilpan.specs.declared.handles.Root.{Root}

-- the node has the field, which is of an allowed kind
pub record HasField (allowed : Kind → Bool) (s : State) (n f : ℕ) : Type 0 where
  pub there : f < field_count (node_at s.nodes n)
  pub allows : allowed (kind_of_field (node_at s.nodes n).object f) ≡ true

-- the node has such a field, and the state is this one, where one more command is counted
pub record IsFieldDone (allowed : Kind → Bool) (old : State) (n f : ℕ) (after new : State) : Type 0 where
  pub field : HasField allowed old n f
  pub done : new ≡ answered after

-- the node has no such field, or one of another kind
abbrev pub IsFault : (Kind → Bool) → State → ℕ → ℕ → FieldError → Type 0
IsFault allowed s n f F.Field = field_count (node_at s.nodes n) ≤ f
IsFault allowed s n f F.Kind = allowed (kind_of_field (node_at s.nodes n).object f) ≡ false

-- so it is, and nothing but the count of commands has changed
pub record IsFieldFault (allowed : Kind → Bool) (old : State) (n f : ℕ) (new : State) (why : FieldError) : Type 0 where
  pub reason : IsFault allowed old n f why
  pub left : new ≡ answered old

-- the root is for the node that the value names, and there is none for null
abbrev pub IsNamed : Value → Option Root → Type 0
IsNamed value (Some r) = value ≡ Ref r.node
IsNamed value None = value ≡ Null

-- no handle is left, or the node has no such field, or one of another kind
abbrev pub IsGetFault : (Kind → Bool) → State → ℕ → ℕ → GetError → Type 0
IsGetFault allowed s n f G.Field = IsFault allowed s n f F.Field
IsGetFault allowed s n f G.Kind = IsFault allowed s n f F.Kind
IsGetFault allowed s n f G.Handles = ⊤
