-- The laws of what prefinalizers do: what an action leaves of the nodes, and which words it writes.
use Rattle.std.specs.Prelude.{◌≡◌, ◌≢◌, ℕ, ◌+◌, ◌%◌, ◌^◌, ◌<◌, ◌≤◌, List, length, All}
use Rattle.gc_graph.specs.declared.action.Action.{Action}
use Rattle.gc_graph.specs.declared.action.Action.TheVariants as A
use Rattle.gc_graph.specs.declared.kind.Kind.TheVariants.{Strong, Plain}
use Rattle.gc_graph.specs.declared.kind.Value.TheVariants.{Null, Ref, Word}
use Rattle.gc_graph.specs.State.{Setup, Node, node_at}
use Rattle.gc_graph.specs.Fields.{field_count, kind_of_field, word_of_field, value_at}
use Rattle.gc_graph.specs.Actions.{acted}
use Rattle.gc_graph.specs.Commands.{IsWordOf}
use Rattle.gc_graph.specs.Valid.{IsTyped}

-- the nodes have the places, the lives and the types that they had
pub record HaveStayed (old new : List Node) : Type 0 where
  pub count : length new ≡ length old
  pub place : (n : ℕ) → (node_at new n).place ≡ (node_at old n).place
  pub life : (n : ℕ) → (node_at new n).life ≡ (node_at old n).life
  pub ty : (n : ℕ) → (node_at new n).object.ty ≡ (node_at old n).object.ty

-- each object has the fields of its type
abbrev pub AreTyped : Setup → List Node → Type 0
AreTyped setup nodes = All (IsTyped setup (length nodes)) nodes

-- an action leaves each object where and what it was, with the fields of its type
abbrev pub ActionsLeaveNodes : Type 0
ActionsLeaveNodes =
    (setup : Setup) (nodes : List Node) (dying : ℕ) (action : Action) → AreTyped setup nodes
    → HaveStayed nodes (acted nodes dying action) × AreTyped setup (acted nodes dying action)

-- ---- which words an action writes

-- the dying node's strong field of this number names the node
abbrev pub Links : List Node → ℕ → ℕ → ℕ → Type 0
Links nodes dying link n =
    (kind_of_field (node_at nodes dying).object link ≡ Strong)
    × (value_at (node_at nodes dying) (word_of_field (node_at nodes dying).object link) ≡ Ref n)

-- the other nodes, and the words of this one that aren't of the field, are as they were
pub record LeavesOthers (nodes : List Node) (n field : ℕ) (after : List Node) : Type 0 where
  pub others : (m : ℕ) → m ≢ n → node_at after m ≡ node_at nodes m
  pub words :
      (word : ℕ) → (IsWordOf (node_at nodes n).object field word → ⊥)
      → value_at (node_at after n) word ≡ value_at (node_at nodes n) word

-- each word of the field reads null; a plain field, and one that isn't there, stays as it was
pub record IsCleared (nodes : List Node) (n field : ℕ) (after : List Node) : Type 0 where
  pub null :
      (word : ℕ) → field < field_count (node_at nodes n) → kind_of_field (node_at nodes n).object field ≢ Plain
      → IsWordOf (node_at nodes n).object field word → value_at (node_at after n) word ≡ Null
  pub plain : kind_of_field (node_at nodes n).object field ≡ Plain → after ≡ nodes
  pub missing : field_count (node_at nodes n) ≤ field → after ≡ nodes
  pub rest : LeavesOthers nodes n field after

-- the field's number has grown by the amount, modulo 2^64; a field of another kind, and one that isn't there, stays as it was
pub record IsAdded (nodes : List Node) (n field amount : ℕ) (after : List Node) : Type 0 where
  pub sum :
      (w : ℕ) → field < field_count (node_at nodes n) → kind_of_field (node_at nodes n).object field ≡ Plain
      → value_at (node_at nodes n) (word_of_field (node_at nodes n).object field) ≡ Word w
      → value_at (node_at after n) (word_of_field (node_at nodes n).object field) ≡ Word ((w + amount) % 2 ^ 64)
  pub other : kind_of_field (node_at nodes n).object field ≢ Plain → after ≡ nodes
  pub missing : field_count (node_at nodes n) ≤ field → after ≡ nodes
  pub rest : LeavesOthers nodes n field after

-- an action writes the field of the node to which its link leads, and nothing where it leads to none
pub record WritesOneField (nodes : List Node) (dying link field : ℕ) : Type 0 where
  pub clear : (n : ℕ) → Links nodes dying link n → IsCleared nodes n field (acted nodes dying (A.Clear link field))
  pub add : (n amount : ℕ) → Links nodes dying link n → IsAdded nodes n field amount (acted nodes dying (A.Add link field amount))
  pub clear_none : ((n : ℕ) → Links nodes dying link n → ⊥) → acted nodes dying (A.Clear link field) ≡ nodes
  pub add_none : (amount : ℕ) → ((n : ℕ) → Links nodes dying link n → ⊥) → acted nodes dying (A.Add link field amount) ≡ nodes
  pub nothing : acted nodes dying A.Nothing ≡ nodes

-- so does each
abbrev pub ActionsWriteOneField : Type 0
ActionsWriteOneField = (nodes : List Node) (dying link field : ℕ) → WritesOneField nodes dying link field
