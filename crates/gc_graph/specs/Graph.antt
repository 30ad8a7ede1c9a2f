-- Nodes with their fields, sets of nodes, and closed sets.
use Rattle.std.specs.Prelude.{◌≡◌, ℕ, ◌==◌, ◌&&◌, ◌||◌, Bool, true, false, List, [], ◌∷◌, slice_index_or}
use Rattle.std.specs.List.{list_any}
use Rattle.gc_graph.specs.declared.kind.Kind.{Kind}
use Rattle.gc_graph.specs.declared.kind.Kind.TheVariants.{Strong, Pair}
use Rattle.gc_graph.specs.declared.kind.Value.{Value}
use Rattle.gc_graph.specs.declared.kind.Value.TheVariants.{Ref}

-- an object of the graph: its type, how many extra words it has, the kinds of its declared fields, and one value for
-- each word of these and for each extra word (`include/cppgc/garbage-collected.h`, `allocation.h`)
pub record Object : Type 0 where
  pub ty : ℕ
  pub extra : ℕ
  pub kinds : List Kind
  pub values : List Value

-- what stands at a position where there is no object
abbrev pub no_object : Object
no_object = record { ty = 0; extra = 0; kinds = []; values = [] }

-- a graph is a list of objects; a node is a position in it
abbrev pub object_at : List Object → ℕ → Object
object_at graph n = slice_index_or graph n no_object

-- strong edges: the targets of the strong fields that aren't null (`Member`, `include/cppgc/member.h`)
abbrev pub strong_targets : List Kind → List Value → List ℕ
strong_targets (Strong ∷ kinds) (Ref t ∷ values) = t ∷ strong_targets kinds values
strong_targets (Pair ∷ kinds) (key ∷ value ∷ values) = strong_targets kinds values
strong_targets (kind ∷ kinds) (value ∷ values) = strong_targets kinds values
strong_targets (kind ∷ kinds) [] = []
strong_targets [] values = []

-- pair edges: the keys and values of the pairs in which neither is null (`EphemeronPair`,
-- `include/cppgc/ephemeron-pair.h`)
abbrev pub pair_targets : List Kind → List Value → List (ℕ × ℕ)
pair_targets (Pair ∷ kinds) (Ref key ∷ Ref value ∷ values) = (key, value) ∷ pair_targets kinds values
pair_targets (Pair ∷ kinds) (key ∷ value ∷ values) = pair_targets kinds values
pair_targets (kind ∷ kinds) (value ∷ values) = pair_targets kinds values
pair_targets (kind ∷ kinds) [] = []
pair_targets [] values = []

-- a set of nodes has a flag for each node, and past its end nothing is in it
abbrev pub has : List Bool → ℕ → Bool
has set n = slice_index_or set n false

-- the node is in the set
abbrev pub IsIn : List Bool → ℕ → Type 0
IsIn set n = has set n ≡ true

-- each node of the set is in the other
abbrev pub IsWithin : List Bool → List Bool → Type 0
IsWithin set other = (n : ℕ) → IsIn set n → IsIn other n

-- the object leads to n: by a strong edge, or by a pair edge whose key passes the test
abbrev pub leads_by : (ℕ → Bool) → Object → ℕ → Bool
leads_by test object n =
    list_any (λ t. t == n) (strong_targets object.kinds object.values)
    || list_any (λ p. test p.0 && (p.1 == n)) (pair_targets object.kinds object.values)

-- what passes the test is closed: it has what the strong fields of what passes name, and the value of each of their
-- pairs whose key passes
abbrev pub ClosesUnder : List Object → (ℕ → Bool) → Type 0
ClosesUnder graph test = (m n : ℕ) → test m ≡ true → leads_by test (object_at graph m) n ≡ true → test n ≡ true

-- the object leads to n, where the set tells which keys count
abbrev pub leads_to : List Bool → Object → ℕ → Bool
leads_to set = leads_by (has set)

-- closed: it holds what its members' strong fields name, and the value of each of their pairs whose key it holds
abbrev pub IsClosed : List Object → List Bool → Type 0
IsClosed graph set = ClosesUnder graph (has set)
