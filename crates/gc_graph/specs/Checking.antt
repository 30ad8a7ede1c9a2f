-- What a check of a set against a graph looks at, field by field.
use Rattle.std.specs.Prelude.{◌≡◌, ℕ, ◌==◌, ◌&&◌, ◌||◌, not, Bool, true, List, [], ◌∷◌, Option, None, Some, drop, slice_index_or}
use Rattle.std.specs.List.{list_any}
use Rattle.gc_graph.specs.declared.kind.Kind.{Kind}
use Rattle.gc_graph.specs.declared.kind.Kind.TheVariants.{Strong, Weak, Pair, Plain}
use Rattle.gc_graph.specs.declared.kind.Value.{Value}
use Rattle.gc_graph.specs.declared.kind.Value.TheVariants.{Null}
use Rattle.gc_graph.specs.Graph.{Object}
use Rattle.gc_graph.specs.Fields.{words_of_kind, target_of}

-- a set as a list of its members, in any order: n is one of them
abbrev pub is_listed : List ℕ → ℕ → Bool
is_listed members n = list_any (λ m. m == n) members

-- the members include each of the numbers
abbrev pub ListsEach : List ℕ → List ℕ → Type 0
ListsEach members numbers = (n : ℕ) → is_listed numbers n ≡ true → is_listed members n ≡ true

-- the node that the value at a position names
abbrev pub target_at : List Value → ℕ → Option ℕ
target_at values i = target_of (slice_index_or values i Null)

-- a target passes, where there is one
abbrev pub passes : (ℕ → Bool) → Option ℕ → Bool
passes test None = true
passes test (Some n) = test n

-- the value of a pair passes, where the key does
abbrev pub pair_passes : (ℕ → Bool) → Option ℕ → Option ℕ → Bool
pair_passes test None value = true
pair_passes test (Some key) value = not (test key) || passes test value

-- what a field leads to passes; the values are its own and those of the fields after it
abbrev pub field_closes : (ℕ → Bool) → Kind → List Value → Bool
field_closes test Strong values = passes test (target_at values 0)
field_closes test Weak values = true
field_closes test Pair values = pair_passes test (target_at values 0) (target_at values 1)
field_closes test Plain values = true

-- what fields lead to passes
abbrev pub fields_close : (ℕ → Bool) → List Kind → List Value → Bool
fields_close test [] values = true
fields_close test (kind ∷ kinds) values = field_closes test kind values && fields_close test kinds (drop (words_of_kind kind) values)

-- what an object leads to passes
abbrev pub object_closes : (ℕ → Bool) → Object → Bool
object_closes test object = fields_close test object.kinds object.values
