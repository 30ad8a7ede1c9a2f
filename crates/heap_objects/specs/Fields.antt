-- The fields of objects: which ones a command wants, where they are, and what they take.
use Rattle.std.specs.Prelude.{◌≡◌, ℕ, ◌+◌, ◌<◌, Bool, List, MatchBool, nat_lt, Result, Ok, Err, ⊤}
use Rattle.gc_graph.specs.declared.kind.Kind.{Kind}
use Rattle.gc_graph.specs.declared.kind.Kind.TheVariants.{Strong, Weak, Pair, Plain}
use Rattle.gc_graph.specs.declared.kind.Value.{Value}
use Rattle.gc_graph.specs.declared.kind.Value.TheVariants.{Null, Ref, Word}
use Rattle.gc_graph.specs.declared.line.Refusal.{Refusal}
use Rattle.gc_graph.specs.declared.line.Refusal.TheVariants as R
use Rattle.gc_graph.specs.State.{Node, node_at, IsLive}
use Rattle.gc_graph.specs.Fields.{field_count, kind_of_field, word_of_field, value_at, is_reference, is_pair, is_plain}
use Rattle.gc_graph.specs.Valid.{IsPlainWord, ArePaired}
use Rattle.object_headers.specs.Offsets.{first_field}
use Rattle.marker_core.specs.Bodies.{IsReference}
use Rattle.marker_core.specs.declared.states.Body.{Body}
use Rattle.heap_objects.specs.declared.field.Field.{Field}
use Rattle.heap_objects.specs.declared.field.Part.{Part}
use Rattle.heap_objects.specs.declared.field.Part.TheVariants as P
use Rattle.heap_objects.specs.declared.field.Wanted.{Wanted}
use Rattle.heap_objects.specs.declared.field.Wanted.TheVariants.{References, Numbers, Pairs}
use Rattle.atomic_pause.specs.Nodes.{place_of}

-- `set` and `get` speak of strong and weak fields, `put` and `word` of plain ones, `pair`, `key` and `val` of pairs
abbrev pub allows : Wanted → Kind → Bool
allows References kind = is_reference kind
allows Numbers kind = is_plain kind
allows Pairs kind = is_pair kind

-- ---- where a field is

-- the node's field f
abbrev pub field_of : List Node → ℕ → ℕ → Field
field_of nodes n f = record {
  holder = place_of nodes n;
  kind = kind_of_field (node_at nodes n).object f;
  word = first_field + word_of_field (node_at nodes n).object f;
}

-- this is the live node's field f
pub record IsFieldOf (nodes : List Node) (n f : ℕ) (field : Field) : Type 0 where
  pub live : IsLive nodes n
  pub there : f < field_count (node_at nodes n)
  pub is : field ≡ field_of nodes n f

-- the node's field f, or why it has none of a kind that passes the test
abbrev pub FindsField : (Kind → Bool) → List Node → ℕ → ℕ → Result Field Refusal → Type 0
FindsField allowed nodes n f answer =
    MatchBool (nat_lt f (field_count (node_at nodes n)))
    (MatchBool (allowed (kind_of_field (node_at nodes n).object f)) (answer ≡ Ok (field_of nodes n f)) (answer ≡ Err R.Kind))
    (answer ≡ Err R.Field)

-- what the node's field f holds
abbrev pub value_in : List Node → ℕ → ℕ → Value
value_in nodes n f = value_at (node_at nodes n) (word_of_field (node_at nodes n).object f)

-- a pair's key is in the pair's first word, and its value in the next
abbrev pub part_word : Part → ℕ → ℕ
part_word P.Key first = first
part_word P.Value first = first + 1

-- what this part of the pair that is the node's field f holds
abbrev pub part_in : Part → List Node → ℕ → ℕ → Value
part_in part nodes n f = value_at (node_at nodes n) (part_word part (word_of_field (node_at nodes n).object f))

-- ---- what a field takes

-- null, or a reference to a live node
abbrev pub IsLiveReference : List Node → Value → Type 0
IsLiveReference nodes Null = ⊤
IsLiveReference nodes (Ref n) = IsLive nodes n
IsLiveReference nodes (Word w) = ⊥

-- the value may go into the fields that are wanted; none goes alone into a pair
abbrev pub Suits : Wanted → List Node → Value → Type 0
Suits References nodes value = IsLiveReference nodes value
Suits Numbers nodes value = IsPlainWord value
Suits Pairs nodes value = ⊥

-- the value may go into a field of the kind
abbrev pub TakesValue : Kind → List Node → Value → Type 0
TakesValue Strong nodes value = IsLiveReference nodes value
TakesValue Weak nodes value = IsLiveReference nodes value
TakesValue Pair nodes value = ⊥
TakesValue Plain nodes value = IsPlainWord value

-- the word may go into a field of the kind: a reference to a body or null, or any number
abbrev pub TakesWord : Kind → List Body → ℕ → Type 0
TakesWord Strong bodies w = IsReference bodies w
TakesWord Weak bodies w = IsReference bodies w
TakesWord Pair bodies w = ⊥
TakesWord Plain bodies w = ⊤

-- the word whose target is marked when it is stored in a field of the kind, while marking goes on: only a strong field's
abbrev pub kept_word : Kind → ℕ → ℕ
kept_word Strong w = w
kept_word Weak w = 0
kept_word Pair w = 0
kept_word Plain w = 0

-- the two may go into a pair as its key and its value: each is null or names a live node, and both are null or neither
pub record ArePartsOf (nodes : List Node) (key value : Value) : Type 0 where
  pub key_names : IsLiveReference nodes key
  pub value_names : IsLiveReference nodes value
  pub both : ArePaired key value
