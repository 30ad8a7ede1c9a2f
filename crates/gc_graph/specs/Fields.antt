-- The words and fields of an object: how many there are, which kind each is, and what a new object holds
-- (`include/cppgc/member.h`, `ephemeron-pair.h`, `allocation.h`).
use Rattle.std.specs.Prelude.{ℕ, ◌+◌, ◌-◌, Bool, true, false, List, [], ◌∷◌, ◌++◌, length, take, replicate, Option, Some, None, slice_set, slice_index_or, sum_by}
use Rattle.std.specs.List.{flat_map}
use Rattle.gc_graph.specs.declared.kind.Kind.{Kind}
use Rattle.gc_graph.specs.declared.kind.Kind.TheVariants.{Strong, Weak, Pair, Plain}
use Rattle.gc_graph.specs.declared.kind.Value.{Value}
use Rattle.gc_graph.specs.declared.kind.Value.TheVariants.{Null, Ref, Word}
use Rattle.gc_graph.specs.Graph.{Object}
use Rattle.gc_graph.specs.State.{Setup, ObjectType, Node, type_at}
use Rattle.gc_graph.specs.State.Life.{Live}

-- a pair has two words, its key and its value, and the other kinds have one
abbrev pub words_of_kind : Kind → ℕ
words_of_kind Strong = 1
words_of_kind Weak = 1
words_of_kind Pair = 2
words_of_kind Plain = 1

-- the words of all declared fields
abbrev pub field_words : List Kind → ℕ
field_words kinds = sum_by words_of_kind kinds

-- the declared fields, and then the extra words
abbrev pub field_count : Node → ℕ
field_count node = length node.object.kinds + node.object.extra

-- an extra word is a plain field
abbrev pub kind_of_field : Object → ℕ → Kind
kind_of_field object f = slice_index_or object.kinds f Plain

-- the number of a field's first word, the words of an object being counted after its header and serial number
abbrev pub word_of_field : Object → ℕ → ℕ
word_of_field object f = field_words (take f object.kinds) + (f - length object.kinds)

-- what a word holds
abbrev pub value_at : Node → ℕ → Value
value_at node word = slice_index_or node.object.values word Null

-- the node with this word written
abbrev pub with_value : Node → ℕ → Value → Node
with_value node word value = record node { object = record node.object { values = slice_set node.object.values word value } }

-- a reference is null and a plain word 0
abbrev pub nulls_of_kind : Kind → List Value
nulls_of_kind Strong = Null ∷ []
nulls_of_kind Weak = Null ∷ []
nulls_of_kind Pair = Null ∷ Null ∷ []
nulls_of_kind Plain = Word 0 ∷ []

-- what the declared fields of a new object hold
abbrev pub nulls_of : List Kind → List Value
nulls_of kinds = flat_map nulls_of_kind kinds

-- a new object of a type, with so many extra words
abbrev pub new_object : ObjectType → ℕ → ℕ → Object
new_object type t extra =
    record { ty = t; extra = extra; kinds = type.kinds; values = nulls_of type.kinds ++ replicate extra (Word 0) }

-- a new node is live, and has a new object at its place
abbrev pub new_node : Setup → ℕ → ℕ → ℕ → Node
new_node setup t extra place = record { object = new_object (type_at setup t) t extra; place = place; life = Live }

-- a header, a serial number, the words of the fields, and the extra words
abbrev pub size_of_type : Setup → ℕ → ℕ → ℕ
size_of_type setup t extra = 2 + (field_words (type_at setup t).kinds + extra)

-- what a slot holds, as the content of a field
abbrev pub content_of : Option ℕ → Value
content_of None = Null
content_of (Some n) = Ref n

-- the node that a reference names
abbrev pub target_of : Value → Option ℕ
target_of Null = None
target_of (Ref n) = Some n
target_of (Word w) = None

-- the fields that `set` and `get` speak of
abbrev pub is_reference : Kind → Bool
is_reference Strong = true
is_reference Weak = true
is_reference Pair = false
is_reference Plain = false

-- the fields through which a read is a weak one
abbrev pub is_weak : Kind → Bool
is_weak Strong = false
is_weak Weak = true
is_weak Pair = false
is_weak Plain = false

-- the fields that `pair`, `key` and `val` speak of
abbrev pub is_pair : Kind → Bool
is_pair Strong = false
is_pair Weak = false
is_pair Pair = true
is_pair Plain = false

-- the fields that `put` and `word` speak of
abbrev pub is_plain : Kind → Bool
is_plain Strong = false
is_plain Weak = false
is_plain Pair = false
is_plain Plain = true
