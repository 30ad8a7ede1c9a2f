-- What a prefinalizer sees and does (`include/cppgc/prefinalizer.h`).
use Rattle.std.specs.Prelude.{ℕ, ◌+◌, ◌%◌, ◌^◌, ◌==◌, nat_lt, List, take, map, Option, Some, None, slice_set, slice_index, if◌then◌else◌}
use Rattle.gc_graph.specs.declared.action.Action.{Action}
use Rattle.gc_graph.specs.declared.action.Action.TheVariants as A
use Rattle.gc_graph.specs.declared.action.ActionKind.{ActionKind}
use Rattle.gc_graph.specs.declared.action.ActionKind.TheVariants as K
use Rattle.gc_graph.specs.declared.kind.Kind.{Kind}
use Rattle.gc_graph.specs.declared.kind.Kind.TheVariants.{Strong, Weak, Pair, Plain}
use Rattle.gc_graph.specs.declared.kind.Value.{Value}
use Rattle.gc_graph.specs.declared.kind.Value.TheVariants.{Null, Ref, Word}
use Rattle.gc_graph.specs.State.{Node, node_at}
use Rattle.gc_graph.specs.Fields.{field_words, field_count, kind_of_field, word_of_field, value_at, with_value, target_of}

-- a plain word is shown as it is; 0 stands for a null reference, and 1 for any other
abbrev pub shown : Value → ℕ
shown Null = 0
shown (Ref n) = 1
shown (Word w) = w

-- the words of the declared fields are shown, the first 64 of them at most
abbrev pub shown_words : Node → List ℕ
shown_words node = map shown (take 64 (take (field_words node.object.kinds) node.object.values))

-- the action that a callback of the kind answers to shown words
abbrev pub action_of : ActionKind → List ℕ → Action
action_of K.Nothing words = A.Nothing
action_of (K.Clear link field) words = A.Clear link field
action_of (K.Add link field amount) words = A.Add link field amount
action_of (K.AddOwn link field from) words = A.Add link field (slice_index words from)
action_of (K.ClearIf link field word) words = if slice_index words word == 0 then A.Nothing else A.Clear link field

-- the node's field becomes null: a reference, or both words of a pair
abbrev pub cleared_field : Kind → Node → ℕ → Node
cleared_field Strong node word = with_value node word Null
cleared_field Weak node word = with_value node word Null
cleared_field Pair node word = with_value (with_value node word Null) (word + 1) Null
cleared_field Plain node word = node

-- a plain word grows by the amount, and begins again after 64 bits
abbrev pub added : Value → ℕ → Value
added Null amount = Null
added (Ref n) amount = Ref n
added (Word w) amount = Word ((w + amount) % 2 ^ 64)

-- the amount is added to the node's plain word
abbrev pub added_field : Kind → Node → ℕ → ℕ → Node
added_field Plain node word amount = with_value node word (added (value_at node word) amount)
added_field Strong node word amount = node
added_field Weak node word amount = node
added_field Pair node word amount = node

-- a field that isn't there is left alone
abbrev pub at_field : Node → ℕ → Node → Node
at_field node field changed = if nat_lt field (field_count node) then changed else node

-- the node with the field of this number cleared
abbrev pub cleared_at : Node → ℕ → Node
cleared_at node field = at_field node field (cleared_field (kind_of_field node.object field) node (word_of_field node.object field))

-- the node with the amount added to the field of this number
abbrev pub added_at : Node → ℕ → ℕ → Node
added_at node field amount =
    at_field node field (added_field (kind_of_field node.object field) node (word_of_field node.object field) amount)

-- the node that a strong field names
abbrev pub linked_by : Kind → Value → Option ℕ
linked_by Strong value = target_of value
linked_by Weak value = None
linked_by Pair value = None
linked_by Plain value = None

-- the node that the strong field of this number names
abbrev pub linked : Node → ℕ → Option ℕ
linked node link = linked_by (kind_of_field node.object link) (value_at node (word_of_field node.object link))

-- the node that is named is changed, where one is
abbrev pub change_linked : List Node → Option ℕ → (Node → Node) → List Node
change_linked nodes None change = nodes
change_linked nodes (Some n) change = slice_set nodes n (change (node_at nodes n))

-- the effect of an action for the dying node
abbrev pub acted : List Node → ℕ → Action → List Node
acted nodes dying A.Nothing = nodes
acted nodes dying (A.Clear link field) = change_linked nodes (linked (node_at nodes dying) link) (λ node. cleared_at node field)
acted nodes dying (A.Add link field amount) =
    change_linked nodes (linked (node_at nodes dying) link) (λ node. added_at node field amount)
