-- A state stays sound where a field is written.
use Rattle.std.proofs.Common.{◌≡◌, ℕ, ◌+◌, Bool, true, List, length, set, All, Option, Some, None, refl, sym, ◌∙◌}
use Rattle.std.specs.Prelude.{⊤}
use Rattle.std.proofs.lemmas.List.{length-set}
use Rattle.std.proofs.lemmas.List.Elements.{All-set}
use Rattle.gc_graph.specs.declared.kind.Value.{Value}
use Rattle.gc_graph.specs.declared.kind.Value.TheVariants.{Null, Ref, Word}
use Rattle.gc_graph.specs.declared.phase.Phase.{Phase}
use Rattle.gc_graph.specs.declared.phase.Phase.TheVariants.{Idle, Marking, Sweeping}
use Rattle.gc_graph.specs.State.{Setup, State, Node, no_node, node_at}
use Rattle.gc_graph.specs.Fields.{kind_of_field, word_of_field, with_value, content_of, is_reference, is_pair, is_plain}
use Rattle.gc_graph.specs.Valid.{IsTyped, NamesLive, IsReferenceBelow, IsPlainWord, ArePaired}
use Rattle.gc_graph.specs.ObjectSteps.{first_word, with_node, part_of}
use Rattle.gc_graph.proofs.Shapes.{IsPairBelow}
use Rattle.gc_graph.proofs.Follows.{Anything, Held, Carries, Follows}
use Rattle.gc_graph.proofs.Sound.{SlotNames, MayHas, MayFollows, IsSound}
use Rattle.gc_graph.specs.NodeNumbers.{live_below}
use Rattle.gc_graph.proofs.NodeWrites.{IsLikeNode, LookSame, live_after, look_written, heap_written, node_after, nodes_sound}
use Rattle.gc_graph.proofs.FieldWrites.{with_pair, one_written, pair_written, suits_reference, suits_plain, one_typed, pair_typed, one_like, pair_like}
use Rattle.gc_graph.proofs.ValidHandles.{Root}

-- ---- a write

-- while marking goes on the words follow the set
abbrev pub FollowsIn : Phase → List Bool → Node → Type 0
FollowsIn Idle may node = ⊤
FollowsIn Marking may node = Follows may node.object.kinds node.object.values
FollowsIn Sweeping may node = ⊤

pub follows_of : (phase : Phase) (nodes : List Node) (may : List Bool) (n : ℕ) → MayFollows phase nodes may → MayHas phase may n → FollowsIn phase may (node_at nodes n)
follows_of Idle nodes may n h i = tt
follows_of Marking nodes may n h i = h.follows n i
follows_of Sweeping nodes may n h i = tt

follows_written : (phase : Phase) (nodes : List Node) (may : List Bool) (n : ℕ) (node : Node) → LookSame nodes (set nodes n node)
    → MayFollows phase nodes may → FollowsIn phase may node → MayFollows phase (set nodes n node) may
follows_written Idle nodes may n node look h f = tt
follows_written Sweeping nodes may n node look h f = tt
follows_written Marking nodes may n node look h f = record {
  follows = λ m i. node_after (λ y. Follows may y.object.kinds y.object.values) nodes n m node (λ e. f) (h.follows m i);
  live = λ m i. live_after nodes (set nodes n node) look m (h.live m i);
  whole = h.whole ∙ sym (length-set nodes n node);
}

-- what a written node must be
pub record IsFit (setup : Setup) (s : State) (n : ℕ) (node : Node) : Type 0 where
  like : IsLikeNode (node_at s.nodes n) node
  typed : IsTyped setup (length s.nodes) node
  names : All (NamesLive s.nodes) node.object.values
  follows : FollowsIn s.phase s.may node

pub fit_sound : (setup : Setup) (s : State) (n : ℕ) (node : Node) → IsSound setup s → IsFit setup s n node → IsSound setup (with_node s n node)
fit_sound setup s n node g fit =
    nodes_sound setup s (set s.nodes n node) g (heap_written setup s.nodes n node g.heap fit.like fit.typed (λ live. fit.names))
    (look_written s.nodes n node fit.like) (follows_written s.phase s.nodes s.may n node (look_written s.nodes n node fit.like) g.may fit.follows)

typed_root : (setup : Setup) (s : State) (n : ℕ) → IsSound setup s → Root s n → IsTyped setup (length s.nodes) (node_at s.nodes n)
typed_root setup s n g root = g.heap.typed n no_node (live_below s.nodes n root.live)

-- ---- values from slots

-- null, or a root
abbrev pub FromSlot : State → Value → Type 0
FromSlot s Null = ⊤
FromSlot s (Ref n) = Root s n
FromSlot s (Word w) = ⊥

below_from : (s : State) (value : Value) → FromSlot s value → IsReferenceBelow (length s.nodes) value
below_from s Null h = tt
below_from s (Ref n) h = live_below s.nodes n h.live
below_from s (Word w) h = absurd h

live_from : (s : State) (value : Value) → FromSlot s value → NamesLive s.nodes value
live_from s Null h = tt
live_from s (Ref n) h = h.live
live_from s (Word w) h = tt

-- while marking goes on the value names nothing but members
abbrev pub HeldIn : Phase → List Bool → Value → Type 0
HeldIn Idle may value = ⊤
HeldIn Marking may value = Held may value
HeldIn Sweeping may value = ⊤

held_ref : (phase : Phase) (may : List Bool) (n : ℕ) → MayHas phase may n → HeldIn phase may (Ref n)
held_ref Idle may n h = tt
held_ref Marking may n h = h
held_ref Sweeping may n h = tt

held_null : (phase : Phase) (may : List Bool) → HeldIn phase may Null
held_null Idle may = tt
held_null Marking may = tt
held_null Sweeping may = tt

held_from : (s : State) (value : Value) → FromSlot s value → HeldIn s.phase s.may value
held_from s Null h = held_null s.phase s.may
held_from s (Ref n) h = held_ref s.phase s.may n h.in_may
held_from s (Word w) h = absurd h

pub from_content : (s : State) (content : Option ℕ) → SlotNames (Root s) content → FromSlot s (content_of content)
from_content s None h = tt
from_content s (Some n) h = h

-- ---- set

one_follows : (phase : Phase) (may : List Bool) (node : Node) (f : ℕ) (value : Value) → is_reference (kind_of_field node.object f) ≡ true
    → HeldIn phase may value → FollowsIn phase may node → FollowsIn phase may (with_value node (word_of_field node.object f) value)
one_follows Idle may node f value e held h = tt
one_follows Sweeping may node f value e held h = tt
one_follows Marking may node f value e held h =
    one_written (Held may) Anything Anything (Carries may) node.object f value
    (suits_reference (Held may) Anything Anything (Carries may) node.object f (kind_of_field node.object f) value e held tt) h

pub reference_fit : (setup : Setup) (s : State) (n f : ℕ) (value : Value) → IsSound setup s → Root s n
    → is_reference (kind_of_field (node_at s.nodes n).object f) ≡ true → FromSlot s value
    → IsFit setup s n (with_value (node_at s.nodes n) (first_word s n f) value)
reference_fit setup s n f value g root e from =
    let node : Node = node_at s.nodes n in
    let B = IsReferenceBelow (length s.nodes) in
    record {
      like = one_like node (first_word s n f) value;
      typed = one_typed setup (length s.nodes) node f (typed_root setup s n g root) value
          (suits_reference B B IsPlainWord (IsPairBelow (length s.nodes)) node.object f (kind_of_field node.object f) value e (below_from s value from) (below_from s value from));
      names = All-set (NamesLive s.nodes) node.object.values (first_word s n f) value (live_from s value from) (g.heap.named n root.live);
      follows = one_follows s.phase s.may node f value e (held_from s value from) (follows_of s.phase s.nodes s.may n g.may root.in_may);
    }

-- ---- pair

-- the words of a pair are null both, or both from slots
pub record ArePartsOf (s : State) (key value : Value) : Type 0 where
  key_from : FromSlot s key
  value_from : FromSlot s value
  paired : ArePaired key value

pub parts_of : (s : State) (key value : Option ℕ) → SlotNames (Root s) key → SlotNames (Root s) value → ArePartsOf s (part_of key value) (part_of value key)
parts_of s None None h k = record { key_from = tt; value_from = tt; paired = refl }
parts_of s None (Some m) h k = record { key_from = tt; value_from = tt; paired = refl }
parts_of s (Some n) None h k = record { key_from = tt; value_from = tt; paired = refl }
parts_of s (Some n) (Some m) h k = record { key_from = h; value_from = k; paired = λ e. cc }

carries_from : (may : List Bool) (key value : Value) → Held may value → Carries may key value
carries_from may Null value h = tt
carries_from may (Ref n) value h = λ i. h
carries_from may (Word w) value h = tt

pair_follows : (phase : Phase) (may : List Bool) (node : Node) (f : ℕ) (key value : Value) → is_pair (kind_of_field node.object f) ≡ true
    → HeldIn phase may value → FollowsIn phase may node → FollowsIn phase may (with_pair node (word_of_field node.object f) key value)
pair_follows Idle may node f key value e held h = tt
pair_follows Sweeping may node f key value e held h = tt
pair_follows Marking may node f key value e held h =
    pair_written (Held may) Anything Anything (Carries may) node.object f key value e (carries_from may key value held) h

pub pair_fit : (setup : Setup) (s : State) (n f : ℕ) (key value : Value) → IsSound setup s → Root s n
    → is_pair (kind_of_field (node_at s.nodes n).object f) ≡ true → ArePartsOf s key value
    → IsFit setup s n (with_pair (node_at s.nodes n) (first_word s n f) key value)
pair_fit setup s n f key value g root e from =
    let node : Node = node_at s.nodes n in
    record {
      like = pair_like node (first_word s n f) key value;
      typed = pair_typed setup (length s.nodes) node f (typed_root setup s n g root) key value e
          (record { key_is = below_from s key from.key_from; value_is = below_from s value from.value_from; paired = from.paired });
      names = All-set (NamesLive s.nodes) _ (first_word s n f + 1) value (live_from s value from.value_from)
          (All-set (NamesLive s.nodes) node.object.values (first_word s n f) key (live_from s key from.key_from) (g.heap.named n root.live));
      follows = pair_follows s.phase s.may node f key value e (held_from s value from.value_from) (follows_of s.phase s.nodes s.may n g.may root.in_may);
    }

-- ---- put

plain_follows : (phase : Phase) (may : List Bool) (node : Node) (f w : ℕ) → is_plain (kind_of_field node.object f) ≡ true
    → FollowsIn phase may node → FollowsIn phase may (with_value node (word_of_field node.object f) (Word w))
plain_follows Idle may node f w e h = tt
plain_follows Sweeping may node f w e h = tt
plain_follows Marking may node f w e h =
    one_written (Held may) Anything Anything (Carries may) node.object f (Word w)
    (suits_plain (Held may) Anything Anything (Carries may) node.object f (kind_of_field node.object f) (Word w) e tt) h

pub plain_fit : (setup : Setup) (s : State) (n f w : ℕ) → IsSound setup s → Root s n → is_plain (kind_of_field (node_at s.nodes n).object f) ≡ true
    → IsFit setup s n (with_value (node_at s.nodes n) (first_word s n f) (Word w))
plain_fit setup s n f w g root e =
    let node : Node = node_at s.nodes n in
    let B = IsReferenceBelow (length s.nodes) in
    record {
      like = one_like node (first_word s n f) (Word w);
      typed = one_typed setup (length s.nodes) node f (typed_root setup s n g root) (Word w)
          (suits_plain B B IsPlainWord (IsPairBelow (length s.nodes)) node.object f (kind_of_field node.object f) (Word w) e tt);
      names = All-set (NamesLive s.nodes) node.object.values (first_word s n f) (Word w) tt (g.heap.named n root.live);
      follows = plain_follows s.phase s.may node f w e (follows_of s.phase s.nodes s.may n g.may root.in_may);
    }
