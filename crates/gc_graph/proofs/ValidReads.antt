-- What a field holds: a live node, and a root where the field is a strong one of a root.
use Rattle.std.proofs.Common.{◌≡◌, ℕ, Bool, false, List, length, get_or, sym, ap, subst, inl, inr}
use Rattle.std.proofs.lemmas.Bool.{cases_lt}
use Rattle.std.proofs.lemmas.List.{get_or_past}
use Rattle.gc_graph.specs.declared.kind.Kind.{Kind}
use Rattle.gc_graph.specs.declared.kind.Kind.TheVariants.{Strong, Plain}
use Rattle.gc_graph.specs.declared.kind.Value.{Value}
use Rattle.gc_graph.specs.declared.kind.Value.TheVariants.{Null, Ref, Word}
use Rattle.gc_graph.specs.declared.phase.Phase.{Phase}
use Rattle.gc_graph.specs.declared.phase.Phase.TheVariants.{Idle, Marking, Sweeping}
use Rattle.gc_graph.specs.State.{Setup, State, Node, node_at}
use Rattle.gc_graph.specs.Fields.{kind_of_field, word_of_field, value_at, is_pair}
use Rattle.gc_graph.specs.Valid.{NamesLive}
use Rattle.gc_graph.proofs.Shapes.{word_at, word_at_is, Suits, read_one}
use Rattle.gc_graph.proofs.Follows.{Anything, Held, Carries}
use Rattle.gc_graph.proofs.Sound.{MayHas, IsSound}
use Rattle.gc_graph.proofs.ValidHandles.{Root, ValueLive, ValueRoot}
use Rattle.gc_graph.proofs.ValidWrites.{FollowsIn, HeldIn}

pub names_at : (setup : Setup) (s : State) (n word : ℕ) → IsSound setup s → Root s n → NamesLive s.nodes (value_at (node_at s.nodes n) word)
names_at setup s n word g root =
    let values : List Value = (node_at s.nodes n).object.values in
    elim (cases_lt word (length values)) [
      | inl l ↦ g.heap.named n root.live word Null l
      | inr past ↦ subst (NamesLive s.nodes) (sym (get_or_past values word Null past)) tt
    ]

pub value_live : (s : State) (value : Value) → NamesLive s.nodes value → ValueLive s value
value_live s Null h = tt
value_live s (Ref n) h = h
value_live s (Word w) h = tt

in_of : (phase : Phase) (may : List Bool) (n : ℕ) → HeldIn phase may (Ref n) → MayHas phase may n
in_of Idle may n h = tt
in_of Marking may n h = h
in_of Sweeping may n h = tt

pub value_root : (s : State) (value : Value) → NamesLive s.nodes value → HeldIn s.phase s.may value → ValueRoot s value
value_root s Null h k = tt
value_root s (Ref n) h k = record { live = h; in_may = in_of s.phase s.may n k }
value_root s (Word w) h k = tt

held_strong : (may : List Bool) (kind : Kind) (value : Value) → kind ≡ Strong → Suits (Held may) Anything Anything kind value → Held may value
held_strong may kind value e h = subst (λ k. Suits (Held may) Anything Anything k value) e h

not_pair : (kind : Kind) → kind ≡ Strong → is_pair kind ≡ false
not_pair kind e = ap is_pair e

pub strong_held : (phase : Phase) (may : List Bool) (node : Node) (f : ℕ) → kind_of_field node.object f ≡ Strong → FollowsIn phase may node
    → HeldIn phase may (value_at node (word_of_field node.object f))
strong_held Idle may node f e h = tt
strong_held Sweeping may node f e h = tt
strong_held Marking may node f e h =
    let kinds : List Kind = node.object.kinds in
    let values : List Value = node.object.values in
    subst (λ w. Held may (get_or values w Null)) (sym (word_at_is kinds f))
    (elim (cases_lt (word_at kinds f) (length values)) [
      | inl l ↦
          held_strong may (get_or kinds f Plain) (get_or values (word_at kinds f) Null) e
          (read_one (Held may) Anything Anything (Carries may) kinds values f (not_pair (get_or kinds f Plain) e) l h)
      | inr past ↦ subst (Held may) (sym (get_or_past values (word_at kinds f) Null past)) tt
    ])
