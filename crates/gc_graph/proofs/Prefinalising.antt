-- What the callbacks of a pause leave of the nodes.
use Rattle.std.proofs.Common.{◌≡◌, ℕ, ◌+◌, ◌<◌, ◌≤◌, true, List, length, get_or, set, All, Option, Some, None, refl, sym, ap, ◌∙◌, subst, inl, inr, arith, nat_lt}
use Rattle.std.proofs.lemmas.Bool.{cases_lt, cond_both}
use Rattle.std.proofs.lemmas.List.{set_past}
use Rattle.std.proofs.lemmas.List.Elements.{All-set}
use Rattle.gc_graph.specs.declared.action.Action.{Action}
use Rattle.gc_graph.specs.declared.action.Action.TheVariants as A
use Rattle.gc_graph.specs.declared.action.ActionKind.{ActionKind}
use Rattle.gc_graph.specs.declared.kind.Kind.{Kind}
use Rattle.gc_graph.specs.declared.kind.Kind.TheVariants.{Strong, Weak, Pair, Plain}
use Rattle.gc_graph.specs.declared.kind.Value.{Value}
use Rattle.gc_graph.specs.declared.kind.Value.TheVariants.{Null, Ref, Word}
use Rattle.gc_graph.specs.State.{Setup, Node, Registration, no_node, node_at}
use Rattle.gc_graph.specs.Fields.{kind_of_field, word_of_field, value_at, with_value, field_count, is_pair}
use Rattle.gc_graph.specs.Actions.{cleared_field, added, added_field, cleared_at, added_at, linked, change_linked, acted}
use Rattle.gc_graph.specs.Pause.{prefinalised}
use Rattle.gc_graph.specs.WeakCalls.{WeakCall, called}
use Rattle.gc_graph.specs.Valid.{IsTyped, NamesLive, IsReferenceBelow, IsPlainWord}
use Rattle.gc_graph.proofs.Shapes.{word_at, word_at_is, Suits, read_one, IsPairBelow, typed_from}
use Rattle.gc_graph.proofs.Sound.{IsHeap}
use Rattle.gc_graph.proofs.NodeWrites.{IsLikeNode, like_same, LookSame, look_same, look_more, look_written, heap_written}
use Rattle.gc_graph.proofs.Called.{callbacks_keep}
use Rattle.gc_graph.proofs.FieldWrites.{with_values, one_typed, pair_typed, one_like, pair_like}

-- the node became one that names no more than it did
pub record IsGentle (setup : Setup) (nodes : List Node) (x y : Node) : Type 0 where
  pub like : IsLikeNode x y
  pub typed : IsTyped setup (length nodes) x → IsTyped setup (length nodes) y
  pub names : All (NamesLive nodes) x.object.values → All (NamesLive nodes) y.object.values

gentle_same : (setup : Setup) (nodes : List Node) (x : Node) → IsGentle setup nodes x x
gentle_same setup nodes x = record { like = like_same x; typed = λ t. t; names = λ h. h }

module _ (setup : Setup) (nodes : List Node) (node : Node) (f : ℕ) where
  abbrev B : Value → Type 0
  B value = IsReferenceBelow (length nodes) value

  one_gentle : (value : Value) → Suits B B IsPlainWord (kind_of_field node.object f) value → NamesLive nodes value
      → IsGentle setup nodes node (with_value node (word_of_field node.object f) value)
  one_gentle value suits live = record {
    like = one_like node (word_of_field node.object f) value;
    typed = λ t. one_typed setup (length nodes) node f t value suits;
    names = λ h. All-set (NamesLive nodes) node.object.values (word_of_field node.object f) value live h;
  }

  suits_at : (kind : Kind) (value : Value) → kind_of_field node.object f ≡ kind → Suits B B IsPlainWord kind value
      → Suits B B IsPlainWord (kind_of_field node.object f) value
  suits_at kind value e h = subst (λ k. Suits B B IsPlainWord k value) (sym e) h

  is_pair_at : kind_of_field node.object f ≡ Pair → is_pair (kind_of_field node.object f) ≡ true
  is_pair_at e = ap is_pair e

  cleared_gentle : (kind : Kind) → kind_of_field node.object f ≡ kind → IsGentle setup nodes node (cleared_field kind node (word_of_field node.object f))
  cleared_gentle Strong e = one_gentle Null (suits_at Strong Null e tt) tt
  cleared_gentle Weak e = one_gentle Null (suits_at Weak Null e tt) tt
  cleared_gentle Plain e = gentle_same setup nodes node
  cleared_gentle Pair e = record {
    like = pair_like node (word_of_field node.object f) Null Null;
    typed = λ t. pair_typed setup (length nodes) node f t Null Null (is_pair_at e) (record { key_is = tt; value_is = tt; paired = refl });
    names = λ h.
        All-set (NamesLive nodes) (set node.object.values (word_of_field node.object f) Null) (word_of_field node.object f + 1) Null tt
        (All-set (NamesLive nodes) node.object.values (word_of_field node.object f) Null tt h);
  }

  pub cleared_at_gentle : IsGentle setup nodes node (cleared_at node f)
  cleared_at_gentle =
      cond_both (nat_lt f (field_count node)) (cleared_field (kind_of_field node.object f) node (word_of_field node.object f)) node (IsGentle setup nodes node)
      (λ e. cleared_gentle (kind_of_field node.object f) refl) (λ e. gentle_same setup nodes node)

  -- ---- additions

  added_plain : (value : Value) (amount : ℕ) → IsPlainWord value → IsPlainWord (added value amount)
  added_plain Null amount h = absurd h
  added_plain (Ref n) amount h = absurd h
  added_plain (Word w) amount h = tt

  added_live : (value : Value) (amount : ℕ) → NamesLive nodes value → NamesLive nodes (added value amount)
  added_live Null amount h = tt
  added_live (Ref n) amount h = h
  added_live (Word w) amount h = tt

  plain_at : kind_of_field node.object f ≡ Plain → word_of_field node.object f < length node.object.values → IsTyped setup (length nodes) node
      → IsPlainWord (value_at node (word_of_field node.object f))
  plain_at e l t =
      let kinds : List Kind = node.object.kinds in
      let values : List Value = node.object.values in
      let same : word_of_field node.object f ≡ word_at kinds f = word_at_is kinds f in
      let inside : word_at kinds f < length values = omega arith in
      subst (λ w. IsPlainWord (get_or values w Null)) (sym same)
      (subst (λ k. Suits B B IsPlainWord k (get_or values (word_at kinds f) Null)) e
      (read_one B B IsPlainWord (IsPairBelow (length nodes)) kinds values f (ap is_pair e) inside (typed_from (length nodes) kinds values t.values_are)))

  past_same : (word : ℕ) (value : Value) → length node.object.values ≤ word → node ≡ with_value node word value
  past_same word value past = ap (with_values node) (sym (set_past node.object.values word value past))

  added_gentle : (kind : Kind) (amount : ℕ) → kind_of_field node.object f ≡ kind
      → IsGentle setup nodes node (added_field kind node (word_of_field node.object f) amount)
  added_gentle Strong amount e = gentle_same setup nodes node
  added_gentle Weak amount e = gentle_same setup nodes node
  added_gentle Pair amount e = gentle_same setup nodes node
  added_gentle Plain amount e =
      let word : ℕ = word_of_field node.object f in
      elim (cases_lt word (length node.object.values)) [
        | inr past ↦ subst (IsGentle setup nodes node) (past_same word (added (value_at node word) amount) past) (gentle_same setup nodes node)
        | inl l ↦
            record {
              like = one_like node word (added (value_at node word) amount);
              typed = λ t.
                  one_typed setup (length nodes) node f t (added (value_at node word) amount)
                  (suits_at Plain (added (value_at node word) amount) e (added_plain (value_at node word) amount (plain_at e l t)));
              names = λ h.
                  All-set (NamesLive nodes) node.object.values word (added (value_at node word) amount) (added_live (value_at node word) amount (h word Null l)) h;
            }
      ]

  pub added_at_gentle : (amount : ℕ) → IsGentle setup nodes node (added_at node f amount)
  added_at_gentle amount =
      cond_both (nat_lt f (field_count node)) (added_field (kind_of_field node.object f) node (word_of_field node.object f) amount) node (IsGentle setup nodes node)
      (λ e. added_gentle (kind_of_field node.object f) amount refl) (λ e. gentle_same setup nodes node)

-- ---- one action, and all of them

-- the nodes are in order, and look as they did
pub record StaysInOrder (setup : Setup) (nodes after : List Node) : Type 0 where
  pub heap : IsHeap setup after
  pub look : LookSame nodes after

kept_same : (setup : Setup) (nodes : List Node) → IsHeap setup nodes → StaysInOrder setup nodes nodes
kept_same setup nodes heap = record { heap = heap; look = look_same nodes }

gently : (setup : Setup) (nodes : List Node) (n : ℕ) (node : Node) → IsHeap setup nodes → IsGentle setup nodes (node_at nodes n) node
    → StaysInOrder setup nodes (set nodes n node)
gently setup nodes n node heap gentle =
    elim (cases_lt n (length nodes)) [
      | inr past ↦ subst (StaysInOrder setup nodes) (sym (set_past nodes n node past)) (kept_same setup nodes heap)
      | inl l ↦
          record {
            heap = heap_written setup nodes n node heap gentle.like (gentle.typed (heap.typed n no_node l))
                (λ live. gentle.names (heap.named n (sym gentle.like.life ∙ live)));
            look = look_written nodes n node gentle.like;
          }
    ]

change_kept : (setup : Setup) (nodes : List Node) (target : Option ℕ) (change : Node → Node) → IsHeap setup nodes
    → ((node : Node) → IsGentle setup nodes node (change node)) → StaysInOrder setup nodes (change_linked nodes target change)
change_kept setup nodes None change heap gentle = kept_same setup nodes heap
change_kept setup nodes (Some n) change heap gentle = gently setup nodes n (change (node_at nodes n)) heap (gentle (node_at nodes n))

acted_kept : (setup : Setup) (nodes : List Node) (dying : ℕ) (action : Action) → IsHeap setup nodes → StaysInOrder setup nodes (acted nodes dying action)
acted_kept setup nodes dying A.Nothing heap = kept_same setup nodes heap
acted_kept setup nodes dying (A.Clear link field) heap =
    change_kept setup nodes (linked (node_at nodes dying) link) (λ node. cleared_at node field) heap (λ node. cleared_at_gentle setup nodes node field)
acted_kept setup nodes dying (A.Add link field amount) heap =
    change_kept setup nodes (linked (node_at nodes dying) link) (λ node. added_at node field amount) heap (λ node. added_at_gentle setup nodes node field amount)

pub callbacks_kept : (setup : Setup) (callbacks : List ActionKind) (calls : List WeakCall) (registrations : List Registration) (nodes : List Node)
    → IsHeap setup nodes → StaysInOrder setup nodes (prefinalised callbacks registrations (called callbacks calls nodes))
callbacks_kept setup callbacks calls registrations nodes heap =
    callbacks_keep (StaysInOrder setup nodes)
    (λ ns n action so_far. (let one : StaysInOrder setup ns (acted ns n action) = acted_kept setup ns n action so_far.heap in
    record { heap = one.heap; look = look_more nodes ns (acted ns n action) so_far.look one.look }))
    callbacks calls registrations nodes (kept_same setup nodes heap)
