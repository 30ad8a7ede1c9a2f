-- Actions leave each node at its place and in its life.
use Rattle.std.proofs.Common.{◌≡◌, ℕ, ◌<◌, ◌≢◌, List, length, set, Option, Some, None, refl, sym, ap, ◌∙◌, subst, inl, inr, arith, length-set, get_or-set_other, get_or-set_same, nat_lt}
use Rattle.std.proofs.lemmas.Bool.{cases_lt, cond_both}
use Rattle.std.proofs.lemmas.List.{set_past}
use Rattle.gc_graph.specs.declared.action.Action.{Action}
use Rattle.gc_graph.specs.declared.action.Action.TheVariants as A
use Rattle.gc_graph.specs.declared.kind.Kind.{Kind}
use Rattle.gc_graph.specs.declared.kind.Kind.TheVariants.{Strong, Weak, Pair, Plain}
use Rattle.gc_graph.specs.State.{Node, no_node, node_at, is_dead}
use Rattle.gc_graph.specs.Fields.{kind_of_field, word_of_field, field_count}
use Rattle.gc_graph.specs.Actions.{cleared_field, added_field, cleared_at, added_at, linked, change_linked, acted}
use Rattle.gc_graph.specs.Pause.{is_dead_at}
use Rattle.callback_table.specs.Bodies.{StandsAt}

-- the nodes stand where they stood, and live or are dead as before
pub record LooksAlike (old new : List Node) : Type 0 where
  pub length_is : length new ≡ length old
  pub places : (n : ℕ) → (node_at new n).place ≡ (node_at old n).place
  pub lives : (n : ℕ) → (node_at new n).life ≡ (node_at old n).life

pub alike_same : (nodes : List Node) → LooksAlike nodes nodes
alike_same nodes = record { length_is = refl; places = λ n. refl; lives = λ n. refl }

pub alike_on : (first second third : List Node) → LooksAlike first second → LooksAlike second third → LooksAlike first third
alike_on first second third a b = record {
  length_is = b.length_is ∙ a.length_is;
  places = λ n. b.places n ∙ a.places n;
  lives = λ n. b.lives n ∙ a.lives n;
}

-- ---- one node

record NodeAlike (old new : Node) : Type 0 where
  place : new.place ≡ old.place
  life : new.life ≡ old.life

node_same : (node : Node) → NodeAlike node node
node_same node = record { place = refl; life = refl }

cleared_alike : (kind : Kind) (node : Node) (word : ℕ) → NodeAlike node (cleared_field kind node word)
cleared_alike Strong node word = record { place = refl; life = refl }
cleared_alike Weak node word = record { place = refl; life = refl }
cleared_alike Pair node word = record { place = refl; life = refl }
cleared_alike Plain node word = node_same node

added_alike : (kind : Kind) (node : Node) (word amount : ℕ) → NodeAlike node (added_field kind node word amount)
added_alike Strong node word amount = node_same node
added_alike Weak node word amount = node_same node
added_alike Pair node word amount = node_same node
added_alike Plain node word amount = record { place = refl; life = refl }

cleared_at_alike : (node : Node) (field : ℕ) → NodeAlike node (cleared_at node field)
cleared_at_alike node field =
    cond_both (nat_lt field (field_count node)) (cleared_field (kind_of_field node.object field) node (word_of_field node.object field)) node (NodeAlike node)
    (λ e. cleared_alike (kind_of_field node.object field) node (word_of_field node.object field)) (λ e. node_same node)

added_at_alike : (node : Node) (field amount : ℕ) → NodeAlike node (added_at node field amount)
added_at_alike node field amount =
    cond_both (nat_lt field (field_count node)) (added_field (kind_of_field node.object field) node (word_of_field node.object field) amount) node
    (NodeAlike node) (λ e. added_alike (kind_of_field node.object field) node (word_of_field node.object field) amount) (λ e. node_same node)

-- ---- all nodes

node_alike_at : (nodes : List Node) (n : ℕ) (node : Node) → n < length nodes → NodeAlike (node_at nodes n) node → (k : ℕ)
    → NodeAlike (node_at nodes k) (node_at (set nodes n node) k)
node_alike_at nodes n node l alike k =
    elim (cases_lt k n) [
      | inl below ↦ (let ne : k ≢ n = omega arith in subst (NodeAlike (node_at nodes k)) (sym (get_or-set_other nodes n k node no_node ne)) (node_same (node_at nodes k)))
      | inr above ↦
          elim (cases_lt n k) [
            | inl beyond ↦ (let ne : k ≢ n = omega arith in subst (NodeAlike (node_at nodes k)) (sym (get_or-set_other nodes n k node no_node ne)) (node_same (node_at nodes k)))
            | inr within ↦
                (let e : n ≡ k = omega arith in
                subst (λ j. NodeAlike (node_at nodes j) (node_at (set nodes n node) j)) e
                (subst (NodeAlike (node_at nodes n)) (sym (get_or-set_same nodes n node no_node l)) alike))
          ]
    ]

set_alike : (nodes : List Node) (n : ℕ) (node : Node) → NodeAlike (node_at nodes n) node → LooksAlike nodes (set nodes n node)
set_alike nodes n node alike =
    elim (cases_lt n (length nodes)) [
      | inl l ↦
          record {
            length_is = length-set nodes n node;
            places = λ k. (node_alike_at nodes n node l alike k).place;
            lives = λ k. (node_alike_at nodes n node l alike k).life;
          }
      | inr past ↦ subst (LooksAlike nodes) (sym (set_past nodes n node past)) (alike_same nodes)
    ]

change_alike : (nodes : List Node) (target : Option ℕ) (change : Node → Node) → ((node : Node) → NodeAlike node (change node))
    → LooksAlike nodes (change_linked nodes target change)
change_alike nodes None change alike = alike_same nodes
change_alike nodes (Some n) change alike = set_alike nodes n (change (node_at nodes n)) (alike (node_at nodes n))

pub acted_alike : (nodes : List Node) (dying : ℕ) (action : Action) → LooksAlike nodes (acted nodes dying action)
acted_alike nodes dying A.Nothing = alike_same nodes
acted_alike nodes dying (A.Clear link field) =
    change_alike nodes (linked (node_at nodes dying) link) (λ node. cleared_at node field) (λ node. cleared_at_alike node field)
acted_alike nodes dying (A.Add link field amount) =
    change_alike nodes (linked (node_at nodes dying) link) (λ node. added_at node field amount) (λ node. added_at_alike node field amount)

-- ---- what follows

pub dead_alike : (old new : List Node) (n : ℕ) → LooksAlike old new → is_dead_at new n ≡ is_dead_at old n
dead_alike old new n alike = ap is_dead (alike.lives n)

pub stands_alike : (old new : List Node) (place n : ℕ) → LooksAlike old new → StandsAt old place n → StandsAt new place n
stands_alike old new place n alike stands = record {
  there = omega (arith, stands.there, alike.length_is);
  place_is = alike.places n ∙ stands.place_is;
  not_gone = λ gone. stands.not_gone (sym (alike.lives n) ∙ gone);
}
