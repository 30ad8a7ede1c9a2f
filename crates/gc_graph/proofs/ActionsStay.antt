-- What an action leaves of the nodes: places, lives and types.
use Rattle.std.proofs.Common.{ℕ, List, length, set, All, Option, Some, None, refl, sym, subst, inl, inr}
use Rattle.std.proofs.lemmas.Bool.{cases_lt}
use Rattle.std.proofs.lemmas.List.{set_past, length-set}
use Rattle.std.proofs.lemmas.List.Elements.{All-set}
use Rattle.gc_graph.specs.declared.action.Action.TheVariants as A
use Rattle.gc_graph.specs.State.{Setup, Node, no_node, node_at}
use Rattle.gc_graph.specs.Actions.{cleared_at, added_at, linked, change_linked}
use Rattle.gc_graph.specs.ActionLaw.{HaveStayed, AreTyped, ActionsLeaveNodes}
use Rattle.gc_graph.specs.Valid.{IsTyped}
use Rattle.gc_graph.proofs.NodeWrites.{LookSame, look_written}
use Rattle.gc_graph.proofs.Prefinalising.{IsGentle, cleared_at_gentle, added_at_gentle}

abbrev Stays : Setup → List Node → List Node → Type 0
Stays setup nodes after = HaveStayed nodes after × AreTyped setup after

same_stays : (setup : Setup) (nodes : List Node) → AreTyped setup nodes → Stays setup nodes nodes
same_stays setup nodes typed = (record { count = refl; place = λ n. refl; life = λ n. refl; ty = λ n. refl }, typed)

looks_stayed : (nodes after : List Node) → LookSame nodes after → HaveStayed nodes after
looks_stayed nodes after same = record { count = same.whole; place = λ n. (same.like n).place; life = λ n. (same.like n).life; ty = λ n. (same.like n).ty }

written_stays : (setup : Setup) (nodes : List Node) (n : ℕ) (node : Node) → AreTyped setup nodes → IsGentle setup nodes (node_at nodes n) node
    → Stays setup nodes (set nodes n node)
written_stays setup nodes n node typed gentle =
    elim (cases_lt n (length nodes)) [
      | inr past ↦ subst (Stays setup nodes) (sym (set_past nodes n node past)) (same_stays setup nodes typed)
      | inl low ↦ (
        looks_stayed nodes (set nodes n node) (look_written nodes n node gentle.like),
        subst (λ bound. All (IsTyped setup bound) (set nodes n node)) (sym (length-set nodes n node))
            (All-set (IsTyped setup (length nodes)) nodes n node (gentle.typed (typed n no_node low)) typed),
      )
    ]

linked_stays : (setup : Setup) (nodes : List Node) (target : Option ℕ) (change : Node → Node) → AreTyped setup nodes
    → ((node : Node) → IsGentle setup nodes node (change node)) → Stays setup nodes (change_linked nodes target change)
linked_stays setup nodes None change typed gentle = same_stays setup nodes typed
linked_stays setup nodes (Some n) change typed gentle =
    written_stays setup nodes n (change (node_at nodes n)) typed (gentle (node_at nodes n))

pub actions_leave_nodes : ActionsLeaveNodes
actions_leave_nodes setup nodes dying A.Nothing typed = same_stays setup nodes typed
actions_leave_nodes setup nodes dying (A.Clear link field) typed =
    linked_stays setup nodes (linked (node_at nodes dying) link) (λ node. cleared_at node field) typed (λ node. cleared_at_gentle setup nodes node field)
actions_leave_nodes setup nodes dying (A.Add link field amount) typed =
    linked_stays setup nodes (linked (node_at nodes dying) link) (λ node. added_at node field amount) typed
    (λ node. added_at_gentle setup nodes node field amount)
