-- The plain words of objects have 64 bits, whatever is done to them.
use Rattle.std.proofs.Common.{ℕ, ◌+◌, ◌^◌, ◌<◌, Bool, List, [], ◌∷◌, length, map, set, All, Option, Some, None, sym, subst, inl, inr, arith, nat_lt, ltb, if◌then◌else◌}
use Rattle.std.specs.Prelude.{⊤}
use Rattle.std.proofs.lemmas.Bool.{cases_lt, cond_both}
use Rattle.std.proofs.lemmas.List.{get_or_past}
use Rattle.std.proofs.lemmas.List.Elements.{All-nil, All-cons, All-head, All-tail, All-set, All-map, All-weaker, All-from_get_or}
use Rattle.gc_graph.specs.declared.action.Action.{Action}
use Rattle.gc_graph.specs.declared.action.Action.TheVariants as A
use Rattle.gc_graph.specs.declared.action.ActionKind.{ActionKind}
use Rattle.gc_graph.specs.declared.kind.Kind.{Kind}
use Rattle.gc_graph.specs.declared.kind.Kind.TheVariants.{Strong, Weak, Pair, Plain}
use Rattle.gc_graph.specs.declared.kind.Value.{Value}
use Rattle.gc_graph.specs.declared.kind.Value.TheVariants.{Null, Ref, Word}
use Rattle.gc_graph.specs.State.{Node, Registration, no_node, node_at, is_live}
use Rattle.gc_graph.specs.Fields.{field_count, kind_of_field, word_of_field, value_at, with_value}
use Rattle.gc_graph.specs.Actions.{cleared_field, added, added_field, cleared_at, added_at, linked, change_linked, acted}
use Rattle.gc_graph.specs.Pause.{condemn, names_dead, cleared_values, with_cleared, clear_node, clear_fields, is_dead_at, prefinalised}
use Rattle.gc_graph.specs.WeakCalls.{WeakCall, called}
use Rattle.gc_graph.specs.Sweep.{finalise, buried}
use Rattle.gc_graph.proofs.Called.{callbacks_keep}
use Rattle.gc_graph.proofs.Condemned.{condemned_at}

abbrev pub IsSmall : Value → Type 0
IsSmall Null = ⊤
IsSmall (Ref n) = ⊤
IsSmall (Word w) = w < 2 ^ 64

abbrev pub HasSmall : Node → Type 0
HasSmall node = All IsSmall node.object.values

pub small_at : (nodes : List Node) (n : ℕ) → All HasSmall nodes → HasSmall (node_at nodes n)
small_at nodes n h =
    elim (cases_lt n (length nodes)) [
      | inl l ↦ h n no_node l
      | inr past ↦ subst HasSmall (sym (get_or_past nodes n no_node past)) (All-nil IsSmall)
    ]

pub value_small : (node : Node) (word : ℕ) → HasSmall node → IsSmall (value_at node word)
value_small node word h =
    elim (cases_lt word (length node.object.values)) [
      | inl l ↦ h word Null l
      | inr past ↦ subst IsSmall (sym (get_or_past node.object.values word Null past)) tt
    ]

pub with_small : (node : Node) (word : ℕ) (value : Value) → IsSmall value → HasSmall node → HasSmall (with_value node word value)
with_small node word value v h = All-set IsSmall node.object.values word value v h

pub set_small : (nodes : List Node) (n : ℕ) (node : Node) → HasSmall node → All HasSmall nodes → All HasSmall (set nodes n node)
set_small nodes n node v h = All-set HasSmall nodes n node v h

-- ---- actions

cleared_field_small : (kind : Kind) (node : Node) (word : ℕ) → HasSmall node → HasSmall (cleared_field kind node word)
cleared_field_small Strong node word h = with_small node word Null tt h
cleared_field_small Weak node word h = with_small node word Null tt h
cleared_field_small Pair node word h = with_small (with_value node word Null) (word + 1) Null tt (with_small node word Null tt h)
cleared_field_small Plain node word h = h

added_small : (value : Value) (amount : ℕ) → IsSmall value → IsSmall (added value amount)
added_small Null amount h = tt
added_small (Ref n) amount h = tt
added_small (Word w) amount h = omega arith

added_field_small : (kind : Kind) (node : Node) (word amount : ℕ) → HasSmall node → HasSmall (added_field kind node word amount)
added_field_small Plain node word amount h =
    with_small node word (added (value_at node word) amount) (added_small (value_at node word) amount (value_small node word h)) h
added_field_small Strong node word amount h = h
added_field_small Weak node word amount h = h
added_field_small Pair node word amount h = h

cleared_at_small : (node : Node) (field : ℕ) → HasSmall node → HasSmall (cleared_at node field)
cleared_at_small node field h =
    cond_both (nat_lt field (field_count node)) (cleared_field (kind_of_field node.object field) node (word_of_field node.object field)) node HasSmall
    (λ e. cleared_field_small (kind_of_field node.object field) node (word_of_field node.object field) h) (λ e. h)

added_at_small : (node : Node) (field amount : ℕ) → HasSmall node → HasSmall (added_at node field amount)
added_at_small node field amount h =
    cond_both (nat_lt field (field_count node)) (added_field (kind_of_field node.object field) node (word_of_field node.object field) amount) node HasSmall
    (λ e. added_field_small (kind_of_field node.object field) node (word_of_field node.object field) amount h) (λ e. h)

change_small : (nodes : List Node) (target : Option ℕ) (change : Node → Node) → ((node : Node) → HasSmall node → HasSmall (change node))
    → All HasSmall nodes → All HasSmall (change_linked nodes target change)
change_small nodes None change f h = h
change_small nodes (Some n) change f h = set_small nodes n (change (node_at nodes n)) (f (node_at nodes n) (small_at nodes n h)) h

acted_small : (nodes : List Node) (dying : ℕ) (action : Action) → All HasSmall nodes → All HasSmall (acted nodes dying action)
acted_small nodes dying A.Nothing h = h
acted_small nodes dying (A.Clear link field) h =
    change_small nodes (linked (node_at nodes dying) link) (λ node. cleared_at node field) (λ node. cleared_at_small node field) h
acted_small nodes dying (A.Add link field amount) h =
    change_small nodes (linked (node_at nodes dying) link) (λ node. added_at node field amount) (λ node. added_at_small node field amount) h

-- ---- the pause

either_small : (flag : Bool) (value : Value) → IsSmall value → IsSmall (if flag then Null else value)
either_small flag value h = cond_both flag Null value IsSmall (λ e. tt) (λ e. h)

cleared_small : (dead : ℕ → Bool) (kinds : List Kind) (values : List Value) → All IsSmall values → All IsSmall (cleared_values dead kinds values)
cleared_small dead [] values h = h
cleared_small dead (Strong ∷ kinds) [] h = h
cleared_small dead (Weak ∷ kinds) [] h = h
cleared_small dead (Pair ∷ kinds) [] h = h
cleared_small dead (Plain ∷ kinds) [] h = h
cleared_small dead (Strong ∷ kinds) (x ∷ xs) h =
    All-cons IsSmall x (cleared_values dead kinds xs) (All-head IsSmall x xs h) (cleared_small dead kinds xs (All-tail IsSmall x xs h))
cleared_small dead (Plain ∷ kinds) (x ∷ xs) h =
    All-cons IsSmall x (cleared_values dead kinds xs) (All-head IsSmall x xs h) (cleared_small dead kinds xs (All-tail IsSmall x xs h))
cleared_small dead (Weak ∷ kinds) (x ∷ xs) h =
    All-cons IsSmall (if names_dead dead x then Null else x) (cleared_values dead kinds xs)
    (either_small (names_dead dead x) x (All-head IsSmall x xs h)) (cleared_small dead kinds xs (All-tail IsSmall x xs h))
cleared_small dead (Pair ∷ kinds) (x ∷ []) h = h
cleared_small dead (Pair ∷ kinds) (x ∷ y ∷ xs) h =
    let flag : Bool = names_dead dead x in
    let rest : All IsSmall (y ∷ xs) = All-tail IsSmall x (y ∷ xs) h in
    All-cons IsSmall (if flag then Null else x) ((if flag then Null else y) ∷ cleared_values dead kinds xs)
    (either_small flag x (All-head IsSmall x (y ∷ xs) h))
    (All-cons IsSmall (if flag then Null else y) (cleared_values dead kinds xs) (either_small flag y (All-head IsSmall y xs rest))
    (cleared_small dead kinds xs (All-tail IsSmall y xs rest)))

clear_node_small : (dead : ℕ → Bool) (node : Node) → HasSmall node → HasSmall (clear_node dead node)
clear_node_small dead node h =
    cond_both (is_live node.life) (with_cleared dead node) node HasSmall (λ e. cleared_small dead node.object.kinds node.object.values h) (λ e. h)

condemned_small : (kept : List Bool) (nodes : List Node) → All HasSmall nodes → All HasSmall (condemn kept nodes)
condemned_small kept nodes h =
    All-from_get_or HasSmall (condemn kept nodes) no_node (λ i l. subst HasSmall (sym (condemned_at kept nodes i)) (small_at nodes i h))

pub paused_small : (callbacks : List ActionKind) (calls : List WeakCall) (registrations : List Registration) (kept : List Bool) (nodes : List Node)
    → All HasSmall nodes → All HasSmall (prefinalised callbacks registrations (called callbacks calls (clear_fields (condemn kept nodes))))
paused_small callbacks calls registrations kept nodes h =
    let dead : ℕ → Bool = is_dead_at (condemn kept nodes) in
    callbacks_keep (All HasSmall) acted_small callbacks calls registrations (clear_fields (condemn kept nodes))
    (All-map HasSmall (clear_node dead) (condemn kept nodes)
    (All-weaker HasSmall (λ node. HasSmall (clear_node dead node)) (clear_node_small dead) (condemn kept nodes) (condemned_small kept nodes h)))

-- ---- the sweep

finalise_small : (limit : ℕ) (node : Node) → HasSmall node → HasSmall (finalise limit node)
finalise_small limit node h =
    cond_both (ltb node.place limit) (record node { life = buried node.life }) node HasSmall (λ e. h) (λ e. h)

pub finalised_small : (limit : ℕ) (nodes : List Node) → All HasSmall nodes → All HasSmall (map (finalise limit) nodes)
finalised_small limit nodes h =
    All-map HasSmall (finalise limit) nodes (All-weaker HasSmall (λ node. HasSmall (finalise limit node)) (finalise_small limit) nodes h)
