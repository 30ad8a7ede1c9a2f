-- How many nodes there are, and how many of them are there: what writes, pauses and sweeps make of these counts.
use Rattle.std.proofs.Common.{◌≡◌, ℕ, zero, suc, ◌+◌, Bool, true, false, List, [], ◌∷◌, ◌++◌, length, map, set, sum, Option, Some, None, refl, sym, ap, ◌∙◌, subst, inl, inr, arith, if◌then◌else◌}
use Rattle.std.proofs.lemmas.Bool.{cases_eq}
use Rattle.std.proofs.lemmas.List.{length-map, length-set, get_or-set_same, get_or-set_other}
use Rattle.std.proofs.lemmas.List.Sums.{sum-map, sum_by-append, sum_by-set}
use Rattle.gc_graph.specs.declared.action.Action.{Action}
use Rattle.gc_graph.specs.declared.action.Action.TheVariants as A
use Rattle.gc_graph.specs.declared.action.ActionKind.{ActionKind}
use Rattle.gc_graph.specs.declared.kind.Kind.{Kind}
use Rattle.gc_graph.specs.declared.kind.Kind.TheVariants.{Strong, Weak, Pair, Plain}
use Rattle.gc_graph.specs.declared.phase.Phase.{Phase}
use Rattle.gc_graph.specs.declared.phase.Phase.TheVariants.{Idle, Marking, Sweeping}
use Rattle.gc_graph.specs.State.{Setup, Shape, State, Node, no_node, Life, Registration, node_at, is_there, is_live, objects_of}
use Rattle.gc_graph.specs.State.Life.{Live, Dead, Gone}
use Rattle.gc_graph.specs.Fields.{new_node}
use Rattle.gc_graph.specs.Sweep.{SweepsInPhase, SweepsTo}
use Rattle.gc_graph.specs.Actions.{cleared_field, added_field, cleared_at, added_at, linked, change_linked, acted}
use Rattle.gc_graph.specs.Outcomes.{finalise_lines}
use Rattle.gc_graph.specs.Pause.{judged, condemn, with_cleared, clear_node, clear_fields, is_dead_at, prefinalised}
use Rattle.gc_graph.specs.WeakCalls.{WeakCall, called}
use Rattle.gc_graph.specs.NodeNumbers.{dead_below}
use Rattle.gc_graph.proofs.Called.{callbacks_keep}
use Rattle.gc_graph.proofs.NodeWrites.{IsLikeNode, LookSame}
use Rattle.gc_graph.proofs.Lives.{IsBuried, AreTold}
use Rattle.gc_graph.proofs.StepLives.{sweep_told}

-- one for a node that is there
abbrev pub weight : Node → ℕ
weight node = if is_there node.life then 1 else 0

abbrev pub weights : List Node → List ℕ
weights nodes = map weight nodes

-- ---- as many nodes, and as many of them there

pub record SameCount (nodes after : List Node) : Type 0 where
  pub whole : length after ≡ length nodes
  pub there : objects_of after ≡ objects_of nodes

pub same_count : (nodes after : List Node) → weights after ≡ weights nodes → SameCount nodes after
same_count nodes after e = record {
  whole = sym (length-map after weight) ∙ ap length e ∙ length-map nodes weight;
  there = sym (sum-map weight after) ∙ ap sum e ∙ sum-map weight nodes;
}

-- ---- a node is written

pub weights_written : (nodes : List Node) (n : ℕ) (node : Node) → node.life ≡ (node_at nodes n).life → weights (set nodes n node) ≡ weights nodes
weights_written [] n node e = refl
weights_written (x ∷ nodes) zero node e = ap (λ life. (if is_there life then 1 else 0) ∷ weights nodes) e
weights_written (x ∷ nodes) (suc n) node e = ap (λ rest. weight x ∷ rest) (weights_written nodes n node e)

life_either : (b : Bool) (x y : Node) → x.life ≡ y.life → (if b then x else y).life ≡ y.life
life_either true x y e = e
life_either false x y e = refl

cleared_life : (kind : Kind) (node : Node) (word : ℕ) → (cleared_field kind node word).life ≡ node.life
cleared_life Strong node word = refl
cleared_life Weak node word = refl
cleared_life Pair node word = refl
cleared_life Plain node word = refl

added_life : (kind : Kind) (node : Node) (word amount : ℕ) → (added_field kind node word amount).life ≡ node.life
added_life Strong node word amount = refl
added_life Weak node word amount = refl
added_life Pair node word amount = refl
added_life Plain node word amount = refl

linked_weights : (nodes : List Node) (target : Option ℕ) (change : Node → Node) → ((node : Node) → (change node).life ≡ node.life)
    → weights (change_linked nodes target change) ≡ weights nodes
linked_weights nodes None change same = refl
linked_weights nodes (Some n) change same = weights_written nodes n (change (node_at nodes n)) (same (node_at nodes n))

acted_weights : (nodes : List Node) (dying : ℕ) (action : Action) → weights (acted nodes dying action) ≡ weights nodes
acted_weights nodes dying A.Nothing = refl
acted_weights nodes dying (A.Clear link field) =
    linked_weights nodes (linked (node_at nodes dying) link) (λ node. cleared_at node field)
    (λ node. life_either _ _ node (cleared_life _ node _))
acted_weights nodes dying (A.Add link field amount) =
    linked_weights nodes (linked (node_at nodes dying) link) (λ node. added_at node field amount)
    (λ node. life_either _ _ node (added_life _ node _ amount))

-- ---- a pause

judged_weight : (flag : Bool) (life : Life) → is_there (judged flag life) ≡ is_there life
judged_weight true x = refl
judged_weight false Live = refl
judged_weight false Dead = refl
judged_weight false Gone = refl

condemned_weights : (kept : List Bool) (nodes : List Node) → weights (condemn kept nodes) ≡ weights nodes
condemned_weights kept [] = refl
condemned_weights [] (x ∷ nodes) =
    ap (λ b. (if b then 1 else 0) ∷ weights (condemn [] nodes)) (judged_weight false x.life)
    ∙ ap (λ rest. weight x ∷ rest) (condemned_weights [] nodes)
condemned_weights (flag ∷ kept) (x ∷ nodes) =
    ap (λ b. (if b then 1 else 0) ∷ weights (condemn kept nodes)) (judged_weight flag x.life)
    ∙ ap (λ rest. weight x ∷ rest) (condemned_weights kept nodes)

cleared_weights : (dead : ℕ → Bool) (nodes : List Node) → weights (map (clear_node dead) nodes) ≡ weights nodes
cleared_weights dead [] = refl
cleared_weights dead (x ∷ nodes) =
    ap (λ life. (if is_there life then 1 else 0) ∷ weights (map (clear_node dead) nodes)) (life_either (is_live x.life) (with_cleared dead x) x refl)
    ∙ ap (λ rest. weight x ∷ rest) (cleared_weights dead nodes)

-- condemned, cleared, and then changed by callbacks
pub paused_weights : (callbacks : List ActionKind) (calls : List WeakCall) (registrations : List Registration) (kept : List Bool) (nodes : List Node)
    → weights (prefinalised callbacks registrations (called callbacks calls (clear_fields (condemn kept nodes)))) ≡ weights nodes
paused_weights callbacks calls registrations kept nodes =
    callbacks_keep (λ ns. weights ns ≡ weights nodes) (λ ns n action so_far. acted_weights ns n action ∙ so_far) callbacks calls registrations
    (clear_fields (condemn kept nodes))
    (cleared_weights (is_dead_at (condemn kept nodes)) (condemn kept nodes) ∙ condemned_weights kept nodes)

-- ---- a new node

pub one_more : (setup : Setup) (nodes : List Node) (t extra place : ℕ)
    → objects_of (nodes ++ new_node setup t extra place ∷ []) ≡ objects_of nodes + 1
one_more setup nodes t extra place = sum_by-append weight nodes (new_node setup t extra place ∷ [])

-- ---- sweeps

look_weights : (nodes after : List Node) → LookSame nodes after → weights after ≡ weights nodes
look_weights [] [] h = refl
look_weights [] (y ∷ after) h = absurd (omega (arith, h.whole))
look_weights (x ∷ nodes) [] h = absurd (omega (arith, h.whole))
look_weights (x ∷ nodes) (y ∷ after) h =
    ap (λ life. (if is_there life then 1 else 0) ∷ weights after) (h.like 0).life
    ∙ ap (λ rest. weight x ∷ rest) (look_weights nodes after (record { whole = omega (arith, h.whole); like = λ m. h.like (suc m) }))

abbrev gone_at : List Node → ℕ → Node
gone_at nodes n = record (node_at nodes n) { life = Gone }

buried_look : (nodes after : List Node) (n : ℕ) → IsBuried nodes n after → LookSame (set nodes n (gone_at nodes n)) after
buried_look nodes after n h = record {
  whole = h.whole ∙ sym (length-set nodes n (gone_at nodes n));
  like = λ m. elim (cases_eq m n) [
    | inl same ↦
        subst (λ k. IsLikeNode (node_at (set nodes n (gone_at nodes n)) k) (node_at after k)) (sym same)
        (subst (λ x. IsLikeNode x (node_at after n)) (sym (get_or-set_same nodes n (gone_at nodes n) no_node (dead_below nodes n h.dead)))
        (record { place = h.put.place; size = h.put.size; life = h.gone; ty = h.put.ty }))
    | inr other ↦
        subst (λ x. IsLikeNode x (node_at after m)) (sym (get_or-set_other nodes n m (gone_at nodes n) no_node other)) (h.others m other)
  ];
}

buried_count : (nodes after : List Node) (n : ℕ) → IsBuried nodes n after → objects_of nodes ≡ objects_of after + 1
buried_count nodes after n h =
    let set_one : List Node = set nodes n (gone_at nodes n) in
    let same : objects_of after ≡ objects_of set_one = (same_count set_one after (look_weights set_one after (buried_look nodes after n h))).there in
    let change : objects_of set_one + weight (node_at nodes n) ≡ objects_of nodes + 0 =
    sum_by-set weight nodes n (gone_at nodes n) no_node (dead_below nodes n h.dead) in
    let one : weight (node_at nodes n) ≡ 1 = ap (λ life. if is_there life then 1 else 0) h.dead in
    omega (arith, same, change, one)

told_count : (numbers : List ℕ) (nodes after : List Node) → AreTold nodes (finalise_lines numbers) after
    → objects_of nodes ≡ objects_of after + length numbers
told_count [] nodes after h =
    let same : objects_of after ≡ objects_of nodes = (same_count nodes after (look_weights nodes after h)).there in
    omega (arith, same)
told_count (n ∷ numbers) nodes after h =
    let first : objects_of nodes ≡ objects_of h.mid + 1 = buried_count nodes h.mid n h.tells in
    let rest : objects_of h.mid ≡ objects_of after + length numbers = told_count numbers h.mid after h.after in
    omega (arith, first, rest)

-- a sweep takes away as many as it finalises
pub record IsSwept (old new : State) : Type 0 where
  pub whole : length new.nodes ≡ length old.nodes
  pub there : new.finalised + objects_of new.nodes ≡ old.finalised + objects_of old.nodes

unswept : (old new : State) → new ≡ old → IsSwept old new
unswept old new e = subst (IsSwept old) (sym e) (record { whole = refl; there = refl })

swept_in : (phase : Phase) (shape : Shape) (old new : State) (pages : ℕ) (numbers : List ℕ)
    → length new.nodes ≡ length old.nodes → objects_of old.nodes ≡ objects_of new.nodes + length numbers
    → SweepsInPhase phase shape old pages numbers new → IsSwept old new
swept_in Idle shape old new pages numbers whole count h = unswept old new h.1
swept_in Marking shape old new pages numbers whole count h = unswept old new h.1
swept_in Sweeping shape old new pages numbers whole count h =
    let all : new.finalised ≡ old.finalised + length numbers = ap (λ (s : State). s.finalised) h.after in
    record { whole = whole; there = omega (arith, all, count) }

pub swept_count : (shape : Shape) (old new : State) (pages : ℕ) (numbers : List ℕ) → SweepsTo shape old pages numbers new → IsSwept old new
swept_count shape old new pages numbers h =
    let told = sweep_told shape old new pages numbers h in
    swept_in old.phase shape old new pages numbers told.whole (told_count numbers old.nodes new.nodes told.tells.told) h
