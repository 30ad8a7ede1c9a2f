-- The objects after judgement and weak clearing: prefinalizers can run on them.
use Rattle.std.proofs.Common.{◌≡◌, ℕ, ◌<◌, Bool, true, false, All, List, [], ◌∷◌, length, cond, sym, ap, ◌∙◌, subst, arith}
use Rattle.std.proofs.lemmas.Bool.{cond_both}
use Rattle.std.proofs.lemmas.List.{get_or-map}
use Rattle.std.proofs.lemmas.List.Elements.{All-head, All-tail, All-cons, All-weaker, All-get_or, All-from_get_or}
use Rattle.gc_graph.specs.declared.kind.Kind.{Kind}
use Rattle.gc_graph.specs.declared.kind.Kind.TheVariants.{Strong, Weak, Pair, Plain}
use Rattle.gc_graph.specs.declared.kind.Value.{Value}
use Rattle.gc_graph.specs.declared.kind.Value.TheVariants.{Null, Ref, Word}
use Rattle.gc_graph.specs.Graph.{Object, has}
use Rattle.gc_graph.specs.State.{Setup, Node, node_at, no_node, is_there, is_live, IsLive, IsDead}
use Rattle.gc_graph.specs.Pause.{judged, condemn, names_dead, cleared_values, with_cleared, clear_node, is_dead_at}
use Rattle.gc_graph.specs.Valid.{IsTyped, NamesLive}
use Rattle.gc_graph.specs.ActionLaw.{AreTyped}
use Rattle.gc_graph.specs.Condemning.{length-condemn, clear_typed}
use Rattle.gc_graph.specs.NodeNumbers.{there_below}
use Rattle.prefinalizer_effects.specs.Prepared.{NamesThere, AllNameThere}
use Rattle.prefinalizer_effects.specs.Judgement.{nodes_after}
use Rattle.prefinalizer_effects.specs.Nodes.{IsThere}
use Rattle.prefinalizer_effects.specs.NodeLives.{life-condemn, object-condemn, live_if_there, there-condemn, still_there}
use Rattle.prefinalizer_effects.specs.TypedNodes.{AreKnown}
use Rattle.prefinalizer_effects.specs.WeakNodes.{life-after, length-after}

-- ---- clearing keeps the kinds of values, and what holds of them and of null

null_also : (P : Value → Type 0) (d : Bool) (x : Value) → P Null → P x → P (cond d Null x)
null_also P true x null is = null
null_also P false x null is = is

cleared_all : (P : Value → Type 0) (dead : ℕ → Bool) (kinds : List Kind) (values : List Value) → P Null → All P values → All P (cleared_values dead kinds values)
cleared_all P dead [] values null all = all
cleared_all P dead (Strong ∷ kinds) [] null all = all
cleared_all P dead (Weak ∷ kinds) [] null all = all
cleared_all P dead (Pair ∷ kinds) [] null all = all
cleared_all P dead (Plain ∷ kinds) [] null all = all
cleared_all P dead (Pair ∷ kinds) (key ∷ []) null all = all
cleared_all P dead (Strong ∷ kinds) (x ∷ values) null all =
    All-cons P x (cleared_values dead kinds values) (All-head P x values all) (cleared_all P dead kinds values null (All-tail P x values all))
cleared_all P dead (Plain ∷ kinds) (x ∷ values) null all =
    All-cons P x (cleared_values dead kinds values) (All-head P x values all) (cleared_all P dead kinds values null (All-tail P x values all))
cleared_all P dead (Weak ∷ kinds) (x ∷ values) null all =
    All-cons P (cond (names_dead dead x) Null x) (cleared_values dead kinds values) (null_also P (names_dead dead x) x null (All-head P x values all))
    (cleared_all P dead kinds values null (All-tail P x values all))
cleared_all P dead (Pair ∷ kinds) (key ∷ x ∷ values) null all =
    let rest : All P (x ∷ values) = All-tail P key (x ∷ values) all in
    All-cons P (cond (names_dead dead key) Null key) (cond (names_dead dead key) Null x ∷ cleared_values dead kinds values)
    (null_also P (names_dead dead key) key null (All-head P key (x ∷ values) all))
    (All-cons P (cond (names_dead dead key) Null x) (cleared_values dead kinds values) (null_also P (names_dead dead key) x null (All-head P x values rest))
    (cleared_all P dead kinds values null (All-tail P x values rest)))

-- ---- the nodes after a pause

after_at : (kept : List Bool) (nodes : List Node) (n : ℕ) → n < length nodes
    → node_at (nodes_after kept nodes) n ≡ clear_node (is_dead_at (condemn kept nodes)) (node_at (condemn kept nodes) n)
after_at kept nodes n low =
    get_or-map (clear_node (is_dead_at (condemn kept nodes))) (condemn kept nodes) n no_node no_node (omega (arith, low, length-condemn kept nodes))

condemn_typed : (setup : Setup) (bound : ℕ) (kept : List Bool) (nodes : List Node) (n : ℕ) → IsTyped setup bound (node_at nodes n) → IsTyped setup bound (node_at (condemn kept nodes) n)
condemn_typed setup bound kept nodes n t =
    subst (λ (o : Object). IsTyped setup bound (record (node_at (condemn kept nodes) n) { object = o })) (sym (object-condemn kept nodes n))
    (record { ty = t.ty; kinds_are = t.kinds_are; values_are = t.values_are; count = t.count })

pub typed_after : (setup : Setup) (kept : List Bool) (nodes : List Node) → AreTyped setup nodes → AreTyped setup (nodes_after kept nodes)
typed_after setup kept nodes typed =
    let whole : length (nodes_after kept nodes) ≡ length nodes = length-after kept nodes in
    subst (λ bound. All (IsTyped setup bound) (nodes_after kept nodes)) (sym whole)
    (All-from_get_or (IsTyped setup (length nodes)) (nodes_after kept nodes) no_node
    (λ m low. (let inside : m < length nodes = omega (arith, low, whole) in
    subst (IsTyped setup (length nodes)) (sym (after_at kept nodes m inside))
    (clear_typed setup (length nodes) (is_dead_at (condemn kept nodes)) (node_at (condemn kept nodes) m)
    (condemn_typed setup (length nodes) kept nodes m (All-get_or (IsTyped setup (length nodes)) nodes m no_node inside typed))))))

live_there : (kept : List Bool) (nodes : List Node) (n : ℕ) → IsLive nodes n → IsThere (nodes_after kept nodes) n
live_there kept nodes n live =
    ap is_there (life-after kept nodes n ∙ life-condemn kept nodes n ∙ ap (judged (has kept n)) live) ∙ still_there (has kept n)

named_after : (kept : List Bool) (nodes : List Node) (x : Value) → NamesLive nodes x → NamesThere (nodes_after kept nodes) x
named_after kept nodes Null live = tt
named_after kept nodes (Ref n) live = live_there kept nodes n live
named_after kept nodes (Word w) live = tt

-- a node that is there after the pause lived before it
lived : (kept : List Bool) (nodes : List Node) (n : ℕ) → ((m : ℕ) → IsDead nodes m → ⊥) → IsThere (nodes_after kept nodes) n → IsLive nodes n
lived kept nodes n alive there =
    live_if_there (node_at nodes n).life (there-condemn kept nodes n (ap is_there (sym (life-after kept nodes n)) ∙ there)) (alive n)

-- what is there after the pause names nothing but what is there
pub all_named : (setup : Setup) (kept : List Bool) (nodes : List Node) → AreKnown setup nodes → ((m : ℕ) → IsDead nodes m → ⊥) → AllNameThere (nodes_after kept nodes)
all_named setup kept nodes known alive n there =
    let after : List Node = nodes_after kept nodes in
    let low : n < length nodes = omega (arith, there_below after n there, length-after kept nodes) in
    let x : Node = node_at (condemn kept nodes) n in
    let live : IsLive nodes n = lived kept nodes n alive there in
    let all : All (NamesThere after) x.object.values =
    subst (λ (o : List Value). All (NamesThere after) o) (sym (ap (λ o. o.values) (object-condemn kept nodes n)))
    (All-weaker (NamesLive nodes) (NamesThere after) (named_after kept nodes) (node_at nodes n).object.values (known.references n live)) in
    subst (λ (y : Node). All (NamesThere after) y.object.values) (sym (after_at kept nodes n low))
    (cond_both (is_live x.life) (with_cleared (is_dead_at (condemn kept nodes)) x) x (λ (y : Node). All (NamesThere after) y.object.values)
    (λ e. cleared_all (NamesThere after) (is_dead_at (condemn kept nodes)) x.object.kinds x.object.values tt all) (λ e. all))
