-- An action of a prefinalizer stores no reference, and moves no object.
use Rattle.std.proofs.Common.{◌≡◌, ℕ, ◌+◌, Bool, true, false, cond, List, length, set, Option, Some, None, refl, sym, ap, ◌∙◌, subst, inl, inr, eqb, ltb}
use Rattle.std.specs.List.{All}
use Rattle.std.proofs.lemmas.Bool.{cases_lt, cases_eq, cond_both}
use Rattle.std.proofs.lemmas.List.{get_or_past, get_or-set_same, get_or-set_other, set_past}
use Rattle.std.proofs.lemmas.List.Elements.{All-set, All-weaker}
use Rattle.gc_graph.specs.declared.action.Action.{Action}
use Rattle.gc_graph.specs.declared.action.Action.TheVariants as A
use Rattle.gc_graph.specs.declared.kind.Kind.{Kind}
use Rattle.gc_graph.specs.declared.kind.Kind.TheVariants.{Strong, Weak, Pair, Plain}
use Rattle.gc_graph.specs.declared.kind.Value.{Value}
use Rattle.gc_graph.specs.declared.kind.Value.TheVariants.{Null, Ref, Word}
use Rattle.gc_graph.specs.State.{Node, node_at, no_node, is_there}
use Rattle.gc_graph.specs.Fields.{kind_of_field, word_of_field, field_count, value_at}
use Rattle.gc_graph.specs.Actions.{cleared_field, cleared_at, added, added_field, added_at, linked, linked_by, change_linked, acted}
use Rattle.gc_graph.specs.ActionLaw.{HaveStayed}
use Rattle.gc_graph.specs.State.{ObjectType}
use Rattle.marker_core.specs.declared.states.Body.{Body}
use Rattle.page_words.specs.Seat.{SeatView, OnlyLooked}
use Rattle.nodes_in_words.specs.Space.{extents_of_bodies}
use Rattle.prefinalizer_effects.specs.Acting as words
use Rattle.nodes_in_words.specs.Nodes.{IsThere}
use Rattle.prefinalizer_effects.specs.Prepared.{NamesThere, AllNameThere}
use Rattle.nodes_in_words.specs.Places.{BodiesAreJudged}
use Rattle.nodes_in_words.specs.ChangedBodies.{KeepsExtents, same_extents, judged_changed}

-- ---- what holds of null, of all numbers, and of a node's values holds of them after an action

module _ (P : Value → Type 0) (null : P Null) (number : (w : ℕ) → P (Word w)) where
  cleared_all : (kind : Kind) (x : Node) (word : ℕ) → All P x.object.values → All P (cleared_field kind x word).object.values
  cleared_all Strong x word all = All-set P x.object.values word Null null all
  cleared_all Weak x word all = All-set P x.object.values word Null null all
  cleared_all Pair x word all = All-set P (set x.object.values word Null) (word + 1) Null null (All-set P x.object.values word Null null all)
  cleared_all Plain x word all = all

  cleared_at_all : (x : Node) (field : ℕ) → All P x.object.values → All P (cleared_at x field).object.values
  cleared_at_all x field all =
      cond_both (ltb field (field_count x)) (cleared_field (kind_of_field x.object field) x (word_of_field x.object field)) x (λ (y : Node). All P y.object.values)
      (λ e. cleared_all (kind_of_field x.object field) x (word_of_field x.object field) all) (λ e. all)

  one_value : (x : Node) (word : ℕ) → All P x.object.values → P (value_at x word)
  one_value x word all =
      elim (cases_lt word (length x.object.values)) [
        | inl low ↦ all word Null low
        | inr past ↦ subst P (sym (get_or_past x.object.values word Null past)) null
      ]

  added_value : (value : Value) (amount : ℕ) → P value → P (added value amount)
  added_value Null amount is = null
  added_value (Ref n) amount is = is
  added_value (Word w) amount is = number _

  added_all : (kind : Kind) (x : Node) (word amount : ℕ) → All P x.object.values → All P (added_field kind x word amount).object.values
  added_all Strong x word amount all = all
  added_all Weak x word amount all = all
  added_all Pair x word amount all = all
  added_all Plain x word amount all =
      All-set P x.object.values word (added (value_at x word) amount) (added_value (value_at x word) amount (one_value x word all)) all

  added_at_all : (x : Node) (field amount : ℕ) → All P x.object.values → All P (added_at x field amount).object.values
  added_at_all x field amount all =
      cond_both (ltb field (field_count x)) (added_field (kind_of_field x.object field) x (word_of_field x.object field) amount) x (λ (y : Node). All P y.object.values)
      (λ e. added_all (kind_of_field x.object field) x (word_of_field x.object field) amount all) (λ e. all)

  changed_all : (nodes : List Node) (target : Option ℕ) (change : Node → Node) → ((x : Node) → All P x.object.values → All P (change x).object.values)
      → (n : ℕ) → All P (node_at nodes n).object.values → All P (node_at (change_linked nodes target change) n).object.values
  changed_all nodes None change each n all = all
  changed_all nodes (Some m) change each n all =
      let y : Node = change (node_at nodes m) in
      elim (cases_lt m (length nodes)) [
        | inr past ↦ subst (λ (ns : List Node). All P (node_at ns n).object.values) (sym (set_past nodes m y past)) all
        | inl low ↦ elim (cases_eq n m) [
          | inl same ↦
              subst (λ k. All P (node_at (set nodes m y) k).object.values) (sym same)
              (subst (λ (x : Node). All P x.object.values) (sym (get_or-set_same nodes m y no_node low))
              (each (node_at nodes m) (subst (λ k. All P (node_at nodes k).object.values) same all)))
          | inr other ↦ subst (λ (x : Node). All P x.object.values) (sym (get_or-set_other nodes m n y no_node other)) all
        ]
      ]

  acted_all : (nodes : List Node) (dying : ℕ) (action : Action) (n : ℕ) → All P (node_at nodes n).object.values
      → All P (node_at (acted nodes dying action) n).object.values
  acted_all nodes dying A.Nothing n all = all
  acted_all nodes dying (A.Clear link field) n all =
      changed_all nodes (linked (node_at nodes dying) link) (λ x. cleared_at x field) (λ x. cleared_at_all x field) n all
  acted_all nodes dying (A.Add link field amount) n all =
      changed_all nodes (linked (node_at nodes dying) link) (λ x. added_at x field amount) (λ x. added_at_all x field amount) n all

still_named : (old new : List Node) → HaveStayed old new → (x : Value) → NamesThere old x → NamesThere new x
still_named old new stayed Null is = tt
still_named old new stayed (Ref n) is = ap is_there (stayed.life n) ∙ is
still_named old new stayed (Word w) is = tt

-- what is there still names nothing but what is there
pub named_acted : (nodes : List Node) (dying : ℕ) (action : Action) → HaveStayed nodes (acted nodes dying action) → AllNameThere nodes
    → AllNameThere (acted nodes dying action)
named_acted nodes dying action stayed named n there =
    let after : List Node = acted nodes dying action in
    All-weaker (NamesThere nodes) (NamesThere after) (still_named nodes after stayed) (node_at after n).object.values
    (acted_all (NamesThere nodes) tt (λ w. tt) nodes dying action n (named n (ap is_there (sym (stayed.life n)) ∙ there)))

-- ---- what a strong field names

linked_value : (kind : Kind) (x : Value) (m : ℕ) → linked_by kind x ≡ Some m → x ≡ Ref m
linked_value Strong Null m is = cc
linked_value Strong (Ref n) m is = (let same : n ≡ m = cc in ap Ref same)
linked_value Strong (Word w) m is = cc
linked_value Weak x m is = cc
linked_value Pair x m is = cc
linked_value Plain x m is = cc

-- the node that a dying one's strong field names is there
pub linked_there : (nodes : List Node) (dying link m : ℕ) → AllNameThere nodes → IsThere nodes dying → linked (node_at nodes dying) link ≡ Some m → IsThere nodes m
linked_there nodes dying link m named there is =
    let x : Node = node_at nodes dying in
    let word : ℕ = word_of_field x.object link in
    let value : value_at x word ≡ Ref m = linked_value (kind_of_field x.object link) (value_at x word) m is in
    subst (NamesThere nodes) value (one_value (NamesThere nodes) tt (λ w. tt) x word (named dying there))

-- ---- bodies

at_place : (place : ℕ) (change : Body → Body) → KeepsExtents change → KeepsExtents (λ b. cond (eqb b.place place) (change b) b)
at_place place change keeps b = go (eqb b.place place) where
  go : (flag : Bool) → ((cond flag (change b) b).place ≡ b.place) × ((cond flag (change b) b).size ≡ b.size)
  go true = keeps b
  go false = (refl, refl)

cleared_keeps : (types : List ObjectType) (field : ℕ) → KeepsExtents (words.body_cleared_at types field)
cleared_keeps types field b = go (ltb field (words.body_field_count types b)) (words.body_field_kind types b field) where
  go : (flag : Bool) (kind : Kind) → (let c : Body = cond flag (words.body_cleared_field kind b (words.body_field_word types b field)) b in (c.place ≡ b.place) × (c.size ≡ b.size))
  go true Strong = (refl, refl)
  go true Weak = (refl, refl)
  go true Pair = (refl, refl)
  go true Plain = (refl, refl)
  go false kind = (refl, refl)

added_keeps : (types : List ObjectType) (field amount : ℕ) → KeepsExtents (words.body_added_at types field amount)
added_keeps types field amount b = go (ltb field (words.body_field_count types b)) (words.body_field_kind types b field) where
  go : (flag : Bool) (kind : Kind) → (let c : Body = cond flag (words.body_added_field kind b (words.body_field_word types b field) amount) b in (c.place ≡ b.place) × (c.size ≡ b.size))
  go true Strong = (refl, refl)
  go true Weak = (refl, refl)
  go true Pair = (refl, refl)
  go true Plain = (refl, refl)
  go false kind = (refl, refl)

-- bodies that stay where they are, with their sizes, in a view that is otherwise as it was
pub record StayPut (old new : SeatView) : Type 0 where
  pub heap : new.heap ≡ old.heap
  pub types : new.types ≡ old.types
  pub on : new.on ≡ old.on
  pub extents : extents_of_bodies new.bodies ≡ extents_of_bodies old.bodies
  pub judged : BodiesAreJudged old → BodiesAreJudged new
  pub early : new.early ≡ old.early
  pub marked : new.marked ≡ old.marked

-- headers were looked at
pub put_looked : (v w x : SeatView) → OnlyLooked w x → StayPut v w → StayPut v x
put_looked v w x same put = record {
  heap = ap (λ (z : SeatView). z.heap) same ∙ put.heap;
  types = ap (λ (z : SeatView). z.types) same ∙ put.types;
  on = ap (λ (z : SeatView). z.on) same ∙ put.on;
  extents = ap (λ (z : SeatView). extents_of_bodies z.bodies) same ∙ put.extents;
  judged = λ is. subst BodiesAreJudged (sym same) (put.judged is);
  early = ap (λ (z : SeatView). z.early) same ∙ put.early;
  marked = ap (λ (z : SeatView). z.marked) same ∙ put.marked;
}

linked_put : (v : SeatView) (target : Option ℕ) (change : Body → Body) → KeepsExtents change → StayPut v (words.change_linked_body v target change)
linked_put v None change keeps = record { heap = refl; types = refl; on = refl; extents = refl; judged = λ is. is; early = refl; marked = refl }
linked_put v (Some place) change keeps = record {
  heap = refl;
  types = refl;
  on = refl;
  extents = same_extents (λ b. cond (eqb b.place place) (change b) b) (at_place place change keeps) v.bodies;
  judged = judged_changed (λ b. cond (eqb b.place place) (change b) b) (at_place place change keeps) v;
  early = refl;
  marked = refl;
}

pub acted_put : (v : SeatView) (dying : Body) (action : Action) → StayPut v (words.after_action v dying action)
acted_put v dying A.Nothing = record { heap = refl; types = refl; on = refl; extents = refl; judged = λ is. is; early = refl; marked = refl }
acted_put v dying (A.Clear link field) = linked_put v (words.linked_place v.types dying link) (words.body_cleared_at v.types field) (cleared_keeps v.types field)
acted_put v dying (A.Add link field amount) = linked_put v (words.linked_place v.types dying link) (words.body_added_at v.types field amount) (added_keeps v.types field amount)
