-- What weak clearing makes null, and what it leaves.
use Rattle.std.proofs.Common.{◌≡◌, ◌⊎◌, ℕ, zero, suc, ◌+◌, ◌≤◌, ◌&&◌, Bool, true, false, true≢false, List, [], ◌∷◌, length, map, get_or, Option, Some, None, refl, sym, ap, ◌∙◌, subst, inl, inr, arith, if◌then◌else◌}
use Rattle.std.proofs.lemmas.Bool.{cond_both, cond-true}
use Rattle.std.proofs.lemmas.List.Sums.{sum_by-cons}
use Rattle.gc_graph.specs.declared.kind.Kind.{Kind}
use Rattle.gc_graph.specs.declared.kind.Kind.TheVariants.{Strong, Weak, Pair, Plain}
use Rattle.gc_graph.specs.declared.kind.Value.{Value}
use Rattle.gc_graph.specs.declared.kind.Value.TheVariants.{Null, Ref, Word}
use Rattle.gc_graph.specs.State.{Setup, Node, Life, node_at, is_live, is_dead, IsLive, IsDead}
use Rattle.gc_graph.specs.State.Life.{Live, Dead, Gone}
use Rattle.gc_graph.specs.Fields.{words_of_kind, field_words, kind_of_field, word_of_field, value_at}
use Rattle.gc_graph.specs.Outcomes.{weak_slot_at}
use Rattle.gc_graph.specs.Pause.{is_dead_at, names_dead, cleared_values, with_cleared, clear_node, clear_fields, clear_slot}
use Rattle.gc_graph.specs.Valid.{IsTyped}
use Rattle.gc_graph.specs.ClearingLaw.{first_held, second_held, LosesItsNode, IsNull, HoldsTheSame, ClearsNothingElse}
use Rattle.gc_graph.proofs.Shapes.{word_at, word_at_is}
use Rattle.gc_graph.proofs.Condemned.{map_at}

-- ---- the words of a field

-- the kinds of fields that may lose their node
abbrev is_weakly : Kind → Bool
is_weakly Strong = false
is_weakly Weak = true
is_weakly Pair = true
is_weakly Plain = false

module _ (dead : ℕ → Bool) where
  cleared_first : (kinds : List Kind) (values : List Value) (f : ℕ) → field_words kinds ≤ length values
      → get_or (cleared_values dead kinds values) (word_at kinds f) Null
      ≡ (if is_weakly (get_or kinds f Plain) && names_dead dead (get_or values (word_at kinds f) Null) then Null else get_or values (word_at kinds f) Null)
  cleared_first [] values f l = refl
  cleared_first (Strong ∷ kinds) [] f l = absurd (omega (arith, l, sum_by-cons words_of_kind Strong kinds))
  cleared_first (Weak ∷ kinds) [] f l = absurd (omega (arith, l, sum_by-cons words_of_kind Weak kinds))
  cleared_first (Pair ∷ kinds) [] f l = absurd (omega (arith, l, sum_by-cons words_of_kind Pair kinds))
  cleared_first (Plain ∷ kinds) [] f l = absurd (omega (arith, l, sum_by-cons words_of_kind Plain kinds))
  cleared_first (Pair ∷ kinds) (x ∷ []) f l = absurd (omega (arith, l, sum_by-cons words_of_kind Pair kinds))
  cleared_first (Strong ∷ kinds) (x ∷ xs) zero l = refl
  cleared_first (Weak ∷ kinds) (x ∷ xs) zero l = refl
  cleared_first (Pair ∷ kinds) (x ∷ y ∷ xs) zero l = refl
  cleared_first (Plain ∷ kinds) (x ∷ xs) zero l = refl
  cleared_first (Strong ∷ kinds) (x ∷ xs) (suc f) l = cleared_first kinds xs f (omega (arith, l, sum_by-cons words_of_kind Strong kinds))
  cleared_first (Weak ∷ kinds) (x ∷ xs) (suc f) l = cleared_first kinds xs f (omega (arith, l, sum_by-cons words_of_kind Weak kinds))
  cleared_first (Pair ∷ kinds) (x ∷ y ∷ xs) (suc f) l = cleared_first kinds xs f (omega (arith, l, sum_by-cons words_of_kind Pair kinds))
  cleared_first (Plain ∷ kinds) (x ∷ xs) (suc f) l = cleared_first kinds xs f (omega (arith, l, sum_by-cons words_of_kind Plain kinds))

  cleared_second : (kinds : List Kind) (values : List Value) (f : ℕ) → field_words kinds ≤ length values → get_or kinds f Plain ≡ Pair
      → get_or (cleared_values dead kinds values) (suc (word_at kinds f)) Null
      ≡ (if names_dead dead (get_or values (word_at kinds f) Null) then Null else get_or values (suc (word_at kinds f)) Null)
  cleared_second [] values f l e = absurd cc
  cleared_second (Strong ∷ kinds) [] f l e = absurd (omega (arith, l, sum_by-cons words_of_kind Strong kinds))
  cleared_second (Weak ∷ kinds) [] f l e = absurd (omega (arith, l, sum_by-cons words_of_kind Weak kinds))
  cleared_second (Pair ∷ kinds) [] f l e = absurd (omega (arith, l, sum_by-cons words_of_kind Pair kinds))
  cleared_second (Plain ∷ kinds) [] f l e = absurd (omega (arith, l, sum_by-cons words_of_kind Plain kinds))
  cleared_second (Pair ∷ kinds) (x ∷ []) f l e = absurd (omega (arith, l, sum_by-cons words_of_kind Pair kinds))
  cleared_second (Strong ∷ kinds) (x ∷ xs) zero l e = absurd cc
  cleared_second (Weak ∷ kinds) (x ∷ xs) zero l e = absurd cc
  cleared_second (Pair ∷ kinds) (x ∷ y ∷ xs) zero l e = refl
  cleared_second (Plain ∷ kinds) (x ∷ xs) zero l e = absurd cc
  cleared_second (Strong ∷ kinds) (x ∷ xs) (suc f) l e = cleared_second kinds xs f (omega (arith, l, sum_by-cons words_of_kind Strong kinds)) e
  cleared_second (Weak ∷ kinds) (x ∷ xs) (suc f) l e = cleared_second kinds xs f (omega (arith, l, sum_by-cons words_of_kind Weak kinds)) e
  cleared_second (Pair ∷ kinds) (x ∷ y ∷ xs) (suc f) l e = cleared_second kinds xs f (omega (arith, l, sum_by-cons words_of_kind Pair kinds)) e
  cleared_second (Plain ∷ kinds) (x ∷ xs) (suc f) l e = cleared_second kinds xs f (omega (arith, l, sum_by-cons words_of_kind Plain kinds)) e

-- ---- a live node

dead_life : (life : Life) → is_dead life ≡ true → life ≡ Dead
dead_life Live e = cc
dead_life Dead e = refl
dead_life Gone e = cc

pub named : (nodes : List Node) (value : Value) → names_dead (is_dead_at nodes) value ≡ true → (n : ℕ) × (value ≡ Ref n) × IsDead nodes n
named nodes Null e = absurd (true≢false (sym e))
named nodes (Ref n) e = (n, refl, dead_life (node_at nodes n).life e)
named nodes (Word w) e = absurd (true≢false (sym e))

module _ (setup : Setup) (nodes : List Node) (n f : ℕ) (live : IsLive nodes n) (typed : IsTyped setup (length nodes) (node_at nodes n)) where
  abbrev Holder : Node
  Holder = node_at nodes n

  abbrev After : List Node
  After = clear_fields nodes

  abbrev Loses : Bool
  Loses = is_weakly (kind_of_field Holder.object f) && names_dead (is_dead_at nodes) (first_held nodes n f)

  room : field_words Holder.object.kinds ≤ length Holder.object.values
  room = omega (arith, typed.count)

  at : node_at After n ≡ with_cleared (is_dead_at nodes) Holder
  at =
      map_at (clear_node (is_dead_at nodes)) nodes n refl
      ∙ cond-true (is_live Holder.life) (with_cleared (is_dead_at nodes) Holder) Holder (ap is_live live)

  first_is : first_held After n f ≡ (if Loses then Null else first_held nodes n f)
  first_is =
      ap (λ (x : Node). value_at x (word_of_field x.object f)) at
      ∙ subst (λ w. get_or (cleared_values (is_dead_at nodes) Holder.object.kinds Holder.object.values) w Null
      ≡ (if is_weakly (kind_of_field Holder.object f) && names_dead (is_dead_at nodes) (value_at Holder w) then Null else value_at Holder w))
      (sym (word_at_is Holder.object.kinds f)) (cleared_first (is_dead_at nodes) Holder.object.kinds Holder.object.values f room)

  second_is : kind_of_field Holder.object f ≡ Pair
      → second_held After n f ≡ (if names_dead (is_dead_at nodes) (first_held nodes n f) then Null else second_held nodes n f)
  second_is pair =
      let next : word_of_field Holder.object f + 1 ≡ suc (word_of_field Holder.object f) = omega arith in
      ap (λ (x : Node). value_at x (word_of_field x.object f + 1)) at
      ∙ ap (λ w. get_or (cleared_values (is_dead_at nodes) Holder.object.kinds Holder.object.values) w Null) next
      ∙ subst (λ w. get_or (cleared_values (is_dead_at nodes) Holder.object.kinds Holder.object.values) (suc w) Null
      ≡ (if names_dead (is_dead_at nodes) (value_at Holder w) then Null else value_at Holder (suc w)))
      (sym (word_at_is Holder.object.kinds f)) (cleared_second (is_dead_at nodes) Holder.object.kinds Holder.object.values f room pair)
      ∙ ap (λ w. if names_dead (is_dead_at nodes) (first_held nodes n f) then Null else value_at Holder w) (sym next)

  loses_names : LosesItsNode nodes n f → names_dead (is_dead_at nodes) (first_held nodes n f) ≡ true
  loses_names h = ap (names_dead (is_dead_at nodes)) h.names ∙ ap is_dead h.dead

  loses_kind : LosesItsNode nodes n f → is_weakly (kind_of_field Holder.object f) ≡ true
  loses_kind h = elim h.weakly [ inl e ↦ ap is_weakly e | inr e ↦ ap is_weakly e ]

  loses_both : (a b : Bool) → a ≡ true → b ≡ true → (a && b) ≡ true
  loses_both true true e f = refl
  loses_both true false e f = f
  loses_both false b e f = e

  pub nulled : LosesItsNode nodes n f → IsNull nodes After n f
  nulled h = record {
    first = first_is ∙ ap (λ flag. if flag then Null else first_held nodes n f) (loses_both _ _ (loses_kind h) (loses_names h));
    second = λ pair. second_is pair ∙ ap (λ flag. if flag then Null else second_held nodes n f) (loses_names h);
  }

  weakly_kind : (kind : Kind) → is_weakly kind ≡ true → (kind ≡ Weak) ⊎ (kind ≡ Pair)
  weakly_kind Strong e = absurd (true≢false (sym e))
  weakly_kind Weak e = inl refl
  weakly_kind Pair e = inr refl
  weakly_kind Plain e = absurd (true≢false (sym e))

  both_of : (a b : Bool) → (a && b) ≡ true → (a ≡ true) × (b ≡ true)
  both_of true b e = (refl, e)
  both_of false b e = absurd (true≢false (sym e))

  lost : is_weakly (kind_of_field Holder.object f) ≡ true → names_dead (is_dead_at nodes) (first_held nodes n f) ≡ true → LosesItsNode nodes n f
  lost weak names =
      let d = named nodes (first_held nodes n f) names in
      record { weakly = weakly_kind (kind_of_field Holder.object f) weak; target = d.0; names = d.1; dead = d.2 }

  pub left : (LosesItsNode nodes n f → ⊥) → HoldsTheSame nodes After n f
  left keeps = record {
    first =
        first_is
        ∙ cond_both Loses Null (first_held nodes n f) (λ v. v ≡ first_held nodes n f)
        (λ e. (let b = both_of _ _ e in absurd (keeps (lost b.0 b.1)))) (λ e. refl);
    second = λ pair.
        second_is pair
        ∙ cond_both (names_dead (is_dead_at nodes) (first_held nodes n f)) Null (second_held nodes n f) (λ v. v ≡ second_held nodes n f)
        (λ e. absurd (keeps (lost (ap is_weakly pair) e))) (λ e. refl);
  }

-- ---- weak slots

cleared_slot : (dead : ℕ → Bool) (slots : List (Option ℕ)) (w : ℕ) → get_or (map (clear_slot dead) slots) w None ≡ clear_slot dead (get_or slots w None)
cleared_slot dead [] w = refl
cleared_slot dead (slot ∷ slots) zero = refl
cleared_slot dead (slot ∷ slots) (suc w) = cleared_slot dead slots w

slot_left : (nodes : List Node) (slot : Option ℕ) → ((n : ℕ) → slot ≡ Some n → IsDead nodes n → ⊥) → clear_slot (is_dead_at nodes) slot ≡ slot
slot_left nodes None keeps = refl
slot_left nodes (Some n) keeps =
    cond_both (is_dead_at nodes n) None (Some n) (λ s. s ≡ Some n) (λ e. absurd (keeps n refl (dead_life (node_at nodes n).life e))) (λ e. refl)

pub clears_nothing_else : ClearsNothingElse
clears_nothing_else setup s nodes = record {
  cleared_fields = λ n f live typed h. nulled setup nodes n f live typed h;
  spared_fields = λ n f live typed keeps. left setup nodes n f live typed keeps;
  cleared_slots = λ w n is dead.
      cleared_slot (is_dead_at nodes) s.weak w ∙ ap (clear_slot (is_dead_at nodes)) is ∙ ap (λ flag. if flag then None else Some n) (ap is_dead dead);
  spared_slots = λ w keeps. cleared_slot (is_dead_at nodes) s.weak w ∙ slot_left nodes (weak_slot_at s w) keeps;
}
