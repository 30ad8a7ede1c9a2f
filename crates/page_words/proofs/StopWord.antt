-- What may be kept once marking has begun, and after a weak read; and what the written stop word tells.
use Rattle.std.proofs.Common.{◌≡◌, ℕ, List, [], ◌∷◌, ◌++◌, Bool, true, false, eqb, ap, sym, subst}
use Rattle.std.proofs.lemmas.Bool.{true≢false, cond-true}
use Rattle.object_headers.specs.Layout.{bit_of}
use Rattle.atomic_table.specs.Seated.{TableId}
use Rattle.marker_core.specs.Bodies.{holds}
use Rattle.marker_core.specs.Closed.{reach_over}
use Rattle.marker_core.specs.declared.states.Why.{Why}
use Rattle.marker_core.specs.declared.states.Why.TheVariants.{Weak}
use Rattle.marker_core.specs.Laws.{ReachOverIsLeast, IsLeastOver}
use Rattle.page_words.specs.Seat.{SeatView, MaySetStop, with_mutator, stop_set, loaded}
use Rattle.page_words.specs.Roles.{kind_lists}
use Rattle.page_words.specs.Rule.{RuleView, IsSure, seat_view}

module _ (law : ReachOverIsLeast) (table : TableId) (known : RuleView) (sure : IsSure known) where
  -- what may be kept once marking has begun is what the roots reach
  pub reach_may_be_kept : (roots : List ℕ) (on : Bool) → MaySetStop (seat_view table known) on → on ≡ false
      → IsLeastOver (kind_lists known.types) known.mutator.bodies roots (stop_set (seat_view table known) roots on).may
  reach_may_be_kept roots true may off = absurd (true≢false off)
  reach_may_be_kept roots false may off =
      law known.count (kind_lists known.types) known.mutator.bodies roots sure.ok.bodies_are_whole sure.ok.bodies_lie_apart
      (λ b i there names. sure.ok.references_name_bodies b i there (ap (λ dead. holds dead b.place) may.0.dead) names)

  -- and after a weak read what it gave and what might be kept before reach
  pub read_may_be_kept : (a found : ℕ) (why : Why) → why ≡ Weak → known.mutator.on ≡ true
      → IsLeastOver (kind_lists known.types) known.mutator.bodies (known.mutator.may ++ a ∷ []) (loaded (seat_view table known) a why found).may
  read_may_be_kept a found why weak on =
      let roots : List ℕ = known.mutator.may ++ a ∷ [] in
      subst (λ reason. IsLeastOver (kind_lists known.types) known.mutator.bodies roots (loaded (seat_view table known) a reason found).may) (sym weak)
      (subst (IsLeastOver (kind_lists known.types) known.mutator.bodies roots)
      (sym (cond-true known.mutator.on (reach_over known.count (kind_lists known.types) known.mutator.bodies roots) known.mutator.may on))
      (law known.count (kind_lists known.types) known.mutator.bodies roots sure.ok.bodies_are_whole sure.ok.bodies_lie_apart
      (λ b i there names.
      sure.ok.references_name_bodies b i there (ap (λ dead. holds dead b.place) (sure.ok.quiet_while_off.no_dead on)) names)))

-- the word that is written tells which it was
pub stop_word_tells : (v : SeatView) (roots : List ℕ) (w : ℕ) (on : Bool) → w ≡ bit_of on
    → with_mutator v (stop_set v roots (eqb w 1)).mutator ≡ stop_set v roots on
stop_word_tells v roots w true value = ap (λ n. with_mutator v (stop_set v roots (eqb n 1)).mutator) value
stop_word_tells v roots w false value = ap (λ n. with_mutator v (stop_set v roots (eqb n 1)).mutator) value
