-- The region stays at rest where a command leaves the region's slots.
use Rattle.std.proofs.Common.{◌≡◌, ◌≢◌, ◌-◌, ◌<◌, ℕ, true, true≢false, List, [], length, refl, sym, ap, ◌∙◌, subst, inl, inr, get_or, set as slice_set, zero, suc, replicate, All}
use Rattle.std.proofs.lemmas.Bool.{cases_eq}
use Rattle.std.proofs.lemmas.List.{get_or-set_same, get_or-set_other}
use Rattle.std.proofs.lemmas.List.Elements.{All-nil, All-weaker}
use Rattle.gc_graph.specs.declared.command.Command.{Command}
use Rattle.gc_graph.specs.declared.command.Order.{Order}
use Rattle.gc_graph.specs.declared.command.Order.TheVariants as Q
use Rattle.gc_graph.specs.State.{State, empty_state}
use Rattle.gc_graph.specs.State.RegionSlot.{Vacant}
use Rattle.gc_graph.specs.Outcomes.{answered}
use Rattle.gc_graph.specs.RegionSteps.{queue_of}
use Rattle.oilpan.specs.declared.sharing.Sharing.{Sharing}
use Rattle.oilpan.specs.declared.sharing.Sharing.TheVariants.{Free, Given, Released}
use Rattle.oilpan.specs.Region.{WritesRegion, KeepsRegion}
use Rattle.oilpan.specs.Rest.{IsOwners, is_released, ClearsReleased, IsRegionAtRest}

-- ---- orders that clear slots which were given back

released_is : (slot : Sharing) → is_released slot ≡ true → slot ≡ Released
released_is Free h = absurd (true≢false (sym h))
released_is Given h = absurd (true≢false (sym h))
released_is Released h = refl

pub clears_from : (shared : List Sharing) (x : ℕ) → ClearsReleased shared (Q.Clear x) → get_or shared x Free ≡ Released
clears_from shared x h = released_is (get_or shared x Free) h

pub clears_to : (shared : List Sharing) (x : ℕ) → get_or shared x Free ≡ Released → ClearsReleased shared (Q.Clear x)
clears_to shared x h = ap is_released h

-- ---- the flags change

-- orders go on to clear what was given back, where that stays so
orders_stay : (from to : List Sharing) → ((x : ℕ) → get_or from x Free ≡ Released → get_or to x Free ≡ Released) → (order : Order)
    → ClearsReleased from order → ClearsReleased to order
orders_stay from to stay (Q.Clear x) h = clears_to to x (stay x (clears_from from x h))
orders_stay from to stay order h = absurd (true≢false (sym h))

module _ (s : State) (shared : List Sharing) (x : ℕ) (low : x < length shared) (rest : IsRegionAtRest s shared) where
  rest_flag : (to : Sharing) → to ≢ Free → (get_or shared x Free ≡ Released → to ≡ Released) → IsRegionAtRest s (slice_set shared x to)
  rest_flag to some stay = record {
    slots = rest.slots;
    queues = rest.queues;
    free = λ z is. elim (cases_eq z x) [
      | inl same ↦ absurd (some (sym (get_or-set_same shared x to Free low) ∙ subst (λ i. get_or (slice_set shared x to) i Free ≡ Free) same is))
      | inr other ↦ rest.free z (sym (get_or-set_other shared x z to Free other) ∙ is)
    ];
    orders = λ j.
        All-weaker (ClearsReleased shared) (ClearsReleased (slice_set shared x to))
        (orders_stay shared (slice_set shared x to)
        (λ z is. elim (cases_eq z x) [
          | inl same ↦
              ap (λ i. get_or (slice_set shared x to) i Free) same ∙ get_or-set_same shared x to Free low
              ∙ stay (subst (λ i. get_or shared i Free ≡ Released) same is)
          | inr other ↦ get_or-set_other shared x z to Free other ∙ is
        ]))
        (queue_of s j) (rest.orders j);
    awaiting = rest.awaiting;
    told = rest.told;
  }

  -- a free slot is given out
  pub rest_shared : get_or shared x Free ≡ Free → IsRegionAtRest s (slice_set shared x Given)
  rest_shared free = rest_flag Given (λ e. cc) (λ e. cc)

-- ---- a command

module _ (old new : State) (command : Command) (keeps : KeepsRegion old command new) (shared : List Sharing) where
  rest_where : IsRegionAtRest old shared → ((z : ℕ) → get_or shared z Free ≡ Free → WritesRegion command z → ⊥) → IsRegionAtRest new shared
  rest_where rest none = record {
    slots = keeps.count ∙ rest.slots;
    queues = ap length keeps.queues ∙ rest.queues;
    free = λ z is. keeps.vacant z (none z is) (rest.free z is);
    orders = λ j. subst (λ qs. All (ClearsReleased shared) (get_or qs (j - 1) [])) (sym keeps.queues) (rest.orders j);
    awaiting = keeps.awaiting ∙ rest.awaiting;
    told = keeps.told rest.told;
  }

  -- no slot of the region was written
  pub region_still : IsRegionAtRest old shared → ((z : ℕ) → WritesRegion command z → ⊥) → IsRegionAtRest new shared
  region_still rest none = rest_where rest (λ z is. none z)

  -- slot x was written, which is given out
  pub region_given : IsRegionAtRest old shared → (x : ℕ) → ((z : ℕ) → WritesRegion command z → z ≡ x) → get_or shared x Free ≡ Given → IsRegionAtRest new shared
  region_given rest x one given =
      rest_where rest (λ z is writes. let here : get_or shared x Free ≡ Free = subst (λ i. get_or shared i Free ≡ Free) (one z writes) is in cc)

-- nothing but the count of commands has changed
pub region_answered : (old new : State) (shared : List Sharing) → new ≡ answered old → IsRegionAtRest old shared → IsRegionAtRest new shared
region_answered old new shared is rest =
    subst (λ s. IsRegionAtRest s shared) (sym is)
    (record { slots = rest.slots; queues = rest.queues; free = rest.free; orders = rest.orders; awaiting = rest.awaiting; told = rest.told })

-- ---- a new heap

vacant_at : (n z : ℕ) → get_or (replicate n Vacant) z Vacant ≡ Vacant
vacant_at zero z = refl
vacant_at (suc n) zero = refl
vacant_at (suc n) (suc z) = vacant_at n z

no_orders : (shared : List Sharing) (n z : ℕ) → All (ClearsReleased shared) (get_or (replicate n []) z [])
no_orders shared zero z = All-nil (ClearsReleased shared)
no_orders shared (suc n) zero = All-nil (ClearsReleased shared)
no_orders shared (suc n) (suc z) = no_orders shared n z

pub region_empty : (s : State) (shared : List Sharing) → s ≡ empty_state → IsRegionAtRest s shared
region_empty s shared is =
    subst (λ x. IsRegionAtRest x shared) (sym is)
    (record {
      slots = refl;
      queues = refl;
      free = λ z given. vacant_at 32 z;
      orders = λ j. no_orders shared 8 (j - 1);
      awaiting = refl;
      told = All-nil IsOwners;
    })
