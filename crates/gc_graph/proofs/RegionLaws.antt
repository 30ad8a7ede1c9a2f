-- What each call makes of the region's slots, and which of them a pause clears.
use Rattle.std.proofs.Common.{◌≡◌, ℕ, zero, suc, ◌+◌, ◌*◌, ◌/◌, ◌%◌, ◌==◌, ◌≤◌, Bool, true, false, true≢false, List, [], ◌∷◌, length, set, map, refl, sym, ap, ◌∙◌, subst, inl, inr, arith, if◌then◌else◌}
use Rattle.std.specs.Int.{bit_at}
use Rattle.std.proofs.lemmas.Bool.{cond_both, cases_lt, eqb-false, eqb-true}
use Rattle.std.proofs.lemmas.List.{get_or_past, get_or-set_same, get_or-set_other, length-set}
use Rattle.std.proofs.lemmas.Nat.Bits.{bit_at_lowest, bit_at-suc}
use Rattle.gc_graph.specs.declared.region.Op.{Op}
use Rattle.gc_graph.specs.declared.region.Op.TheVariants as O
use Rattle.gc_graph.specs.State.{Node, Life, RegionSlot, node_at, is_dead, IsDead}
use Rattle.gc_graph.specs.State.Life.{Live, Dead, Gone}
use Rattle.gc_graph.specs.State.RegionSlot.{Vacant, StrongTo, WeakTo}
use Rattle.gc_graph.specs.History.{region_slot, region_after, node_of, weakened, strengthened, weak_target, cleared_by, is_weak_slot, NamesWeakSlots}
use Rattle.gc_graph.specs.Pause.{is_dead_at, names_dead_node, mask_of}
use Rattle.gc_graph.specs.Replays.{region_after_length}
use Rattle.gc_graph.specs.RegionLaw.{NamesWeakly, NamesStrongly, MayChange, CallsChangeTheirSlot, PausesClearDeadSlots}

-- ---- one slot

slot_past : (region : List RegionSlot) (x : ℕ) → length region ≤ x → region_slot region x ≡ Vacant
slot_past region x past = get_or_past region x Vacant past

-- what was put into a slot, where nothing but null is put past the last
slot_here : (region : List RegionSlot) (x : ℕ) (slot : RegionSlot) → (length region ≤ x → slot ≡ Vacant) → region_slot (set region x slot) x ≡ slot
slot_here region x slot past =
    elim (cases_lt x (length region)) [
      | inl l ↦ get_or-set_same region x slot Vacant l
      | inr p ↦ slot_past (set region x slot) x (omega (arith, p, length-set region x slot)) ∙ sym (past p)
    ]

slot_elsewhere : (region : List RegionSlot) (x z : ℕ) (slot : RegionSlot) → (z ≡ x → ⊥) → region_slot (set region x slot) z ≡ region_slot region z
slot_elsewhere region x z slot other = get_or-set_other region x z slot Vacant other

weakened_names : (slot : RegionSlot) → NamesWeakly (weakened slot) (node_of slot)
weakened_names Vacant = (refl, refl)
weakened_names (StrongTo n) = (refl, refl)
weakened_names (WeakTo n) = (refl, refl)

strengthened_names : (slot : RegionSlot) → NamesStrongly (strengthened slot) (node_of slot)
strengthened_names Vacant = (refl, refl)
strengthened_names (StrongTo n) = (refl, refl)
strengthened_names (WeakTo n) = (refl, refl)

-- ---- the slots that a number stands for

cleared_bit : (region : List RegionSlot) (mask x : ℕ) → bit_at mask x ≡ 1 → region_slot (cleared_by mask region) x ≡ Vacant
cleared_bit [] mask x is = refl
cleared_bit (slot ∷ region) mask zero is =
    cond_both (mask % 2 == 1) Vacant slot (λ s. s ≡ Vacant) (λ e. refl) (λ e. absurd (eqb-false (mask % 2) 1 e (sym (bit_at_lowest mask) ∙ is)))
cleared_bit (slot ∷ region) mask (suc x) is = cleared_bit region (mask / 2) x (sym (bit_at-suc mask x) ∙ is)

spared_bit : (region : List RegionSlot) (mask x : ℕ) → (bit_at mask x ≡ 1 → ⊥) → region_slot (cleared_by mask region) x ≡ region_slot region x
spared_bit [] mask x not = refl
spared_bit (slot ∷ region) mask zero not =
    cond_both (mask % 2 == 1) Vacant slot (λ s. s ≡ slot) (λ e. absurd (not (bit_at_lowest mask ∙ eqb-true (mask % 2) 1 e))) (λ e. refl)
spared_bit (slot ∷ region) mask (suc x) not = spared_bit region (mask / 2) x (λ is. not (bit_at-suc mask x ∙ is))

-- a number that stands for weak slots alone has no bit for a strong one
strong_spared : (region : List RegionSlot) (mask x n : ℕ) → NamesWeakSlots mask region → region_slot region x ≡ StrongTo n → bit_at mask x ≡ 1 → ⊥
strong_spared [] mask x n weak e is = cc
strong_spared (slot ∷ region) mask zero n weak e is =
    true≢false (sym (weak.0 (sym (bit_at_lowest mask) ∙ is)) ∙ ap is_weak_slot e)
strong_spared (slot ∷ region) mask (suc x) n weak e is = strong_spared region (mask / 2) x n weak.1 e (sym (bit_at-suc mask x) ∙ is)

-- ---- each call

others_stay : (region : List RegionSlot) (op : Op) (z : ℕ) → (MayChange op z → ⊥) → region_slot (region_after region op) z ≡ region_slot region z
others_stay region (O.Export x n) z other = slot_elsewhere region x z _ other
others_stay region (O.Import x) z other = refl
others_stay region O.Start z other = refl
others_stay region (O.Pause mask) z other = spared_bit region mask z other
others_stay region (O.Copy x y) z other = slot_elsewhere region y z _ other
others_stay region (O.Clear x) z other = slot_elsewhere region x z _ other
others_stay region (O.Weaken x) z other = slot_elsewhere region x z _ other
others_stay region (O.Upgrade x y) z other = slot_elsewhere region y z _ other

pub calls_change_their_slot : CallsChangeTheirSlot
calls_change_their_slot region = record {
  whole = region_after_length region;
  others = others_stay region;
  exported = λ x n l. get_or-set_same region x (StrongTo n) Vacant l;
  imported = λ x. refl;
  started = refl;
  copied = λ x y l. get_or-set_same region y (region_slot region x) Vacant l;
  cleared = λ x. slot_here region x Vacant (λ past. refl);
  weakened = λ x.
      subst (λ slot. NamesWeakly slot (node_of (region_slot region x)))
      (sym (slot_here region x (weakened (region_slot region x)) (λ past. ap weakened (slot_past region x past))))
      (weakened_names (region_slot region x));
  upgraded = λ x y l.
      subst (λ slot. NamesStrongly slot (node_of (region_slot region x)))
      (sym (get_or-set_same region y (strengthened (region_slot region x)) Vacant l)) (strengthened_names (region_slot region x));
  paused = cleared_bit region;
  strong = λ mask x n weak e. spared_bit region mask x (strong_spared region mask x n weak e) ∙ e;
}

-- ---- a pause

odd : (n : ℕ) → n % 2 ≡ 1 → (n % 2 == 1) ≡ true
odd n e = ap (λ k. k == 1) e

even : (n : ℕ) → n % 2 ≡ 0 → (n % 2 == 1) ≡ false
even n e = ap (λ k. k == 1) e

pub lowest_flag : (flag : Bool) (rest : ℕ) → (((if flag then 1 else 0) + 2 * rest) % 2 == 1) ≡ flag
lowest_flag true rest = odd (1 + 2 * rest) (omega arith)
lowest_flag false rest = even (0 + 2 * rest) (omega arith)

pub other_flags : (flag : Bool) (rest : ℕ) → ((if flag then 1 else 0) + 2 * rest) / 2 ≡ rest
other_flags true rest = omega arith
other_flags false rest = omega arith

-- the slots that pass the test are cleared, and the others stay
flagged_slot : (test : RegionSlot → Bool) (region : List RegionSlot) (x : ℕ) → test Vacant ≡ false
    → region_slot (cleared_by (mask_of (map test region)) region) x ≡ (if test (region_slot region x) then Vacant else region_slot region x)
flagged_slot test [] x e = ap (λ flag. if flag then Vacant else Vacant) (sym e)
flagged_slot test (slot ∷ region) zero e =
    ap (λ flag. if flag then Vacant else slot) (lowest_flag (test slot) (mask_of (map test region)))
flagged_slot test (slot ∷ region) (suc x) e =
    ap (λ mask. region_slot (cleared_by mask region) x) (other_flags (test slot) (mask_of (map test region))) ∙ flagged_slot test region x e

dead_life : (life : Life) → is_dead life ≡ true → life ≡ Dead
dead_life Live e = cc
dead_life Dead e = refl
dead_life Gone e = cc

named_dead : (nodes : List Node) (slot : RegionSlot) → names_dead_node (is_dead_at nodes) (weak_target slot) ≡ true
    → (n : ℕ) × (slot ≡ WeakTo n) × IsDead nodes n
named_dead nodes Vacant e = absurd (true≢false (sym e))
named_dead nodes (StrongTo n) e = absurd (true≢false (sym e))
named_dead nodes (WeakTo n) e = (n, refl, dead_life (node_at nodes n).life e)

pub pauses_clear_dead_slots : PausesClearDeadSlots
pauses_clear_dead_slots setup s judged_nodes =
    let test : RegionSlot → Bool = λ slot. names_dead_node (is_dead_at judged_nodes) (weak_target slot) in
    record {
      cleared = λ x n is dead.
          flagged_slot test s.region x refl
          ∙ ap (λ flag. if flag then Vacant else region_slot s.region x) (ap test is ∙ ap is_dead dead);
      spared = λ x not.
          flagged_slot test s.region x refl
          ∙ cond_both (test (region_slot s.region x)) Vacant (region_slot s.region x) (λ slot. slot ≡ region_slot s.region x)
          (λ e. let named = named_dead judged_nodes (region_slot s.region x) e in absurd (not named.0 named.1 named.2)) (λ e. refl);
    }
