-- The members of a set, as a list.
use Rattle.std.proofs.Common.{◌≡◌, ℕ, zero, suc, ◌+◌, ◌<◌, true, false, Bool, List, [], ◌∷◌, length, refl, sym, subst, inl, inr, arith, eqb}
use Rattle.std.proofs.lemmas.Bool.{true≢false, or_cases, or_left, or_right, eqb-true, eq-eqb}
use Rattle.std.specs.List.{list_any}
use Rattle.gc_graph.specs.Graph.{IsIn}
use Rattle.gc_graph.specs.May.{members, members_from}
use Rattle.prefinalizer_effects.specs.AmongNodes.{IsAmong}

in_members : (k : ℕ) (set : List Bool) (n : ℕ) → IsIn set n → IsAmong (members_from k set) (k + n)
in_members k [] n is = absurd (true≢false (sym is))
in_members k (true ∷ set) zero is = or_left _ _ (eq-eqb k (k + 0) (omega arith))
in_members k (true ∷ set) (suc n) is =
    or_right (eqb k (k + suc n)) _
    (subst (IsAmong (members_from (suc k) set)) (let e : suc k + n ≡ k + suc n = omega arith in e) (in_members (suc k) set n is))
in_members k (false ∷ set) zero is = absurd (true≢false (sym is))
in_members k (false ∷ set) (suc n) is =
    subst (IsAmong (members_from (suc k) set)) (let e : suc k + n ≡ k + suc n = omega arith in e) (in_members (suc k) set n is)

member_in : (k : ℕ) (set : List Bool) (m : ℕ) → IsAmong (members_from k set) m → (n : ℕ) × (m ≡ k + n) × IsIn set n
member_in k [] m h = absurd (true≢false (sym h))
member_in k (true ∷ set) m h =
    elim (or_cases (eqb k m) (list_any (λ r. eqb r m) (members_from (suc k) set)) h) [
      | inl here ↦ (let e : m ≡ k + 0 = omega (arith, eqb-true k m here) in (0, e, refl))
      | inr later ↦ (let w = member_in (suc k) set m later in (suc w.0, omega (arith, w.1), w.2))
    ]
member_in k (false ∷ set) m h = (let w = member_in (suc k) set m h in (suc w.0, omega (arith, w.1), w.2))

-- a node of a set is in the list of its members
pub member_among : (set : List Bool) (n : ℕ) → IsIn set n → IsAmong (members set) n
member_among set n is = subst (IsAmong (members set)) (let e : 0 + n ≡ n = omega arith in e) (in_members 0 set n is)

-- a node in the list of a set's members is in the set
pub among_member : (set : List Bool) (n : ℕ) → IsAmong (members set) n → IsIn set n
among_member set n h =
    let w = member_in 0 set n h in
    let e : w.0 ≡ n = omega (arith, w.1) in
    subst (IsIn set) e w.2

pub member_below : (set : List Bool) (n : ℕ) → IsIn set n → n < length set
member_below [] n is = absurd (true≢false (sym is))
member_below (flag ∷ set) zero is = omega arith
member_below (flag ∷ set) (suc n) is = omega (arith, member_below set n is)
