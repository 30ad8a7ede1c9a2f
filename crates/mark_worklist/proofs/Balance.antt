-- Sums over the ends of a list, where one end changes and where one end has all parts.
use Rattle.std.proofs.Common.{rules, ◌≡◌, ℕ, zero, suc, ◌+◌, ◌≤◌, List, [], ◌∷◌, set, refl, sym, ap, arith}
use mathlib.Core.Option.{some, some-ne-none}
use lib.ListN.{get_elem?}
use Rattle.std.specs.List.{Contains, All, sum_by}
use Rattle.std.proofs.lemmas.List.Sums.{sum_by-cons}
use Rattle.mark_worklist.specs.declared.rule.Hand.{Hand}
use Rattle.mark_worklist.specs.Hands.{IsIdleWithoutParts}

same_some : {A : Type 0} (x y : A) → some x ≡ some y → x ≡ y
same_some x y e = search rules

-- the sum after a change of one end
pub sum-set : (f : Hand → ℕ) (hands : List Hand) (port : ℕ) (v w : Hand) → get_elem? hands port ≡ some v → sum_by f (set hands port w) + f v ≡ sum_by f hands + f w
sum-set f [] port v w at = absurd (some-ne-none v (sym at))
sum-set f (x ∷ xs) zero v w at =
    let is = ap f (same_some x v at) in
    omega (arith, is, sum_by-cons f w xs, sum_by-cons f x xs)
sum-set f (x ∷ xs) (suc port) v w at = omega (arith, sum-set f xs port v w at, sum_by-cons f x (set xs port w), sum_by-cons f x xs)

pub is-there : (hands : List Hand) (port : ℕ) (v : Hand) → get_elem? hands port ≡ some v → Contains hands v
is-there [] port v at = absurd (some-ne-none v (sym at))
is-there (x ∷ xs) zero v at = (0, omega arith, same_some x v at)
is-there (x ∷ xs) (suc port) v at = let c = is-there xs port v at in (suc c.0, omega (arith, c.1), c.2)

pub at-port : (hands : List Hand) (v : Hand) → Contains hands v → (port : ℕ) × (get_elem? hands port ≡ some v)
at-port [] v (k, low, is) = absurd (omega (arith, low))
at-port (x ∷ xs) v (zero, low, is) = (0, ap some is)
at-port (x ∷ xs) v (suc k, low, is) = let r = at-port xs v (k, omega (arith, low), is) in (suc r.0, r.1)

-- ---- the end with all parts

-- where no end has parts, the ends have nothing
none-all : (f : Hand → ℕ) → ((h : Hand) → IsIdleWithoutParts h → h.parts ≡ 0 → f h ≡ 0) → (hands : List Hand)
    → All IsIdleWithoutParts hands → sum_by (λ h. h.parts) hands ≡ 0 → sum_by f hands ≡ 0
none-all f nothing [] idle none = refl
none-all f nothing (x ∷ xs) idle none =
    let parts = sum_by-cons (λ h. h.parts) x xs in
    let here = nothing x (idle 0 x (omega arith)) (omega (arith, parts, none)) in
    let rest = none-all f nothing xs (λ k d l. idle (suc k) d (omega (arith, l))) (omega (arith, parts, none)) in
    omega (arith, sum_by-cons f x xs, here, rest)

-- an end's parts are among those of all
parts-le : (hands : List Hand) (port : ℕ) (v : Hand) → get_elem? hands port ≡ some v → v.parts ≤ sum_by (λ h. h.parts) hands
parts-le [] port v at = absurd (some-ne-none v (sym at))
parts-le (x ∷ xs) zero v at =
    let is = ap (λ h. h.parts) (same_some x v at) in
    omega (arith, is, sum_by-cons (λ h. h.parts) x xs)
parts-le (x ∷ xs) (suc port) v at = omega (arith, parts-le xs port v at, sum_by-cons (λ h. h.parts) x xs)

-- the end with all parts has all that the ends have
pub alone : (f : Hand → ℕ) → ((h : Hand) → IsIdleWithoutParts h → h.parts ≡ 0 → f h ≡ 0) → (hands : List Hand) (port : ℕ) (v : Hand)
    → get_elem? hands port ≡ some v → All IsIdleWithoutParts hands → sum_by (λ h. h.parts) hands ≡ v.parts → sum_by f hands ≡ f v
alone f nothing [] port v at idle whole = absurd (some-ne-none v (sym at))
alone f nothing (x ∷ xs) zero v at idle whole =
    let is = same_some x v at in
    let same = ap (λ h. h.parts) is in
    let parts = sum_by-cons (λ h. h.parts) x xs in
    let rest = none-all f nothing xs (λ k d l. idle (suc k) d (omega (arith, l))) (omega (arith, parts, whole, same)) in
    omega (arith, sum_by-cons f x xs, ap f is, rest)
alone f nothing (x ∷ xs) (suc port) v at idle whole =
    let parts = sum_by-cons (λ h. h.parts) x xs in
    let below = parts-le xs port v at in
    let here = nothing x (idle 0 x (omega arith)) (omega (arith, parts, whole, below)) in
    let rest = alone f nothing xs port v at (λ k d l. idle (suc k) d (omega (arith, l))) (omega (arith, parts, whole, below)) in
    omega (arith, sum_by-cons f x xs, here, rest)
