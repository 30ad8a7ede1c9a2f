-- How many elements of a list pass a test, and what is true of each.
use Rattle.std.specs.Prelude.{◌≡◌, ℕ, ◌+◌, Bool, true, false, List, [], ◌∷◌, ◌==◌}
use mathlib.Core.Option.{some}
use lib.ListN.{get_elem?}

-- 1 for what passes, and 0 for what does not
abbrev pub num : Bool → ℕ
num true = 1
num false = 0

-- how many elements pass the test
abbrev pub count : {X : Type 0} → (X → Bool) → List X → ℕ
count test [] = 0
count test (x ∷ xs) = num (test x) + count test xs

-- how often n stands among the numbers
abbrev pub times : ℕ → List ℕ → ℕ
times n numbers = count (λ m. m == n) numbers

-- P is true of each element
abbrev pub Each : {X : Type 0} → (X → Type 0) → List X → Type 0
Each {X} P xs = (i : ℕ) (x : X) → get_elem? xs i ≡ some x → P x
