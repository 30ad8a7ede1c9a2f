-- What is found at an address, told in two ways.
use Rattle.std.proofs.Common.{ℕ, ◌≤◌, Option, Some, None, inl, inr}
use Rattle.std.specs.Option.{IfSome, IfNone, unwrap_or}
use Rattle.std.proofs.lemmas.Bool.{cases_lt}
use Rattle.gc_graph.specs.Placement.{IsLowest, IsNowhere}

-- a lowest place for the one is a lowest place for the other, where both hold at the same addresses
pub lowest_of : (P Q : ℕ → Type 0) (r : Option ℕ) → ((a : ℕ) → P a → Q a) → ((a : ℕ) → Q a → P a) → IfSome r (IsLowest P) → IfSome r (IsLowest Q)
lowest_of P Q None to from low = low
lowest_of P Q (Some a) to from low = (to a low.0, (λ b before q. low.1 b before (from b q)))

pub nowhere_of : (P Q : ℕ → Type 0) (r : Option ℕ) → ((a : ℕ) → Q a → P a) → IfNone r (IsNowhere P) → IfNone r (IsNowhere Q)
nowhere_of P Q None from none = λ a q. none a (from a q)
nowhere_of P Q (Some a) from none = none

-- what is found is no lower than any other
pub lowest_or : (P : ℕ → Type 0) (r : Option ℕ) (end a : ℕ) → IfSome r (IsLowest P) → IfNone r (IsNowhere P) → P a → unwrap_or r end ≤ a
lowest_or P None end a low none holds = absurd (none a holds)
lowest_or P (Some p) end a low none holds = elim (cases_lt a p) [
  | inl before ↦ absurd (low.1 a before holds)
  | inr after ↦ after
]
