-- Passes of a lock between their turns.
use Rattle.std.specs.Prelude.{◌≡◌, ◌≢◌, ◌+◌, ℕ, None}
use Rattle.region_lock.specs.Seated.{TableId}
use Rattle.region_lock.specs.Passes.{PassState}

-- a pass of this lock, with this number and without a turn
pub record IsFree {E : Type 0} (lock : TableId) (number : ℕ) (pass : PassState E) : Type 0 where
  pub of : pass.lock ≡ lock
  pub numbered : pass.number ≡ number
  pub turn : pass.turn ≡ None

-- a pass of this lock, which is not the first one, without a turn
pub record IsOther {E : Type 0} (lock : TableId) (pass : PassState E) : Type 0 where
  pub of : pass.lock ≡ lock
  pub later : pass.number ≢ 0
  pub turn : pass.turn ≡ None

-- four such passes, the first with this number and each other one with the next
pub record AreFree {E : Type 0} (lock : TableId) (first : ℕ) (passes : PassState E × PassState E × PassState E × PassState E) : Type 0 where
  pub one : IsFree lock first passes.0
  pub two : IsFree lock (first + 1) passes.1
  pub three : IsFree lock (first + 2) passes.2
  pub four : IsFree lock (first + 3) passes.3
