-- What a list keeps of its shares, and what is left on those that it took in.
use Rattle.std.specs.Prelude.{◌≡◌, ℕ, ◌==◌, Bool, true, false, List, [], ◌∷◌, ◌++◌, Option, Some, None, if◌then◌else◌}
use Rattle.mark_worklist.specs.Joining.{put_by, taken_by, EndsAreJoined, KnowLeft, IsTakenOrLeft}
use Rattle.mark_worklist.specs.Shares.{ShareState}
use Rattle.mark_worklist.specs.Lists.{ListState, as_own}

-- the shares, if there are any
abbrev pub shares_in : Option (List ShareState) → List ShareState
shares_in None = []
shares_in (Some shares) = shares

-- the list whose owner's vector has these addresses; all of it is the owner's share's while shares are out
abbrev pub list_state_of : Bool → List ℕ → ℕ → Bool → Option (List ShareState) → List ℕ → ListState
list_state_of true items refused idle shared left = as_own (shares_in shared)
list_state_of false items refused idle shared left =
    record { items = left ++ items; refused = refused; idle = idle; shares = shares_in shared; whole = true }

-- the items without the first that is this one
abbrev pub without_first : ℕ → List ℕ → List ℕ
without_first a [] = []
without_first a (x ∷ xs) = if x == a then xs else (x ∷ without_first a xs)

-- the items without each of these
abbrev pub without_all : List ℕ → List ℕ → List ℕ
without_all [] items = items
without_all (a ∷ taken) items = without_all taken (without_first a items)

-- what was put on joined lists and not taken, in some order
abbrev pub left_on : List ShareState → List ℕ
left_on shares = without_all (taken_by shares) (put_by shares)

-- these addresses are left on the lists of the shares, which were taken in
pub record IsLeftOn (shares : List ShareState) (left : List ℕ) : Type 0 where
  pub joined : EndsAreJoined shares
  pub known : KnowLeft shares
  pub taken : IsTakenOrLeft shares left

-- the same where there may be none
abbrev pub IsLeftIn : Option (List ShareState) → List ℕ → Type 0
IsLeftIn None left = left ≡ []
IsLeftIn (Some shares) left = IsLeftOn shares left

-- while shares are out the vector is empty; then what is left is known, and an idle list has nothing
abbrev pub IsListKept : Bool → List ℕ → Bool → Option (List ShareState) → List ℕ → Type 0
IsListKept true items idle None left = ⊥
IsListKept true items idle (Some shares) left = (items ≡ []) × (idle ≡ false)
IsListKept false items idle shared left = IsLeftIn shared left × (idle ≡ true → left ++ items ≡ [])
