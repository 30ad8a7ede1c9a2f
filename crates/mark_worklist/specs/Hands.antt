-- What the ends of one list have put on it and taken from it, and the rule that they keep.
use Rattle.std.specs.Prelude.{◌≡◌, ℕ, ◌+◌, ◌-◌, Bool, List, [], ◌++◌, Contains, All}
use Rattle.std.specs.List.{count_by, sum_by}
use Rattle.mark_worklist.specs.declared.rule.Hand.{Hand}

-- an end with so many parts, which has put and taken these, and neither brought nor moved any
abbrev pub hand : ℕ → List ℕ → List ℕ → Hand
hand parts put taken = record { parts = parts; put = put; taken = taken; brought = []; moved = [] }

-- all items that came onto the list at an end
abbrev pub laid : Hand → List ℕ
laid h = h.put ++ h.brought

-- all items that left the list at an end
abbrev pub drawn : Hand → List ℕ
drawn h = h.taken ++ h.moved

-- the end after it gave one of its parts away
abbrev pub one_part_from : Hand → Hand
one_part_from h = record h { parts = h.parts - 1 }

-- the parts that the ends of one list have together: one for each end that there may be
abbrev pub all_parts : ℕ
all_parts = 9

-- the end after it put more
abbrev pub with_put : Hand → List ℕ → Hand
with_put h more = record h { put = h.put ++ more }

-- the end after it took more
abbrev pub with_taken : Hand → List ℕ → Hand
with_taken h more = record h { taken = h.taken ++ more }

-- the end after it brought more from other lists
abbrev pub with_brought : Hand → List ℕ → Hand
with_brought h more = record h { brought = h.brought ++ more }

-- the end after it moved more to another list
abbrev pub with_moved : Hand → List ℕ → Hand
with_moved h more = record h { moved = h.moved ++ more }

-- two ends as one
abbrev pub hands_joined : Hand → Hand → Hand
hands_joined h k = record {
  parts = h.parts + k.parts;
  put = h.put ++ k.put;
  taken = h.taken ++ k.taken;
  brought = h.brought ++ k.brought;
  moved = h.moved ++ k.moved;
}

-- at an end without parts nothing came onto the list, and nothing left it
abbrev pub IsIdleWithoutParts : Hand → Type 0
IsIdleWithoutParts h = h.parts ≡ 0 → (laid h ≡ []) × (drawn h ≡ [])

-- the ends have all parts; and whatever items are asked for, as many came onto the list as left it and are there
pub record IsBalanced (items : List ℕ) (hands : List Hand) : Type 0 where
  pub whole : sum_by (λ h. h.parts) hands ≡ all_parts
  pub even : (asked : ℕ → Bool) → sum_by (λ h. count_by asked (laid h)) hands ≡ sum_by (λ h. count_by asked (drawn h)) hands + count_by asked items
  pub partless : All IsIdleWithoutParts hands

-- there was a step at which the list was empty, while this end had put and taken what it has
abbrev pub WasEmpty : Hand → Type 0
WasEmpty h = (hands : List Hand) × IsBalanced [] hands × Contains hands h

-- whatever items are asked for, as many came onto the list as left it and are there
abbrev pub IsLeft : Hand → List ℕ → Type 0
IsLeft h items = (asked : ℕ → Bool) → count_by asked (laid h) ≡ count_by asked (drawn h) + count_by asked items

-- what came onto the list and did not leave it is there
abbrev pub HasLeft : Hand → Type 0
HasLeft h = (items : List ℕ) × IsLeft h items

-- the end took this one item more, and where it has all parts, the rest of what came onto the list is there
pub record TookWhole (old : Hand) (xs : List ℕ) (new : Hand) : Type 0 where
  pub taken : new ≡ with_taken old xs
  pub left : old.parts ≡ all_parts → HasLeft new
