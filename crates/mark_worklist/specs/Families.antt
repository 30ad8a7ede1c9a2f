-- Shares that know one another's lists.
use Rattle.std.specs.Prelude.{◌≡◌, ℕ, ◌+◌, ◌<◌, ◌≤◌, false, List, [], ◌∷◌, ◌++◌, length, map, slice_index_or, slice_set, All}
use Rattle.std.specs.List.{insert, remove}
use Rattle.mark_worklist.specs.Hands.{hand, all_parts, hands_joined}
use Rattle.mark_worklist.specs.Ends.{ListName, OtherState, hand_of, one_part_less}
use Rattle.mark_worklist.specs.Shares.{ShareState}

-- the lists of a share's family, in the order of the shares' numbers
abbrev pub names_of : ShareState → List ListName
names_of s = insert (map (λ e. e.list) s.others) s.number s.own.list

-- it is a share of the family with these lists: it owns the one at its number, and has an end of each other one
pub record IsShareOf (names : List ListName) (s : ShareState) : Type 0 where
  pub few : length names ≤ all_parts
  pub within : s.number < length names
  pub own : slice_index_or names s.number s.own.list ≡ s.own.list
  pub others : map (λ e. e.list) s.others ≡ remove names s.number
  pub parts : s.own.hand.parts + length s.others ≡ all_parts

-- a share of which no call was made
pub record IsFresh (s : ShareState) : Type 0 where
  pub put : s.own.hand.put ≡ []
  pub taken : s.own.hand.taken ≡ []
  pub stolen : All (λ e. e.taken ≡ []) s.others
  pub brought : s.own.hand.brought ≡ []
  pub moved : s.own.hand.moved ≡ []
  pub moved_there : All (λ e. e.moved ≡ []) s.others
  pub refused : s.refused ≡ 0
  pub no_pop : s.pop_found_none ≡ false
  pub no_steal : s.steal_found_none ≡ false

-- ---- what the crate's own code cites

-- a share that stands for none
abbrev pub nobody : ShareState
nobody = record { number = 0; own = record { list = (0, 0); hand = hand 0 [] [] }; others = []; refused = 0; pop_found_none = false; steal_found_none = false }

-- the share at this position
abbrev pub at : List ShareState → ℕ → ShareState
at shares k = slice_index_or shares k nobody

-- a share that has a list of its own, and no end of another
abbrev pub alone : ℕ → ListName → ShareState
alone number list = record { number = number; own = record { list = list; hand = hand all_parts [] [] }; others = []; refused = 0; pop_found_none = false; steal_found_none = false }

-- the share at p got an end of the list of the share at d
pub record GaveEnd (old : List ShareState) (d p : ℕ) (new : List ShareState) : Type 0 where
  pub seen : ℕ
  pub all : new ≡ slice_set (slice_set old d (record (at old d) { own = one_part_less (at old d).own })) p
      (record (at old p) { others = (at old p).others ++ record { list = (at old d).own.list; taken = []; moved = []; seen = seen } ∷ [] })

-- its own end took in the other one, with what that took
abbrev pub with_joined : ShareState → OtherState → ShareState
with_joined s e = record s { own = record s.own { hand = hands_joined s.own.hand (hand_of e) } }

-- the share at p gave its last end back to the share at d
pub record GaveBack (old : List ShareState) (p d : ℕ) (new : List ShareState) : Type 0 where
  pub rest : List OtherState
  pub end : OtherState
  pub last : (at old p).others ≡ rest ++ end ∷ []
  pub all : new ≡ slice_set (slice_set old p (record (at old p) { others = rest })) d (with_joined (at old d) end)
