-- How far shares are linked.
use Rattle.std.specs.Prelude.{◌≡◌, ℕ, ◌+◌, ◌<◌, ◌≤◌, List, length, map, take, slice_index_or}
use Rattle.std.specs.List.{remove}
use Rattle.mark_worklist.specs.Hands.{all_parts}
use Rattle.mark_worklist.specs.Ends.{ListName}
use Rattle.mark_worklist.specs.Shares.{ShareState}
use Rattle.mark_worklist.specs.Families.{at, IsFresh}

-- the shares' own lists, in their order
abbrev pub lists_of : List ShareState → List ListName
lists_of shares = map (λ s. s.own.list) shares

-- of so many shares, the one at k: the lists before the giver's have gone to all, and the giver's to the shares before the taker
pub record HasLinks (names : List ListName) (giver taker k : ℕ) (s : ShareState) : Type 0 where
  pub number : s.number ≡ k
  pub own : slice_index_or names k s.own.list ≡ s.own.list
  pub more : k < taker → map (λ e. e.list) s.others ≡ remove (take (giver + 1) names) k
  pub less : taker ≤ k → map (λ e. e.list) s.others ≡ remove (take giver names) k
  pub gave_all : k < giver → s.own.hand.parts + length names ≡ all_parts + 1
  pub gave_some : k ≡ giver → taker ≤ giver → s.own.hand.parts + taker ≡ all_parts
  pub gave_more : k ≡ giver → giver < taker → s.own.hand.parts + taker ≡ all_parts + 1
  pub gave_none : giver < k → s.own.hand.parts ≡ all_parts
  pub fresh : IsFresh s

-- all of them are so far linked
pub record IsLinked (names : List ListName) (giver taker : ℕ) (shares : List ShareState) : Type 0 where
  pub as_many : length shares ≡ length names
  pub each : (k : ℕ) → k < length names → HasLinks names giver taker k (at shares k)
