-- What is true of the fields of what is remembered of gaps.
use Rattle.std.specs.Prelude.{◌≡◌, ℕ, ◌≤◌, length, slice_index}
use Rattle.gap_bounds.specs.Gaps.{class_count}
use Rattle.gap_bounds.specs.declared.gaps.Gaps.TheInside.{Inside}

-- a heap has so many blocks at most; each page has its bound and its flag, and each class has its address, of which none is above the highest
pub record IsGaps (g : Inside) : Type 0 where
  pub few : length g.bounds ≤ 262144
  pub known : length g.known.items ≡ length g.most.items
  pub first : length g.first.items ≡ class_count
  pub highest : (class : ℕ) → slice_index g.first.items class ≤ g.highest
