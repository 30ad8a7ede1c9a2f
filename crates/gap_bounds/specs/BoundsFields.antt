-- What is true of the fields of the bounds.
use Rattle.std.specs.Prelude.{◌≡◌, ℕ, ◌*◌, ◌/◌, ◌≤◌, length, slice_index}
use Rattle.gap_bounds.specs.Bounds.{group_blocks}
use Rattle.gap_bounds.specs.declared.bounds.Bounds.TheInside.{Inside}

-- a heap has so many blocks at most, in whole groups, and no block's bound is above its group's
pub record IsBounds (b : Inside) : Type 0 where
  pub few : length b.blocks.items ≤ 262144
  pub whole : length b.blocks.items ≡ group_blocks * length b.groups.items
  pub above : (block : ℕ) → slice_index b.blocks.items block ≤ slice_index b.groups.items (block / group_blocks)
