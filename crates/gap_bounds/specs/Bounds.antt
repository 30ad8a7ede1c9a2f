-- The bounds of blocks, and those of groups above them.
use Rattle.std.specs.Prelude.{ℕ}

-- so many blocks make a group
abbrev pub group_blocks : ℕ
group_blocks = 4
