-- The laws of generated scripts.
use Rattle.std.specs.Prelude.{◌≡◌, ◌↔◌, ℕ, ◌≤◌, ◌^◌, true}
use Rattle.std.specs.Int.{is_power_of_two}
use Rattle.gc_graph.specs.ScriptLaw.{IsInRanges}
use Rattle.script_generator.specs.Generated.{generated}

-- a generated script of up to 50,000 turns is never too much for a heap, whatever callbacks there are, and no join is awaited in it
abbrev pub GeneratedIsInRanges : Type 0
GeneratedIsInRanges = (callbacks seed count : ℕ) → count ≤ 50000 → IsInRanges callbacks (generated seed count)

-- what is tested of a turn's number is that it is 2 to some power
abbrev pub PowersAreOfTwo : Type 0
PowersAreOfTwo = (i : ℕ) → (is_power_of_two i ≡ true) ↔ ((k : ℕ) × (i ≡ 2 ^ k))
