-- What is counted over a heap's life.
use Rattle.std.specs.Prelude.{ℕ, ◌-◌, ◌^◌, min}
use Rattle.gc_graph.specs.State.{State}
use Rattle.heap_cycle.specs.declared.cycle.Counts.{Counts}

-- a count stays at its type's last value
abbrev pub capped : ℕ → ℕ
capped n = min n (2 ^ 64 - 1)

-- what a state counts
abbrev pub counts_of : State → Counts
counts_of s = record { ordinal = capped s.ordinal; pauses = capped s.pauses; finalised = capped s.finalised; full = capped s.full }
