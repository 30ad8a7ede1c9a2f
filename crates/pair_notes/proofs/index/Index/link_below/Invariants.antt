use Rattle.std.proofs.Common.{◌≡◌}
use Rattle.pair_notes.specs.Keys.{keys_of}
use Rattle.pair_notes.proofs.index.Index.link_below.Given as goal

abbrev pub invariant-loop-bit : goal.invariant-loop-bit
invariant-loop-bit l = keys_of l.self ≡ keys_of l.fn.self
