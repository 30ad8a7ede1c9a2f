use Rattle.std.proofs.Common.{◌≡◌, ◌++◌, map, take, drop}
use Rattle.callback_table.specs.Registry.{placed_at}
use Rattle.callback_table.proofs.registry.place_all.Given as goal

abbrev pub invariant-loop-entry : goal.invariant-loop-entry
invariant-loop-entry l = l.entries ≡ map (placed_at l.place) (take l.entry-index l.initial.entries) ++ drop l.entry-index l.initial.entries
