use Rattle.std.specs.Prelude.{[]}
use Rattle.heap_engine.proofs.since.no_states.Given as goal

abbrev pub ghost-chosen : goal.ghost-chosen
ghost-chosen a = []
