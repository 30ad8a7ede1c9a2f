use Rattle.heap_cycle.specs.Parts.{state_of}
use Rattle.heap_engine.specs.Going.{since_after}
use Rattle.heap_engine.proofs.since.after.Given as goal

abbrev pub ghost-chosen : goal.ghost-chosen
ghost-chosen a = since_after a.about.now.command.now (state_of a.about.now.parts.now) a.about.now.since.now.value
