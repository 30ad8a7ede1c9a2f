use Rattle.std.specs.Prelude.{[]}
use Rattle.thread_queues.proofs.published.none.Given as goal

abbrev pub ghost-chosen : goal.ghost-chosen
ghost-chosen a = []
