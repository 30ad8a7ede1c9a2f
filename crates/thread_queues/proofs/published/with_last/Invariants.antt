use Rattle.std.specs.Prelude.{◌++◌, ◌∷◌, []}
use Rattle.thread_queues.proofs.published.with_last.Given as goal

abbrev pub ghost-chosen : goal.ghost-chosen
ghost-chosen a = a.about.now.since.now.value ++ a.about.now.publisher.now.last ∷ []
