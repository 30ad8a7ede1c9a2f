use Rattle.heap_objects.specs.Objects.{written_in}
use Rattle.heap_objects.proofs.nodes.written.Given as goal

abbrev pub ghost-chosen : goal.ghost-chosen
ghost-chosen a = written_in a.about.now.nodes.now.value a.about.now.named.now.value a.about.now.f a.about.now.content.now.value.value
