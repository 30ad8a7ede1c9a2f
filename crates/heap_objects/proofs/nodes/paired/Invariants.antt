use Rattle.heap_objects.specs.Objects.{paired_in}
use Rattle.heap_objects.proofs.nodes.paired.Given as goal

abbrev pub ghost-chosen : goal.ghost-chosen
ghost-chosen a = paired_in a.about.now.nodes.now.value a.about.now.named.now.value a.about.now.f a.about.now.pair.now.key.value.value a.about.now.pair.now.value.value.value
