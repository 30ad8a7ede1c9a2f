use Rattle.std.proofs.Common.{[], Some}
use Rattle.heap_objects.specs.Objects.{with_made}
use Rattle.heap_objects.proofs.nodes.made.Given as goal

abbrev pub ghost-chosen : goal.ghost-chosen
ghost-chosen a = with_made (record { shape = a.about.now.space.now.shape; markers = 0; types = a.about.now.types.now; callbacks = [] })
    a.about.now.nodes.now.value a.about.now.t a.about.now.extra (Some a.about.now.place)
