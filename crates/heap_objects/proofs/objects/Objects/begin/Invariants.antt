use Rattle.std.proofs.Common.{map}
use Rattle.atomic_pause.specs.Nodes.{place_of}
use Rattle.heap_objects.proofs.objects.Objects.begin.Given as goal

abbrev pub ghost-keep_reached : goal.ghost-keep_reached
ghost-keep_reached g a = map (place_of a.nodes.now.value) g.roots
