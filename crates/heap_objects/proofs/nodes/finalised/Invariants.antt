use Rattle.std.proofs.Common.{map}
use Rattle.gc_graph.specs.Sweep.{finalise}
use Rattle.sweeper.specs.Sweeping.{cursor_at}
use Rattle.heap_objects.proofs.nodes.finalised.Given as goal

abbrev pub ghost-chosen : goal.ghost-chosen
ghost-chosen a = map (finalise (cursor_at a.about.now.space.now.shape a.about.now.sweep.now)) a.about.now.nodes.now.value
