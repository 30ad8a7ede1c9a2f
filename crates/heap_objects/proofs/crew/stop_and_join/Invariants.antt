use Rattle.std.proofs.Common.{[]}
use Rattle.heap_objects.proofs.crew.stop_and_join.Given as goal

abbrev pub ghost-set_stop : goal.ghost-set_stop
ghost-set_stop g a = []
