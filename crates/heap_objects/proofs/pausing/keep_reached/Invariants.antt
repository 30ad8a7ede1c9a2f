use Rattle.heap_objects.proofs.pausing.keep_reached.Given as goal

abbrev pub ghost-set_stop : goal.ghost-set_stop
ghost-set_stop g a = g.roots
