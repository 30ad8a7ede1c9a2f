use Rattle.heap_objects.proofs.marking.zero.Given as goal

abbrev pub ghost-chosen : goal.ghost-chosen
ghost-chosen a = 0
