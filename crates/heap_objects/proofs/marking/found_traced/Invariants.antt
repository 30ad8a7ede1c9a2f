use Rattle.heap_objects.proofs.marking.found_traced.Given as goal

abbrev pub ghost-chosen : goal.ghost-chosen
ghost-chosen a = a.about.now.done
