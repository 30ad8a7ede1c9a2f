use Rattle.heap_objects.specs.Marking.{grey_of, refused_in}
use Rattle.heap_objects.proofs.marking.refused.Given as goal

abbrev pub ghost-chosen : goal.ghost-chosen
ghost-chosen a = refused_in (grey_of a.about.now)
