use Rattle.heap_objects.specs.Refused.{none_refused}
use Rattle.heap_objects.proofs.marking.none.Given as goal

abbrev pub ghost-chosen : goal.ghost-chosen
ghost-chosen a = none_refused
