use Rattle.std.proofs.Common.{[]}
use Rattle.heap_objects.proofs.marking.nowhere.Given as goal

abbrev pub ghost-chosen : goal.ghost-chosen
ghost-chosen a = []
