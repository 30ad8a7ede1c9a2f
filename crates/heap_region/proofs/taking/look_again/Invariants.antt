use Rattle.std.proofs.Common.{take}
use Rattle.heap_region.specs.Taking.{entries_between, HasLooked}
use Rattle.heap_region.proofs.taking.look_again.Given as goal

abbrev pub invariant-loop-i : goal.invariant-loop-i
invariant-loop-i l = HasLooked l.initial.objects (take l.from l.held.history) (entries_between l.from l.i l.held.history) l.objects
