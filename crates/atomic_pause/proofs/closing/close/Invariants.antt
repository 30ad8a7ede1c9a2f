use Rattle.std.proofs.Common.{[]}
use Rattle.atomic_pause.proofs.closing.close.Given as goal

abbrev pub ghost-set_stop : goal.ghost-set_stop
ghost-set_stop a = []
