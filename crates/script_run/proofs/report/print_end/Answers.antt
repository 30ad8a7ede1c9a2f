use Rattle.script_run.proofs.HeldBack.{taken_on}
use Rattle.script_run.proofs.report.print_end.Goals as goal

pub returns-in-Ok-clause-taken : goal.returns-in-Ok-clause-taken
returns-in-Ok-clause-taken g c = taken_on _ _ _ c.print.ensures.taken c.hand_down.ensures.taken
