use Rattle.std.proofs.Common.{ap, option_map}
use Rattle.script_run.proofs.own_heap.run_commands.Goals as goal

pub returns-in-Ok-clause-answer : goal.returns-in-Ok-clause-answer
returns-in-Ok-clause-answer g c = rw c.keep.ensures c.in-Ok.ensures.told

pub returns-in-Err-clause-answer : goal.returns-in-Err-clause-answer
returns-in-Err-clause-answer g c = (ap (option_map (λ heap. heap.core)) c.requires.vacant, c.in-Err.ensures.told)
