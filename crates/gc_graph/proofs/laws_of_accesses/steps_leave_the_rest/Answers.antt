use Rattle.gc_graph.proofs.FrameLaws.{steps_leave_rest, fields_take_turns}
use Rattle.gc_graph.proofs.laws_of_accesses.steps_leave_the_rest.Goals as goal

pub returns-clause-rest : goal.returns-clause-rest
returns-clause-rest c = steps_leave_rest

pub returns-clause-fields : goal.returns-clause-fields
returns-clause-fields c = fields_take_turns
