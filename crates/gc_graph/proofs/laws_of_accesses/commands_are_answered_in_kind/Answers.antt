use Rattle.gc_graph.proofs.AnswersLaws.{commands_are_answered_in_kind}
use Rattle.gc_graph.proofs.laws_of_accesses.commands_are_answered_in_kind.Goals as goal

pub returns : goal.returns
returns c = commands_are_answered_in_kind
