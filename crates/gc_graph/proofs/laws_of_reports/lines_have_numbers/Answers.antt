use Rattle.gc_graph.proofs.ValidSteps.{step_keeps_valid}
use Rattle.gc_graph.proofs.RunNumbers.{lines_have_numbers}
use Rattle.gc_graph.proofs.laws_of_reports.lines_have_numbers.Goals as goal

pub returns : goal.returns
returns c = lines_have_numbers step_keeps_valid
