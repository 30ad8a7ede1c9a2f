use Rattle.gc_graph.proofs.ValidSteps.{step_keeps_valid}
use Rattle.gc_graph.proofs.RunNumbers.{run_reads_back}
use Rattle.gc_graph.proofs.laws_of_reports.run_reads_back.Goals as goal

pub returns : goal.returns
returns g c = run_reads_back step_keeps_valid _
