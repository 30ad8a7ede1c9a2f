use Rattle.gc_graph.proofs.ValidSteps.{step_keeps_valid}
use Rattle.gc_graph.proofs.ThreadLaws.{steps_count}
use Rattle.gc_graph.proofs.SummaryNumbers.{summary_reads_back}
use Rattle.gc_graph.proofs.laws_of_reports.summary_reads_back.Goals as goal

pub returns : goal.returns
returns c = summary_reads_back step_keeps_valid steps_count
