use Rattle.gc_graph.proofs.ReportsReadBack.{report_reads_back}
use Rattle.gc_graph.proofs.laws.report_reads_back.Goals as goal

pub returns : goal.returns
returns g c = report_reads_back _
