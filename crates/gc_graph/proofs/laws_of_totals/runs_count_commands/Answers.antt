use Rattle.gc_graph.proofs.TotalsLaws.{runs_count_commands}
use Rattle.gc_graph.proofs.laws_of_totals.runs_count_commands.Goals as goal

pub returns : goal.returns
returns c = runs_count_commands
