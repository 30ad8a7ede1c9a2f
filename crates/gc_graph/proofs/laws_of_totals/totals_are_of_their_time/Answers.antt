use Rattle.gc_graph.proofs.TotalsLaws.{joins_tell_their_time}
use Rattle.gc_graph.proofs.laws_of_totals.totals_are_of_their_time.Goals as goal

pub returns : goal.returns
returns c = joins_tell_their_time
