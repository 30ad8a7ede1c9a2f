use Rattle.gc_graph.proofs.SweepLaws.{placed_in_last_page}
use Rattle.gc_graph.proofs.laws_of_sweeping.placed_in_last_page.Goals as goal

pub returns : goal.returns
returns c = placed_in_last_page
