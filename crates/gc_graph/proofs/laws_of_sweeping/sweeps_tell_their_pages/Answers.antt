use Rattle.gc_graph.proofs.SweptPages.{sweeps_tell_their_pages}
use Rattle.gc_graph.proofs.laws_of_sweeping.sweeps_tell_their_pages.Goals as goal

pub returns : goal.returns
returns c = sweeps_tell_their_pages
