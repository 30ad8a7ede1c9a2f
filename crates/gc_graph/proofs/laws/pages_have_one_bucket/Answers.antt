use Rattle.gc_graph.proofs.Places.{pages_have_one_bucket}
use Rattle.gc_graph.proofs.laws.pages_have_one_bucket.Goals as goal

pub returns : goal.returns
returns c = pages_have_one_bucket
