use Rattle.std.proofs.Common.{subst}
use Rattle.page_words.specs.Seat.{IsView}
use Rattle.page_words.proofs.ViewFacts.{view_is}
use Rattle.page_words.proofs.mutator.MutatorSeat.bodies_lie_apart.Goals as goal

pub returns : goal.returns
returns c = subst IsView c.self.view_is (view_is c.views_are_ok.ensures c.self.inside.seat.table_id c.self.inside.seat.me.0 c.self.invariant.sure)
