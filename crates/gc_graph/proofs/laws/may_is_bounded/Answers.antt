use Rattle.gc_graph.proofs.MayLaws.{may_is_bounded, starts_have_started, collections_have_started}
use Rattle.gc_graph.proofs.ValidSteps.{step_keeps_valid}
use Rattle.gc_graph.proofs.laws.may_is_bounded.Goals as goal

pub returns-clause-starts : goal.returns-clause-starts
returns-clause-starts c = starts_have_started

pub returns-clause-collections : goal.returns-clause-collections
returns-clause-collections c = collections_have_started

pub returns-clause-bound : goal.returns-clause-bound
returns-clause-bound c = may_is_bounded step_keeps_valid
