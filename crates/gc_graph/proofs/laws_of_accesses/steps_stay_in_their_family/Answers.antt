use Rattle.gc_graph.proofs.FamilyFrames.{steps_stay_in_their_family}
use Rattle.gc_graph.proofs.laws_of_accesses.steps_stay_in_their_family.Goals as goal

pub returns : goal.returns
returns c = steps_stay_in_their_family
