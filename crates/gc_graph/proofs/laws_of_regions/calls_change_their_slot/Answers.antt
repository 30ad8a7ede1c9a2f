use Rattle.gc_graph.proofs.RegionLaws.{calls_change_their_slot, pauses_clear_dead_slots}
use Rattle.gc_graph.proofs.laws_of_regions.calls_change_their_slot.Goals as goal

pub returns-clause-slots : goal.returns-clause-slots
returns-clause-slots c = calls_change_their_slot

pub returns-clause-pauses : goal.returns-clause-pauses
returns-clause-pauses c = pauses_clear_dead_slots
