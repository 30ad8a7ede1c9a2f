use Rattle.std.proofs.Common.{◌∙◌, sym}
use Rattle.heap_cycle.specs.Printed.{outcome_lines}
use Rattle.heap_engine.proofs.OutcomeLines.{all_finalised}
use Rattle.heap_engine.proofs.ThreadsTold.{finalised_behind, finalised_first, finalised_few}
use Rattle.heap_engine.proofs.heap_core.Core.finalised.Goals as goal

pub returns-clause-few : goal.returns-clause-few
returns-clause-few c =
    rw (← c.self.view_is, c.finalised.ensures) (finalised_few c.self.inside.parts.region.told c.self.inside.outcome c.self.inside.parts.cycle.ran)

pub returns-clause-lines : goal.returns-clause-lines
returns-clause-lines c =
    rw (← c.self.view_is, c.finalised.ensures)
    (finalised_first c.self.inside.parts.region.told c.self.inside.outcome c.self.inside.parts.cycle.ran c.self.invariant.joined)

pub returns-clause-all : goal.returns-clause-all
returns-clause-all c =
    rw (← c.self.view_is)
    (c.finalised.ensures ∙ all_finalised c.self.inside.outcome c.self.inside.parts.cycle.ran c.self.invariant.told.last_plain
    ∙ sym (finalised_behind c.self.inside.parts.region.told (outcome_lines c.self.inside.outcome c.self.inside.parts.cycle.ran) c.self.invariant.replies))
