use Rattle.std.proofs.Common.{◌≡◌, ◌<◌, ℕ, List, None, length, ap, ◌∙◌, arith}
use Rattle.gc_graph.specs.declared.line.Line.{Line}
use Rattle.heap_cycle.specs.LastLine.{last_behind}
use Rattle.heap_cycle.specs.Printed.{Printed, outcome_lines}
use Rattle.heap_cycle.specs.Views.{Ran}
use Rattle.heap_engine.specs.declared.heap_core.Core.TheInside.{Inside}
use Rattle.heap_engine.specs.Sound.{IsSound, view_of}
use Rattle.heap_engine.proofs.OutcomeLines.{some_told}
use Rattle.heap_engine.proofs.heap_core.Core.last_line.Goals as goal

-- where a line is told, the outcome was ended
was_ended : (h : Inside) → IsSound h → 0 < length (view_of h).lines → h.outcome.last ≡ None → ⊥
was_ended h sound some none = omega (arith, some, ap length (sound.untold none))

pub last_line-requires-clause-ended : goal.last_line-requires-clause-ended
last_line-requires-clause-ended c = was_ended c.self.inside c.self.invariant (rw (← c.self.view_is) at c.requires)

pub returns : goal.returns
returns c =
    let o : Printed = c.self.inside.outcome in
    let ran : Ran = c.self.inside.parts.cycle.ran in
    let told : List Line = c.self.inside.parts.region.told in
    let some : 0 < length (outcome_lines o ran) =
    some_told o ran (was_ended c.self.inside c.self.invariant (rw (← c.self.view_is) at c.requires)) in
    rw (← c.self.view_is) (last_behind told (outcome_lines o ran) some ∙ rw c.registered.ensures at c.last_line.ensures)
