use Rattle.std.proofs.Common.{◌≡◌, ◌≤◌, ◌-◌, ◌∙◌, ℕ, List, length, sym, ap, arith}
use Rattle.std.specs.List.{slice_get}
use Rattle.gc_graph.specs.declared.line.Line.{Line}
use Rattle.heap_cycle.specs.Printed.{Printed, outcome_lines}
use Rattle.heap_cycle.specs.Views.{Ran}
use Rattle.heap_engine.proofs.ThreadsTold.{get_first, get_later}
use Rattle.heap_engine.proofs.heap_core.Core.line.Goals as goal

pub returns-then-index-told-clause-line : goal.returns-then-index-told-clause-line
returns-then-index-told-clause-line c =
    rw (← c.self.view_is)
    (get_first c.self.inside.parts.region.told (outcome_lines c.self.inside.outcome c.self.inside.parts.cycle.ran) c.args.index c.told_line.result c.told_line.ensures)

pub returns-clause-line : goal.returns-clause-line
returns-clause-line c =
    let o : Printed = c.self.inside.outcome in
    let ran : Ran = c.self.inside.parts.cycle.ran in
    let told : List Line = c.self.inside.parts.region.told in
    let count : c.from-told.result ≡ length told = c.from-told.ensures ∙ c.told_count.ensures.count in
    let low : length told ≤ c.args.index = omega (arith, count, c.if-index-told.false) in
    rw (← c.self.view_is)
    (get_later told (outcome_lines o ran) c.args.index low
    ∙ ap (λ n. slice_get (outcome_lines o ran) (c.args.index - n)) (sym count)
    ∙ ap (λ (r : Ran). slice_get (outcome_lines o r) (c.args.index - c.from-told.result)) (sym c.registered.ensures) ∙ c.line.ensures)
