use Rattle.std.proofs.Common.{sym, ap, ◌∙◌, ◌&&◌}
use Rattle.std.specs.Int.{is_power_of_two}
use Rattle.std.proofs.lemmas.Bool.{le-leb}
use Rattle.script_generator.proofs.turns.has_cycle.Goals as goal

pub returns-then-is_late : goal.returns-then-is_late
returns-then-is_late c =
    c.is_power_of_two.ensures ∙ sym (ap (λ late. late && is_power_of_two c.args.i) (le-leb 4 c.args.i c.if-is_late.true))
