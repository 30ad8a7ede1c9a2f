use Rattle.std.specs.Prelude.{◌≡◌}
use Rattle.std.specs.Arc.{arc_value}
use Rattle.region_trials.specs.ScriptRounds.{AreHere}
use Rattle.region_trials.proofs.script_totals.queue_totals.Given as goal

abbrev pub invariant-loop : goal.invariant-loop
invariant-loop l =
    AreHere (arc_value l.stage.region) l.stage.pass l.stage.queues × (l.stage.queues.last ≡ l.fn.stage.queues.last)
