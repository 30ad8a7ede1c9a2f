use Rattle.std.specs.Prelude.{◌≤◌, ◌+◌}
use Rattle.std.specs.Arc.{arc_value}
use Rattle.region_trials.specs.ScriptRounds.{AreAway}
use Rattle.region_trials.proofs.script_totals.publish_often.Given as goal

abbrev pub invariant-loop-i : goal.invariant-loop-i
invariant-loop-i g l =
    AreAway (arc_value l.stage.region) l.stage.pass l.stage.queues × (l.stage.queues.last.ordinal ≤ l.fn.behind + l.i)
