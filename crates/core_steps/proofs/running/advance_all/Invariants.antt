use Rattle.std.proofs.Common.{◌≡◌, take, Some}
use Rattle.marker_core.specs.Step.{core_run}
use Rattle.marker_core.specs.Core.{IsCoreOk}
use Rattle.core_steps.proofs.running.advance_all.Given as goal

abbrev pub invariant-loop-at : goal.invariant-loop-at
invariant-loop-at l = record {
  runs : core_run l.initial.s (take l.at l.steps) ≡ Some l.s;
  ok : IsCoreOk l.s;
}
