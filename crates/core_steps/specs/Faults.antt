-- Why a list of steps is not taken to its end.
use Rattle.std.specs.Prelude.{List}
use Rattle.core_steps.specs.declared.running.CoreFault.{CoreFault}
use Rattle.core_steps.specs.declared.running.CoreFault.TheVariants.{NotAllowed, NoMemory}
use Rattle.marker_core.specs.declared.states.CoreState.{CoreState}
use Rattle.marker_core.specs.declared.steps.CoreStep.{CoreStep}
use Rattle.marker_core.specs.Step.{IsFirstRefused}

-- the step that is told is the first that isn't allowed; want of memory tells nothing
abbrev pub IsStepFault : CoreState → List CoreStep → CoreFault → Type 0
IsStepFault start steps (NotAllowed at) = IsFirstRefused start steps at
IsStepFault start steps NoMemory = Unit {0}
