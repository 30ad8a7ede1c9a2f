-- One step, and lists of steps.
use Rattle.std.specs.Prelude.{◌≡◌, ℕ, ◌+◌, ◌<◌, Bool, true, false, List, [], ◌∷◌, length, take, drop, if◌then◌else◌, Option, Some, None}
use Rattle.marker_core.specs.declared.states.CoreState.{CoreState}
use Rattle.marker_core.specs.declared.steps.CoreStep.{CoreStep}
use Rattle.marker_core.specs.declared.steps.CoreStep.TheVariants.{Load, Fill, Store, Publish, Retract, Mark, Header, Stop, Split, Join, Bit, Look, Claim, Field, MarkerMark, Poll}
use Rattle.marker_core.specs.MutatorSteps.{can_load, core_loaded, can_fill, core_filled, can_store, core_stored, can_publish, core_published, can_retract, core_retracted, can_mark, marked, can_claim, claimed, can_unmark, unmarked}
use Rattle.marker_core.specs.CycleSteps.{can_begin, core_begun, core_stopped, ends, can_end, core_ended, can_split, split, can_join, core_joined}
use Rattle.marker_core.specs.MarkerSteps.{can_read_bit, bit_read, can_look, looked, can_claim_as, core_claimed_as, can_read_field, core_field_read, can_mark_as, core_marked_as, can_poll, polled}

-- the step is allowed
abbrev pub is_allowed : CoreState → CoreStep → Bool
is_allowed s (Load a why) = can_load s a why
is_allowed s (Fill a w) = can_fill s a
is_allowed s (Store a w) = can_store s a w
is_allowed s (Publish a) = can_publish s a
is_allowed s (Retract a) = can_retract s a
is_allowed s (Mark a) = can_mark s a
is_allowed s (Header a true) = can_claim s a
is_allowed s (Header a false) = can_unmark s a
is_allowed s (Stop false roots) = can_begin s
is_allowed s (Stop true roots) = if ends s then can_end s else true
is_allowed s Split = can_split s
is_allowed s (Join marker) = can_join s marker
is_allowed s (Bit marker a) = can_read_bit s marker a
is_allowed s (Look marker a) = can_look s marker a
is_allowed s (Claim marker a header) = can_claim_as s marker a header
is_allowed s (Field marker a) = can_read_field s marker a
is_allowed s (MarkerMark marker a) = can_mark_as s marker a
is_allowed s (Poll marker) = can_poll s marker

-- the state after it
abbrev pub changed : CoreState → CoreStep → CoreState
changed s (Load a why) = core_loaded s a why
changed s (Fill a w) = core_filled s a w
changed s (Store a w) = core_stored s a w
changed s (Publish a) = core_published s a
changed s (Retract a) = core_retracted s a
changed s (Mark a) = marked s a
changed s (Header a true) = claimed s a
changed s (Header a false) = unmarked s a
changed s (Stop false roots) = core_begun s roots
changed s (Stop true roots) = if ends s then core_ended s else core_stopped s
changed s Split = split s
changed s (Join marker) = core_joined s marker
changed s (Bit marker a) = bit_read s marker a
changed s (Look marker a) = looked s marker a
changed s (Claim marker a header) = core_claimed_as s marker a header
changed s (Field marker a) = core_field_read s marker a
changed s (MarkerMark marker a) = core_marked_as s marker a
changed s (Poll marker) = polled s marker

-- the state after the step, where it is allowed
unfoldable pub core_step : CoreState → CoreStep → Option CoreState
core_step s step = if is_allowed s step then Some (changed s step) else None

-- the state after all steps, where each is allowed
unfoldable pub core_run : CoreState → List CoreStep → Option CoreState
core_run s [] = Some s
core_run s (step ∷ steps) = if is_allowed s step then core_run (changed s step) steps else None

-- the first step that isn't allowed: those before it are, and in the state after them it isn't
pub record IsFirstRefused (s : CoreState) (steps : List CoreStep) (at : ℕ) : Type 0 where
  pub number : at < length steps
  pub before : CoreState
  pub refused_step : CoreStep
  pub runs : core_run s (take at steps) ≡ Some before
  pub stands : drop at steps ≡ refused_step ∷ drop (at + 1) steps
  pub refused : core_step before refused_step ≡ None
