-- The parts of a heap together: the state that they are, and what is true of them between commands.
use Rattle.std.specs.Prelude.{◌≡◌, ℕ, ◌+◌, ◌-◌, ◌≤◌, ◌++◌, length, map, take, All}
use Rattle.gc_graph.specs.declared.line.Line.{Line}
use Rattle.gc_graph.specs.declared.phase.Phase.TheVariants.{Marking}
use Rattle.gc_graph.specs.State.{Setup, State, type_at}
use Rattle.gc_graph.specs.Valid.{IsValid}
use Rattle.gc_graph.specs.Outcomes.{answered}
use Rattle.callback_table.specs.declared.registrations.LastRegistered.{LastRegistered}
use Rattle.callback_table.specs.Registrations.{weakly_registered_all, weakly_without}
use Rattle.callback_table.specs.Registry.{registered, registrations_of}
use Rattle.heap_roots.specs.Sweeping.{cursor_at}
use Rattle.heap_roots.specs.PlacesInWords.{places_of_slots}
use Rattle.heap_cycle.specs.declared.parts.Parts.{Parts}
use Rattle.heap_roots.specs.Objects.{HaveCallbacks, setup_of_objects}
use Rattle.heap_roots.specs.Owned.{with_region}
use Rattle.heap_roots.specs.Stack.{HoldsWords}
use Rattle.heap_roots.specs.WeakCalling.{AreOfHolders}
use Rattle.heap_cycle.specs.Views.{IsSweepOf, IsPlaced, Moment}
use Rattle.heap_cycle.specs.Walks.{IsWalkTold}
use Rattle.heap_roots.specs.Marks.{HasMarks}
use Rattle.heap_roots.specs.Objects.{refusals_told_of}

-- what was set up
abbrev pub setup_of : Parts → Setup
setup_of s = setup_of_objects s.objects

-- the state is put together from what each part holds of it
abbrev pub state_of : Parts → State
state_of s =
    with_region
    s.region (record s.cycle.rest {
      nodes = s.objects.nodes;
      slots = s.handles.slots;
      weak = s.handles.weak;
      stack = s.handles.stack.words;
      registrations = registrations_of s.cycle.registered;
      phase = s.cycle.phase;
    })

-- this moment of the parts
abbrev pub moment_of : Parts → Moment
moment_of s = record { state = state_of s; taken = s.region.taken }

-- one command more was answered
abbrev pub counted : Parts → Parts
counted s = record s { cycle = record s.cycle { rest = answered s.cycle.rest } }

-- the callbacks of the type are registered for the next node, with this place
abbrev pub registered_in : Parts → ℕ → ℕ → Parts
registered_in s t place = record s {
  cycle = record s.cycle {
    registered = s.cycle.registered ++ map (registered (length s.objects.nodes) place) (type_at (setup_of s) t).prefinalizers;
    weakly = s.cycle.weakly ++ weakly_registered_all (length s.objects.nodes) place (type_at (setup_of s) t).weak_callbacks;
  };
}

-- the last registrations are left out
abbrev pub unregistered : LastRegistered → Parts → Parts
unregistered last s = record s {
  cycle = record s.cycle {
    registered = take (length s.cycle.registered - last.prefinalizers) s.cycle.registered;
    weakly = weakly_without last s.cycle.weakly;
  };
}

-- ---- what the engine needs besides a valid state

-- the parts belong together: slots, strong and weak, hold the places of what they name, and so do registrations; just the live nodes
-- that have weak callbacks are registered for these; the stack holds its words; the sweep and the marks are those of the phase, with
-- what may be kept and how many objects were traced; and no more nodes were made than commands were answered
pub record AreTied (s : Parts) : Type 0 where
  pub slots : s.handles.places ≡ places_of_slots s.objects.nodes s.handles.slots
  pub weak : s.handles.weak_places ≡ places_of_slots s.objects.nodes s.handles.weak
  pub stack : HoldsWords s.objects.nodes s.handles.stack
  pub registered : All (IsPlaced s.objects.nodes (length s.objects.callbacks)) s.cycle.registered
  pub weakly : AreOfHolders s.objects.types s.objects.nodes s.cycle.weakly
  pub sweep : IsSweepOf s.objects.shape s.cycle.phase s.cycle.rest.cursor s.cycle.sweep
  pub marks : HasMarks s.cycle.phase (cursor_at s.objects.shape s.cycle.sweep) s.cycle.rest.may s.objects
  pub traced : s.objects.grey.traced ≡ s.cycle.rest.traced
  pub made : length s.objects.nodes ≤ s.cycle.rest.ordinal

-- the parts are ready for a command: their state is valid, and they belong together
pub record IsReady (s : Parts) : Type 0 where
  pub valid : IsValid (setup_of s) (state_of s)
  pub called : HaveCallbacks (length s.objects.callbacks) s.objects.types
  pub tied : AreTied s

-- while marking goes on between two commands, as many markers run as the heap has
abbrev pub IsManned : Parts → Type 0
IsManned s = s.cycle.phase ≡ Marking → length s.objects.grey.running ≡ s.objects.grey.markers

-- what a command that answers this line leaves as it was, from the old parts to the new ones, which belong together
pub record IsFrame (old new : Parts) (line : Line) : Type 0 where
  pub setup : setup_of new ≡ setup_of old
  pub ordinal : new.cycle.rest.ordinal ≡ old.cycle.rest.ordinal + 1
  pub tied : AreTied new
  pub manned : IsManned old → IsManned new
  pub refused : IsWalkTold old.cycle.phase (refusals_told_of old.objects) (refusals_told_of new.objects) line
