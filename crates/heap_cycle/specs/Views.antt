-- The parts of a heap as commands see them, one by one.
use Rattle.std.specs.Prelude.{◌≡◌, ℕ, ◌<◌, List}
use Rattle.gc_graph.specs.declared.phase.Phase.{Phase}
use Rattle.gc_graph.specs.State.{Shape, State, Node}
use Rattle.gc_graph.specs.Sweep.{pages_swept_in}
use Rattle.callback_table.specs.declared.registry.Registered.{Registered}
use Rattle.callback_table.specs.declared.registrations.Registrations.{Registrations}
use Rattle.callback_table.specs.WeakRegistry.{WeakRegistration}
use Rattle.cross_thread_region.specs.declared.chronicle.PlacedEntry.{PlacedEntry}
use Rattle.heap_roots.specs.Sweeping.{SweepView}
use Rattle.heap_roots.specs.Nodes.{place_of}

-- the callbacks that the last pause ran: the weak ones, and then the prefinalizers, each the number of its object and its own
pub record Ran : Type 0 where
  pub weak : List (ℕ × ℕ)
  pub prefinalised : List (ℕ × ℕ)

-- those of registrations
abbrev pub ran_of : Registrations → Ran
ran_of r = record { weak = r.weak_callbacks.ran; prefinalised = r.prefinalizers.ran }

-- the collection cycle: its phase, how far its sweep has come, the prefinalizers and the weak callbacks that are registered, with the
-- places of their objects, the callbacks that the last pause ran, and what no other part holds of the state
pub record CycleView : Type 0 where
  pub phase : Phase
  pub sweep : SweepView
  pub registered : List Registered
  pub weakly : List WeakRegistration
  pub ran : Ran
  pub rest : State

-- a moment: the state then, and what was taken of the region's history
pub record Moment : Type 0 where
  pub state : State
  pub taken : List PlacedEntry

-- ---- what is true of a part

-- the sweep stands at the state's cursor where one is open, and else past all pages
pub record IsSweepOf (shape : Shape) (phase : Phase) (cursor : ℕ) (sweep : SweepView) : Type 0 where
  pub pages : sweep.pages ≡ shape.pages
  pub cursor_is : sweep.cursor ≡ pages_swept_in phase shape.pages cursor

-- the callback is registered with the place of its node, and there are so many callbacks that it is one
pub record IsPlaced (nodes : List Node) (callbacks : ℕ) (entry : Registered) : Type 0 where
  pub place : place_of nodes entry.node ≡ entry.place
  pub known : entry.callback < callbacks
