-- The registrations of prefinalizers with the places of their nodes.
use Rattle.std.specs.Prelude.{ℕ, ◌<◌, List, map, filter, not}
use Rattle.gc_graph.specs.State.{Node, Registration}
use Rattle.gc_graph.specs.Pause.{dies, run_order}
use Rattle.callback_table.specs.Bodies.{StandsAt}
use Rattle.callback_table.specs.declared.registry.Registered.{Registered}

-- the registrations in the order in which they were made, and the node and the callback of each that was run last
pub record RegistryView : Type 0 where
  pub entries : List Registered
  pub ran : List (ℕ × ℕ)

-- the registration without the place
abbrev pub registration_of : Registered → Registration
registration_of entry = record { node = entry.node; callback = entry.callback }

-- all of them, in their order
abbrev pub registrations_of : List Registered → List Registration
registrations_of entries = map registration_of entries

-- a callback registered for a node at a place
abbrev pub registered : ℕ → ℕ → ℕ → Registered
registered node place callback = record { node = node; place = place; callback = callback }

-- the same registration at another place
abbrev pub placed_at : ℕ → Registered → Registered
placed_at place entry = record entry { place = place }

-- the node and the callback of a registration
abbrev pub pair_of : Registration → ℕ × ℕ
pair_of registration = (registration.node, registration.callback)

-- the nodes and the callbacks of the registrations of dead nodes, the last that was registered first
abbrev pub pairs_run : List Node → List Registered → List (ℕ × ℕ)
pairs_run nodes entries = map pair_of (run_order nodes (registrations_of entries))

-- the registrations of nodes that aren't dead, in their order
abbrev pub entries_left : List Node → List Registered → List Registered
entries_left nodes entries = filter (λ entry. not (dies nodes (registration_of entry))) entries

-- the node stands at the place, and there is a callback of this number
pub record IsRegistered (nodes : List Node) (callbacks : ℕ) (entry : Registered) : Type 0 where
  pub stands : StandsAt nodes entry.place entry.node
  pub known : entry.callback < callbacks
