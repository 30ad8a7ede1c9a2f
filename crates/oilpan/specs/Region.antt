-- What a command leaves of the region, where no thread runs.
use Rattle.std.specs.Prelude.{◌≡◌, ℕ, length, All}
use Rattle.gc_graph.specs.declared.command.Command.{Command}
use Rattle.gc_graph.specs.declared.command.Command.TheVariants as C
use Rattle.gc_graph.specs.State.{State}
use Rattle.gc_graph.specs.State.RegionSlot.{Vacant, StrongTo}
use Rattle.gc_graph.specs.History.{region_slot}
use Rattle.oilpan.specs.Rest.{IsOwners}

-- the slot of the region that the command makes strong
abbrev pub WritesRegion : Command → ℕ → Type 0
WritesRegion (C.Export p x) z = z ≡ x
WritesRegion command z = ⊥

-- no other slot that is null, or strong, changes, and neither do orders; what it made of the history is the owner's
pub record KeepsRegion (old : State) (command : Command) (new : State) : Type 0 where
  pub count : length new.region ≡ length old.region
  pub strong : (z n : ℕ) → (WritesRegion command z → ⊥) → region_slot old.region z ≡ StrongTo n → region_slot new.region z ≡ StrongTo n
  pub vacant : (z : ℕ) → (WritesRegion command z → ⊥) → region_slot old.region z ≡ Vacant → region_slot new.region z ≡ Vacant
  pub queues : new.queues ≡ old.queues
  pub awaiting : new.awaiting ≡ old.awaiting
  pub told : All IsOwners old.unprinted → All IsOwners new.unprinted
