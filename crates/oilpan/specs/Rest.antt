-- A heap between two calls of its program.
use Rattle.std.specs.Prelude.{◌≡◌, ℕ, ◌<◌, Bool, true, false, List, [], length, None, All, slice_index_or}
use Rattle.gc_graph.specs.declared.command.Order.{Order}
use Rattle.gc_graph.specs.declared.command.Order.TheVariants as Q
use Rattle.gc_graph.specs.declared.region.Entry.{Entry}
use Rattle.gc_graph.specs.State.{Setup, State}
use Rattle.gc_graph.specs.State.RegionSlot.{Vacant}
use Rattle.gc_graph.specs.Outcomes.{slot_at}
use Rattle.gc_graph.specs.History.{region_slot}
use Rattle.gc_graph.specs.RegionSteps.{queue_of}
use Rattle.oilpan.specs.declared.sharing.Sharing.{Sharing}
use Rattle.oilpan.specs.declared.sharing.Sharing.TheVariants.{Free, Given, Released}

-- the stack is empty, no thread runs, all slots are there, and a strong slot that isn't given out is null
pub record IsAtRest (setup : Setup) (s : State) (taken : List Bool) : Type 0 where
  pub pages : 0 < setup.shape.pages
  pub slots : length s.slots ≡ 256
  pub weak : length s.weak ≡ 64
  pub stack : s.stack ≡ []
  pub running : s.running ≡ []
  pub free : (z : ℕ) → slice_index_or taken z true ≡ false → slot_at s z ≡ None

-- the entry is the owner's
abbrev pub IsOwners : Entry → Type 0
IsOwners entry = entry.thread ≡ 0

-- the slot was given back, and no thread has cleared it yet
abbrev pub is_released : Sharing → Bool
is_released Free = false
is_released Given = false
is_released Released = true

-- the order clears a slot that was given back
abbrev pub clears_released : List Sharing → Order → Bool
clears_released shared (Q.Clear x) = is_released (slice_index_or shared x Free)
clears_released shared order = false

-- so it does
abbrev pub ClearsReleased : List Sharing → Order → Type 0
ClearsReleased shared order = clears_released shared order ≡ true

-- all slots of the region are there, one that isn't given out is null, orders that wait clear slots that were given back, no join
-- is awaited, and no entry of a thread is yet to be told
pub record IsRegionAtRest (s : State) (shared : List Sharing) : Type 0 where
  pub slots : length s.region ≡ 32
  pub queues : length s.queues ≡ 8
  pub free : (z : ℕ) → slice_index_or shared z Free ≡ Free → region_slot s.region z ≡ Vacant
  pub orders : (j : ℕ) → All (ClearsReleased shared) (queue_of s j)
  pub awaiting : s.awaiting ≡ false
  pub told : All IsOwners s.unprinted
