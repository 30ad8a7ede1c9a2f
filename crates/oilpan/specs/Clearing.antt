-- How slots of the region that were given back become null.
use Rattle.std.specs.Prelude.{◌≡◌, ◌≢◌, ◌⊎◌, ℕ, ◌==◌, List, [], length, Option, Some, None, All, Contains, if◌then◌else◌, slice_index_or}
use Rattle.gc_graph.specs.declared.line.Line.{Line}
use Rattle.gc_graph.specs.declared.line.Line.TheVariants as L
use Rattle.gc_graph.specs.declared.region.Op.{Op}
use Rattle.gc_graph.specs.declared.region.Op.TheVariants as O
use Rattle.gc_graph.specs.State.{State}
use Rattle.gc_graph.specs.State.RegionSlot.{Vacant}
use Rattle.gc_graph.specs.History.{region_slot}
use Rattle.gc_graph.specs.RegionSteps.{queue_of}
use Rattle.oilpan.specs.Rest.{ClearsReleased}
use Rattle.oilpan.specs.declared.sharing.Sharing.{Sharing}
use Rattle.oilpan.specs.declared.sharing.Sharing.TheVariants.{Free, Released}

-- some slot was given back, and not yet cleared
abbrev pub HasReleased : List Sharing → Type 0
HasReleased shared = Contains shared Released

-- the slots that were given back are null
abbrev pub AreNull : List Sharing → State → Type 0
AreNull shared s = (z : ℕ) → slice_index_or shared z Free ≡ Released → region_slot s.region z ≡ Vacant

-- but for the orders that wait and the count of commands the state is as it was, and the orders clear slots that were given back
pub record AreQueued (old new : State) (shared : List Sharing) : Type 0 where
  pub same : new ≡ record old { queues = new.queues; ordinal = new.ordinal }
  pub queues : length new.queues ≡ 8
  pub orders : (j : ℕ) → All (ClearsReleased shared) (queue_of new j)

-- the slot that is cleared
abbrev pub slot_cleared : Op → Option ℕ
slot_cleared (O.Clear x) = Some x
slot_cleared op = None

-- the slot that thread 1 is told to have cleared
abbrev pub told_cleared : Line → Option ℕ
told_cleared (L.Entry entry) = if entry.thread == 1 then slot_cleared entry.op else None
told_cleared other = None

-- the slot had been given back, is null now, and no order waits
pub record IsCleared (shared : List Sharing) (new : State) (x : ℕ) : Type 0 where
  pub released : slice_index_or shared x Free ≡ Released
  pub null : region_slot new.region x ≡ Vacant
  pub done : (j : ℕ) → queue_of new j ≡ []

-- a thread did orders that waited, of which these lines tell: no slot but those that were given back has changed, and each that is
-- told as cleared is; all else but what may be kept is as it was, and orders that are left clear slots that were given back
pub record HaveRun (old : State) (shared : List Sharing) (lines : List Line) (new : State) : Type 0 where
  pub same : new ≡ record old { region = new.region; may = new.may; queues = new.queues; unprinted = []; ordinal = new.ordinal }
  pub slots : length new.region ≡ length old.region
  pub others : (z : ℕ) → slice_index_or shared z Free ≢ Released → region_slot new.region z ≡ region_slot old.region z
  pub queues : length new.queues ≡ 8
  pub orders : (j : ℕ) → All (ClearsReleased shared) (queue_of new j)
  pub cleared : (x : ℕ) (line : Line) → Contains lines line → told_cleared line ≡ Some x → IsCleared shared new x

-- the slots that lines tell as cleared are free, and the others are as they were
abbrev pub AreFreed : List Line → List Sharing → List Sharing → Type 0
AreFreed lines old new =
    (z : ℕ) → (slice_index_or new z Free ≡ slice_index_or old z Free)
    ⊎ ((slice_index_or new z Free ≡ Free) × ((line : Line) × Contains lines line × (told_cleared line ≡ Some z)))
