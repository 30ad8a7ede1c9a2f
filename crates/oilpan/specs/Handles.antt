-- What programs see of a heap's handles.
use Rattle.std.specs.Prelude.{◌≡◌, ℕ, ◌+◌, ◌-◌, ◌^◌, ◌≤◌, Bool, true, List, Some, slice_index_or}
use Rattle.gc_graph.specs.State.{State}
use Rattle.gc_graph.specs.State.RegionSlot.{StrongTo}
use Rattle.gc_graph.specs.Outcomes.{answered, slot_at}
use Rattle.gc_graph.specs.History.{region_slot}
use Rattle.gc_graph.specs.HandleLaw.{TellsLife}
use Rattle.oilpan.specs.declared.errors.ShareError.{ShareError}
use Rattle.oilpan.specs.declared.errors.ShareError.TheVariants as E
use Rattle.oilpan.specs.declared.handles.Root.{Root}
use Rattle.oilpan.specs.declared.handles.SharedRoot.{SharedRoot}
use Rattle.oilpan.specs.declared.handles.WeakRoot.{WeakRoot}
use Rattle.oilpan.specs.declared.sharing.Sharing.{Sharing}
use Rattle.oilpan.specs.declared.sharing.Sharing.TheVariants.{Free, Given}

-- the heap can do so many commands more
abbrev pub HasRoom : State → ℕ → Type 0
HasRoom s count = s.ordinal + count ≤ 2 ^ 64 - 1

-- the root's slot names its node
abbrev pub Holds : State → Root → Type 0
Holds s r = slot_at s r.slot ≡ Some r.node

-- the weak root's slot is given out, and names its node as long as that lives, and then nothing
pub record Watches (s : State) (watched : List Bool) (w : WeakRoot) : Type 0 where
  pub given : slice_index_or watched w.slot true ≡ true
  pub tells : TellsLife s w.slot w.node

-- the shared root's slot is given out, and names its node strongly
pub record Shares (s : State) (shared : List Sharing) (r : SharedRoot) : Type 0 where
  pub given : slice_index_or shared r.slot Free ≡ Given
  pub names : region_slot s.region r.slot ≡ StrongTo r.node

-- nothing was shared, and no root taken: memory was wanting, or no handle is left
abbrev pub IsShareFault : State → State → ShareError → Type 0
IsShareFault old new E.Memory = new ≡ answered old
IsShareFault old new E.Handles = new ≡ old
