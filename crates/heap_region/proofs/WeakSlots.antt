-- What an entry reads from a weak slot.
use Rattle.std.proofs.Common.{◌≡◌, ℕ, List, get_or, Some, None, refl, ap}
use Rattle.gc_graph.specs.declared.region.Op.{Op}
use Rattle.gc_graph.specs.declared.region.Op.TheVariants as O
use Rattle.gc_graph.specs.History.{node_of, read_by, region_slot, weak_target, is_weak_slot}
use Rattle.gc_graph.specs.State.{RegionSlot}
use Rattle.gc_graph.specs.State.RegionSlot.{Vacant, StrongTo, WeakTo}
use Rattle.cross_thread_region.specs.Histories.{place_if}
use Rattle.cross_thread_region.specs.WeakReads.{read_from}

-- an operation reads a node by a weak slot, which has this place
pub record ReadsAt (region : List RegionSlot) (places : List ℕ) (op : Op) (place : ℕ) : Type 0 where
  pub slot : ℕ
  pub node : ℕ
  pub read : read_by region op ≡ Some node
  pub named : node_of (region_slot region slot) ≡ Some node
  pub placed : get_or places slot 0 ≡ place

slot_read : (region : List RegionSlot) (places : List ℕ) (x : ℕ) (slot : RegionSlot) (op : Op) (place : ℕ) → region_slot region x ≡ slot
    → read_by region op ≡ weak_target slot → place_if (is_weak_slot slot) (get_or places x 0) ≡ Some place → ReadsAt region places op place
slot_read region places x Vacant op place is read told = absurd (cc)
slot_read region places x (StrongTo n) op place is read told = absurd (cc)
slot_read region places x (WeakTo n) op place is read told = record { slot = x; node = n; read = read; named = ap node_of is; placed = cc }

pub reads_at : (region : List RegionSlot) (places : List ℕ) (op : Op) (place : ℕ) → read_from region places op ≡ Some place → ReadsAt region places op place
reads_at region places (O.Import x) place told = slot_read region places x (region_slot region x) (O.Import x) place refl refl told
reads_at region places (O.Upgrade x y) place told = slot_read region places x (region_slot region x) (O.Upgrade x y) place refl refl told
reads_at region places (O.Export x n) place told = absurd (cc)
reads_at region places O.Start place told = absurd (cc)
reads_at region places (O.Pause cleared) place told = absurd (cc)
reads_at region places (O.Copy x y) place told = absurd (cc)
reads_at region places (O.Clear x) place told = absurd (cc)
reads_at region places (O.Weaken x) place told = absurd (cc)

no_read : (slot : RegionSlot) (place : ℕ) → place_if (is_weak_slot slot) place ≡ None → weak_target slot ≡ None
no_read Vacant place told = refl
no_read (StrongTo n) place told = refl
no_read (WeakTo n) place told = absurd (cc)

pub reads_none : (region : List RegionSlot) (places : List ℕ) (op : Op) → read_from region places op ≡ None → read_by region op ≡ None
reads_none region places (O.Import x) told = no_read (region_slot region x) (get_or places x 0) told
reads_none region places (O.Upgrade x y) told = no_read (region_slot region x) (get_or places x 0) told
reads_none region places (O.Export x n) told = refl
reads_none region places O.Start told = refl
reads_none region places (O.Pause cleared) told = refl
reads_none region places (O.Copy x y) told = refl
reads_none region places (O.Clear x) told = refl
reads_none region places (O.Weaken x) told = refl
