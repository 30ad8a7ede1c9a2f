-- The region's history: what each entry does to its slots, and which replies it may have
-- (`include/cppgc/cross-thread-persistent.h`).
use Rattle.std.specs.Prelude.{◌≡◌, ℕ, ◌/◌, ◌%◌, ◌==◌, Bool, true, false, List, [], ◌∷◌, Option, Some, None, replicate, slice_set, slice_index_or, if◌then◌else◌, ⊤}
use Rattle.gc_graph.specs.declared.region.Entry.{Entry}
use Rattle.gc_graph.specs.declared.region.Op.{Op}
use Rattle.gc_graph.specs.declared.region.Op.TheVariants as O
use Rattle.gc_graph.specs.declared.region.Reply.{Reply}
use Rattle.gc_graph.specs.declared.region.Reply.TheVariants as R
use Rattle.gc_graph.specs.State.{RegionSlot}
use Rattle.gc_graph.specs.State.RegionSlot.{Vacant, StrongTo, WeakTo}

-- what slot x holds, null past the last
abbrev pub region_slot : List RegionSlot → ℕ → RegionSlot
region_slot region x = slice_index_or region x Vacant

-- the node that a slot names, strongly or weakly
abbrev pub node_of : RegionSlot → Option ℕ
node_of Vacant = None
node_of (StrongTo n) = Some n
node_of (WeakTo n) = Some n

-- a slot that names a node names it weakly
abbrev pub weakened : RegionSlot → RegionSlot
weakened Vacant = Vacant
weakened (StrongTo n) = WeakTo n
weakened (WeakTo n) = WeakTo n

-- a slot that names a node names it strongly
abbrev pub strengthened : RegionSlot → RegionSlot
strengthened Vacant = Vacant
strengthened (StrongTo n) = StrongTo n
strengthened (WeakTo n) = StrongTo n

-- a number stands for the slots whose bits are set in it: slot x for 2^x
abbrev pub cleared_by : ℕ → List RegionSlot → List RegionSlot
cleared_by mask [] = []
cleared_by mask (slot ∷ region) = (if mask % 2 == 1 then Vacant else slot) ∷ cleared_by (mask / 2) region

-- the slots after an entry
abbrev pub region_after : List RegionSlot → Op → List RegionSlot
region_after region (O.Export x n) = slice_set region x (StrongTo n)
region_after region (O.Import x) = region
region_after region O.Start = region
region_after region (O.Pause cleared) = cleared_by cleared region
region_after region (O.Copy x y) = slice_set region y (region_slot region x)
region_after region (O.Clear x) = slice_set region x Vacant
region_after region (O.Weaken x) = slice_set region x (weakened (region_slot region x))
region_after region (O.Upgrade x y) = slice_set region y (strengthened (region_slot region x))

-- the slots after a history that began with these
abbrev pub replayed : List RegionSlot → List Entry → List RegionSlot
replayed region [] = region
replayed region (entry ∷ history) = replayed (region_after region entry.op) history

-- the slots after a whole history, which begins with all null
abbrev pub replay : List Entry → List RegionSlot
replay history = replayed (replicate 32 Vacant) history

-- the node that a weak slot names
abbrev pub weak_target : RegionSlot → Option ℕ
weak_target Vacant = None
weak_target (StrongTo n) = None
weak_target (WeakTo n) = Some n

-- the node that an entry reads from a weak slot, before it changes the slots
abbrev pub read_by : List RegionSlot → Op → Option ℕ
read_by region (O.Import x) = weak_target (region_slot region x)
read_by region (O.Upgrade x y) = weak_target (region_slot region x)
read_by region op = None

-- ---- which histories are legal

-- a read answers the node, or null
abbrev pub reply_with : Option ℕ → Reply
reply_with None = R.Null
reply_with (Some n) = R.Node n

-- the reply that a region of one thread gives
abbrev pub reply_of : List RegionSlot → Op → Reply
reply_of region (O.Import x) = reply_with (node_of (region_slot region x))
reply_of region (O.Upgrade x y) = reply_with (node_of (region_slot region x))
reply_of region op = R.Done

-- whether a slot is weak and not null
abbrev pub is_weak_slot : RegionSlot → Bool
is_weak_slot Vacant = false
is_weak_slot (StrongTo n) = false
is_weak_slot (WeakTo n) = true

-- each slot that the number stands for is weak and not null
abbrev pub NamesWeakSlots : ℕ → List RegionSlot → Type 0
NamesWeakSlots mask [] = mask ≡ 0
NamesWeakSlots mask (slot ∷ region) = (mask % 2 ≡ 1 → is_weak_slot slot ≡ true) × NamesWeakSlots (mask / 2) region

-- a pause clears weak slots, and only in a collection that was started
abbrev pub MayPause : List RegionSlot → Bool → Op → Type 0
MayPause region started (O.Pause cleared) = (started ≡ true) × NamesWeakSlots cleared region
MayPause region started op = ⊤

-- whether a start has no pause after it
abbrev pub started_after : Bool → Op → Bool
started_after started O.Start = true
started_after started (O.Pause cleared) = false
started_after started op = started

-- whether a start has no pause after it, once these entries have followed
abbrev pub started_through : Bool → List Entry → Bool
started_through started [] = started
started_through started (entry ∷ history) = started_through (started_after started entry.op) history

-- the entries may follow where the slots are these: each reply is the one that a region of one thread gives
abbrev pub IsLegalFrom : List RegionSlot → Bool → List Entry → Type 0
IsLegalFrom region started [] = ⊤
IsLegalFrom region started (entry ∷ history) =
    (entry.reply ≡ reply_of region entry.op) × MayPause region started entry.op
    × IsLegalFrom (region_after region entry.op) (started_after started entry.op) history

-- a legal history begins with all slots null
abbrev pub IsLegal : List Entry → Type 0
IsLegal history = IsLegalFrom (replicate 32 Vacant) false history
