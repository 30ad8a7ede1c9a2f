-- The laws of the region's slots: what each call makes of them, and which of them a pause clears.
use Rattle.std.specs.Prelude.{◌≡◌, ℕ, ◌<◌, List, length, Option, None}
use Rattle.std.specs.Int.{bit_at}
use Rattle.gc_graph.specs.declared.region.Op.{Op}
use Rattle.gc_graph.specs.declared.region.Op.TheVariants as O
use Rattle.gc_graph.specs.State.{Setup, State, Node, RegionSlot, IsDead}
use Rattle.gc_graph.specs.State.RegionSlot.{Vacant, StrongTo, WeakTo}
use Rattle.gc_graph.specs.History.{region_slot, region_after, node_of, weak_target, NamesWeakSlots}
use Rattle.gc_graph.specs.Paused.{paused}

-- ---- what a call makes of the slots

-- the slot names just this, and weakly
abbrev pub NamesWeakly : RegionSlot → Option ℕ → Type 0
NamesWeakly slot named = (node_of slot ≡ named) × (weak_target slot ≡ named)

-- the slot names just this, and strongly
abbrev pub NamesStrongly : RegionSlot → Option ℕ → Type 0
NamesStrongly slot named = (node_of slot ≡ named) × (weak_target slot ≡ None)

-- a call may change one slot at most, and a pause those that its number stands for
abbrev pub MayChange : Op → ℕ → Type 0
MayChange (O.Export x n) z = z ≡ x
MayChange (O.Import x) z = ⊥
MayChange O.Start z = ⊥
MayChange (O.Pause mask) z = bit_at mask z ≡ 1
MayChange (O.Copy x y) z = z ≡ y
MayChange (O.Clear x) z = z ≡ x
MayChange (O.Weaken x) z = z ≡ x
MayChange (O.Upgrade x y) z = z ≡ y

-- an export makes its slot strong for the node, a copy holds what the other slot held, a cleared slot is null, and one that
-- is weakened or upgraded names the same node, weakly or strongly; an import and a start change nothing; a pause clears the
-- slots that its number stands for, which are never strong where the history is legal; every other slot stays
pub record ChangesItsSlot (region : List RegionSlot) : Type 0 where
  pub whole : (op : Op) → length (region_after region op) ≡ length region
  pub others : (op : Op) (x : ℕ) → (MayChange op x → ⊥) → region_slot (region_after region op) x ≡ region_slot region x
  pub exported : (x n : ℕ) → x < length region → region_slot (region_after region (O.Export x n)) x ≡ StrongTo n
  pub imported : (x : ℕ) → region_after region (O.Import x) ≡ region
  pub started : region_after region O.Start ≡ region
  pub copied : (x y : ℕ) → y < length region → region_slot (region_after region (O.Copy x y)) y ≡ region_slot region x
  pub cleared : (x : ℕ) → region_slot (region_after region (O.Clear x)) x ≡ Vacant
  pub weakened : (x : ℕ) → NamesWeakly (region_slot (region_after region (O.Weaken x)) x) (node_of (region_slot region x))
  pub upgraded :
      (x y : ℕ) → y < length region → NamesStrongly (region_slot (region_after region (O.Upgrade x y)) y) (node_of (region_slot region x))
  pub paused : (mask x : ℕ) → bit_at mask x ≡ 1 → region_slot (region_after region (O.Pause mask)) x ≡ Vacant
  pub strong :
      (mask x n : ℕ) → NamesWeakSlots mask region → region_slot region x ≡ StrongTo n
      → region_slot (region_after region (O.Pause mask)) x ≡ StrongTo n

-- so it is whatever the slots hold
abbrev pub CallsChangeTheirSlot : Type 0
CallsChangeTheirSlot = (region : List RegionSlot) → ChangesItsSlot region

-- ---- which slots a pause clears

-- a slot is null after the pause where it named a dead node weakly, and else holds what it held
pub record ClearsDeadSlots (setup : Setup) (s : State) (judged_nodes : List Node) : Type 0 where
  pub cleared :
      (x n : ℕ) → region_slot s.region x ≡ WeakTo n → IsDead judged_nodes n
      → region_slot (paused setup s judged_nodes).region x ≡ Vacant
  pub spared :
      (x : ℕ) → ((n : ℕ) → region_slot s.region x ≡ WeakTo n → IsDead judged_nodes n → ⊥)
      → region_slot (paused setup s judged_nodes).region x ≡ region_slot s.region x

-- so it is in each state, whatever nodes were judged dead
abbrev pub PausesClearDeadSlots : Type 0
PausesClearDeadSlots = (setup : Setup) (s : State) (judged_nodes : List Node) → ClearsDeadSlots setup s judged_nodes
