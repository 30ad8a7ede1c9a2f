-- Entries of the region's history, and the commands of the region and of threads, keep a state sound.
use Rattle.std.proofs.Common.{◌≡◌, ℕ, ◌/◌, ◌%◌, ◌==◌, List, [], ◌∷◌, ◌++◌, length, get_or, set, All, Some, None, refl, sym, ap, ◌∙◌, subst, inl, inr}
use Rattle.std.specs.Prelude.{⊤}
use Rattle.std.proofs.lemmas.Bool.{cases_lt, cond_both}
use Rattle.std.proofs.lemmas.List.{get_or_past}
use Rattle.std.proofs.lemmas.List.Elements.{All-set, All-nil, All-cons, All-head, All-tail}
use Rattle.gc_graph.specs.declared.command.Order.{Order}
use Rattle.gc_graph.specs.declared.line.Line.{Line}
use Rattle.gc_graph.specs.declared.line.Refusal.TheVariants as R
use Rattle.gc_graph.specs.declared.region.Entry.{Entry}
use Rattle.gc_graph.specs.declared.region.Op.{Op}
use Rattle.gc_graph.specs.declared.region.Op.TheVariants as O
use Rattle.gc_graph.specs.State.{Setup, State, RegionSlot, IsLive}
use Rattle.gc_graph.specs.State.RegionSlot.{Vacant, StrongTo, WeakTo}
use Rattle.gc_graph.specs.May.{weakly_read}
use Rattle.gc_graph.specs.History.{region_slot, node_of, weakened, strengthened, weak_target, cleared_by, region_after, read_by}
use Rattle.gc_graph.specs.Outcomes.{answered, slot_at, with_slot, may_with_entry, with_entry, took, IsThreadOp, AreOthers, owner_entry}
use Rattle.gc_graph.specs.CycleSteps.{WantsMemory}
use Rattle.gc_graph.specs.RegionSteps.{IsExported, StepExport, IsImported, StepImport, StepAt, queued, StepThreadsGo, StepThreadsJoin, joined}
use Rattle.gc_graph.proofs.Sound.{SlotNames, RegionNames, IsRoot, IsSound}
use Rattle.gc_graph.proofs.WeakReads.{read_sound}
use Rattle.gc_graph.proofs.ValidCases.{option_is, landed, refused_sound}
use Rattle.gc_graph.proofs.ValidHandles.{Root, slot_sound, slot_is_root}

-- what a slot of the region may name
abbrev pub Shares : State → RegionSlot → Type 0
Shares s slot = RegionNames (Root s) (IsLive s.nodes) slot

pub region_sound : (setup : Setup) (s : State) (region : List RegionSlot) → IsSound setup s → All (Shares s) region → IsSound setup (record s { region = region })
region_sound setup s region g h = record {
  heap = g.heap;
  slots = g.slots;
  weak = g.weak;
  stack = g.stack;
  region = h;
  registered = g.registered;
  settled = g.settled;
  may = g.may;
}

pub shared_at : (s : State) (region : List RegionSlot) (x : ℕ) → All (Shares s) region → Shares s (region_slot region x)
shared_at s region x h =
    elim (cases_lt x (length region)) [
      | inl l ↦ h x Vacant l
      | inr past ↦ subst (Shares s) (sym (get_or_past region x Vacant past)) tt
    ]

weakened_shares : (s : State) (slot : RegionSlot) → Shares s slot → Shares s (weakened slot)
weakened_shares s Vacant h = tt
weakened_shares s (StrongTo n) h = h.live
weakened_shares s (WeakTo n) h = h

pub cleared_shares : (s : State) (region : List RegionSlot) (mask : ℕ) → All (Shares s) region → All (Shares s) (cleared_by mask region)
cleared_shares s [] mask h = All-nil (Shares s)
cleared_shares s (slot ∷ region) mask h =
    All-cons (Shares s) _ _
    (cond_both (mask % 2 == 1) Vacant slot (Shares s) (λ e. tt) (λ e. All-head (Shares s) slot region h))
    (cleared_shares s region (mask / 2) (All-tail (Shares s) slot region h))

-- the slots after an upgrade from this slot, with what its weak read leaves
upgraded : (setup : Setup) (s : State) (y : ℕ) (slot : RegionSlot) → IsSound setup s → Shares s slot
    → IsSound setup (record s { region = set s.region y (strengthened slot); may = may_with_entry s (weak_target slot) })
upgraded setup s y Vacant g h = region_sound setup s _ g (All-set (Shares s) s.region y Vacant tt g.region)
upgraded setup s y (StrongTo n) g h = region_sound setup s _ g (All-set (Shares s) s.region y (StrongTo n) h g.region)
upgraded setup s y (WeakTo n) g h =
    let r = read_sound setup s n g h in
    region_sound setup (weakly_read s n) _ r.0 (All-set (Shares (weakly_read s n)) s.region y (StrongTo n) r.1 r.0.region)

imported : (setup : Setup) (s : State) (slot : RegionSlot) → IsSound setup s → Shares s slot
    → IsSound setup (record s { may = may_with_entry s (weak_target slot) })
    × SlotNames (IsRoot s.nodes s.phase (may_with_entry s (weak_target slot))) (node_of slot)
imported setup s Vacant g h = (g, tt)
imported setup s (StrongTo n) g h = (g, h)
imported setup s (WeakTo n) g h = read_sound setup s n g h

-- an export is of a root
abbrev pub MayEnter : State → Op → Type 0
MayEnter s (O.Export x n) = Root s n
MayEnter s (O.Import x) = ⊤
MayEnter s O.Start = ⊤
MayEnter s (O.Pause cleared) = ⊤
MayEnter s (O.Copy x y) = ⊤
MayEnter s (O.Clear x) = ⊤
MayEnter s (O.Weaken x) = ⊤
MayEnter s (O.Upgrade x y) = ⊤

abbrev AfterOp : State → Op → State
AfterOp s op = record s { region = region_after s.region op; may = may_with_entry s (read_by s.region op) }

op_sound : (setup : Setup) (s : State) (op : Op) → IsSound setup s → MayEnter s op → IsSound setup (AfterOp s op)
op_sound setup s (O.Export x n) g h = region_sound setup s _ g (All-set (Shares s) s.region x (StrongTo n) h g.region)
op_sound setup s (O.Import x) g h = (imported setup s (region_slot s.region x) g (shared_at s s.region x g.region)).0
op_sound setup s O.Start g h = g
op_sound setup s (O.Pause cleared) g h = region_sound setup s _ g (cleared_shares s s.region cleared g.region)
op_sound setup s (O.Copy x y) g h = region_sound setup s _ g (All-set (Shares s) s.region y (region_slot s.region x) (shared_at s s.region x g.region) g.region)
op_sound setup s (O.Clear x) g h = region_sound setup s _ g (All-set (Shares s) s.region x Vacant tt g.region)
op_sound setup s (O.Weaken x) g h =
    region_sound setup s _ g
    (All-set (Shares s) s.region x (weakened (region_slot s.region x)) (weakened_shares s (region_slot s.region x) (shared_at s s.region x g.region)) g.region)
op_sound setup s (O.Upgrade x y) g h = upgraded setup s y (region_slot s.region x) g (shared_at s s.region x g.region)

pub entry_sound : (setup : Setup) (s : State) (entry : Entry) → IsSound setup s → MayEnter s entry.op → IsSound setup (with_entry s entry)
entry_sound setup s entry g h = op_sound setup s entry.op g h

pub thread_may : (s : State) (op : Op) → IsThreadOp op → MayEnter s op
thread_may s (O.Export x n) h = absurd h
thread_may s (O.Import x) h = tt
thread_may s O.Start h = tt
thread_may s (O.Pause cleared) h = tt
thread_may s (O.Copy x y) h = tt
thread_may s (O.Clear x) h = tt
thread_may s (O.Weaken x) h = tt
thread_may s (O.Upgrade x y) h = tt

-- ---- what others took

pub thread_entries : (setup : Setup) (s : State) (entries : List Entry) → All (λ (entry : Entry). IsThreadOp entry.op) entries → IsSound setup s → IsSound setup (took s entries)
thread_entries setup s [] h g = g
thread_entries setup s (entry ∷ entries) h g =
    thread_entries setup (with_entry s entry) entries (All-tail (λ (e : Entry). IsThreadOp e.op) entry entries h)
    (entry_sound setup s entry g (thread_may s entry.op (All-head (λ (e : Entry). IsThreadOp e.op) entry entries h)))

pub others_sound : (setup : Setup) (s : State) (entries : List Entry) → AreOthers s entries → IsSound setup s → IsSound setup (took s entries)
others_sound setup s entries h g = thread_entries setup s entries (λ k d l. (h k d l).1) g

pub took_append : (s : State) (xs ys : List Entry) → took s (xs ++ ys) ≡ took (took s xs) ys
took_append s [] ys = refl
took_append s (x ∷ xs) ys = took_append (with_entry s x) xs ys

pub took_nodes : (s : State) (xs : List Entry) → (took s xs).nodes ≡ s.nodes
took_nodes s [] = refl
took_nodes s (x ∷ xs) = took_nodes (with_entry s x) xs

pub took_slots : (s : State) (xs : List Entry) → (took s xs).slots ≡ s.slots
took_slots s [] = refl
took_slots s (x ∷ xs) = took_slots (with_entry s x) xs

pub took_phase : (s : State) (xs : List Entry) → (took s xs).phase ≡ s.phase
took_phase s [] = refl
took_phase s (x ∷ xs) = took_phase (with_entry s x) xs

-- the state after a piece that ends with the owner's entry
pub took_own : (s : State) (before piece : List Entry) (op : Op) → piece ≡ before ++ owner_entry (took s before) op ∷ []
    → took s piece ≡ with_entry (took s before) (owner_entry (took s before) op)
took_own s before piece op e = ap (took s) e ∙ took_append s before (owner_entry (took s before) op ∷ [])

-- ---- the commands

memory_keeps : (setup : Setup) (old new : State) (piece : List Entry) (lines : List Line) → IsSound setup old → WantsMemory old piece lines new → IsSound setup new
memory_keeps setup old new piece lines g h = landed setup new (answered old) h.1.1 g

exported_keeps : (setup : Setup) (old new : State) (n p x : ℕ) (piece : List Entry) (lines : List Line) → IsSound setup old → slot_at old p ≡ Some n
    → IsExported old n x piece lines new → IsSound setup new
exported_keeps setup old new n p x piece lines g slot h =
    let mid : State = took old h.before in
    let sound : IsSound setup mid = others_sound setup old h.before h.takes.others g in
    let root : Root mid n = slot_is_root setup mid p n sound (ap (λ slots. get_or slots p None) (took_slots old h.before) ∙ slot) in
    landed setup new _ (h.after ∙ ap answered (took_own old h.before piece (O.Export x n) h.takes.piece_is))
    (entry_sound setup mid (owner_entry mid (O.Export x n)) sound root)

pub export_keeps : (setup : Setup) (old new : State) (p x : ℕ) (piece : List Entry) (lines : List Line) → IsSound setup old → StepExport old p x piece lines new → IsSound setup new
export_keeps setup old new p x piece lines g h =
    option_is (slot_at old p) _ _ (IsSound setup new) (λ r. refused_sound setup old new lines R.Null g r.1)
    (λ n slot d. elim d [ inl memory ↦ memory_keeps setup old new piece lines g memory | inr done ↦ exported_keeps setup old new n p x piece lines g slot done ]) h

imported_keeps : (setup : Setup) (old new : State) (x p : ℕ) (piece : List Entry) (lines : List Line) → IsSound setup old
    → IsImported old x p piece lines new → IsSound setup new
imported_keeps setup old new x p piece lines g h =
    let mid : State = took old h.before in
    let sound : IsSound setup mid = others_sound setup old h.before h.takes.others g in
    let slot : RegionSlot = region_slot mid.region x in
    let both = imported setup mid slot sound (shared_at mid mid.region x sound.region) in
    landed setup new _
    (h.after ∙ ap (λ (s : State). answered (with_slot s p (node_of slot))) (took_own old h.before piece (O.Import x) h.takes.piece_is))
    (slot_sound setup (with_entry mid (owner_entry mid (O.Import x))) p (node_of slot) both.0 both.1)

pub import_keeps : (setup : Setup) (old new : State) (x p : ℕ) (piece : List Entry) (lines : List Line) → IsSound setup old → StepImport old x p piece lines new → IsSound setup new
import_keeps setup old new x p piece lines g h =
    elim h [ inl memory ↦ memory_keeps setup old new piece lines g memory | inr done ↦ imported_keeps setup old new x p piece lines g done ]

pub at_keeps : (setup : Setup) (old new : State) (j : ℕ) (order : Order) (lines : List Line) → IsSound setup old → StepAt old j order lines new → IsSound setup new
at_keeps setup old new j order lines g h =
    elim h [ inl memory ↦ landed setup new (answered old) memory.1 g | inr done ↦ landed setup new (answered (queued old j order)) done.1 g ]

pub go_keeps : (setup : Setup) (old new : State) (lines : List Line) → IsSound setup old → StepThreadsGo old lines new → IsSound setup new
go_keeps setup old new lines g h = elim h [ inl memory ↦ landed setup new _ memory.1 g | inr done ↦ landed setup new _ done.1 g ]

pub join_keeps : (setup : Setup) (old new : State) (piece : List Entry) (lines : List Line) → IsSound setup old → StepThreadsJoin old piece lines new → IsSound setup new
join_keeps setup old new piece lines g h =
    landed setup new (answered (joined (took old piece))) h.after (others_sound setup old piece h.others g)
