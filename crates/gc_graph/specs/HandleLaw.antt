-- The laws of handles: what slots name is live, a weak slot tells whether its node lives, and what the last line of a command means.
use Rattle.std.specs.Prelude.{◌≡◌, ◌≢◌, ℕ, ◌+◌, ◌-◌, ◌<◌, min, Bool, true, List, length, Option, Some, None, if◌then◌else◌, slice_get, slice_set, ⊤}
use Rattle.gc_graph.specs.declared.command.Command.{Command}
use Rattle.gc_graph.specs.declared.command.Command.TheVariants as C
use Rattle.gc_graph.specs.declared.kind.Kind.{Kind}
use Rattle.gc_graph.specs.declared.kind.Value.{Value}
use Rattle.gc_graph.specs.declared.kind.Value.TheVariants.{Null, Ref, Word}
use Rattle.gc_graph.specs.declared.line.Line.{Line}
use Rattle.gc_graph.specs.declared.line.Line.TheVariants as L
use Rattle.gc_graph.specs.declared.line.Refusal.{Refusal}
use Rattle.gc_graph.specs.declared.region.Entry.{Entry}
use Rattle.gc_graph.specs.State.{Setup, State, Node, node_at, is_live, IsLive}
use Rattle.gc_graph.specs.Fields.{field_count, kind_of_field, with_value, content_of, is_reference, is_weak, is_pair, is_plain}
use Rattle.gc_graph.specs.May.{read_node}
use Rattle.gc_graph.specs.Outcomes.{answered, slot_at, weak_slot_at, with_slot, took}
use Rattle.gc_graph.specs.ObjectSteps.{first_word, with_node, part_of}
use Rattle.gc_graph.specs.CycleSteps.{IsBegun, IsTraced, IsFinished, IsCollection, HasSwept}
use Rattle.gc_graph.specs.History.{node_of, region_slot}
use Rattle.gc_graph.specs.RegionSteps.{IsExported, IsImported, line_of_content}
use Rattle.gc_graph.specs.Step.{Step}
use Rattle.gc_graph.specs.Valid.{IsValid}
use Rattle.gc_graph.specs.Lawful.{IsAllowed}
use Rattle.gc_graph.specs.AccessLaw.{IsNew}
use Rattle.gc_graph.specs.ClearingLaw.{first_held, second_held}
use Rattle.gc_graph.specs.RefusalLaw.{IsLeftAlone, IsLeftFull}
use Rattle.gc_graph.specs.RefusalsExactLaw.{IsFirstReason}

-- ---- what slots name

-- what a slot names is live, of a strong one and of a weak one
abbrev pub SlotsNameTheLive : Type 0
SlotsNameTheLive =
    (setup : Setup) (s : State) (z n : ℕ) → IsValid setup s
    → (slot_at s z ≡ Some n → IsLive s.nodes n) × (weak_slot_at s z ≡ Some n → IsLive s.nodes n)

-- the node as long as it lives, and then nothing
abbrev pub while_live : List Node → ℕ → Option ℕ
while_live nodes n = if is_live (node_at nodes n).life then Some n else None

-- the weak slot names the node as long as that lives, and then nothing
pub record TellsLife (s : State) (w n : ℕ) : Type 0 where
  pub made : n < length s.nodes
  pub names : weak_slot_at s w ≡ while_live s.nodes n

-- so it goes on, until the slot is written
abbrev pub WeakSlotsTellLives : Type 0
WeakSlotsTellLives =
    (setup : Setup) (old : State) (command : Command) (piece : List Entry) (lines : List Line) (new : State) → 0 < setup.shape.pages
    → IsAllowed (length setup.types) command → IsValid setup old → Step setup old command piece lines new → (w n : ℕ)
    → ((p : ℕ) → command ≢ C.Weak w p) → TellsLife old w n → TellsLife new w n

-- ---- what the last line of a command means

-- the last of the lines
abbrev pub IsLast : List Line → Line → Type 0
IsLast lines line = slice_get lines (length lines - 1) ≡ Some line

-- the command had a reason to be refused, and nothing but the count of commands has changed
pub record IsTurnedDown (old : State) (command : Command) (why : Refusal) (new : State) : Type 0 where
  pub reason : IsFirstReason old command why
  pub after : new ≡ answered old

-- slot p names the node, and the node has field f, which is of an allowed kind
pub record IsFieldOf (allowed : Kind → Bool) (old : State) (p f n : ℕ) : Type 0 where
  pub slot : slot_at old p ≡ Some n
  pub there : f < field_count (node_at old.nodes n)
  pub allows : allowed (kind_of_field (node_at old.nodes n).object f) ≡ true

-- the state with the first word of the node's field written
abbrev pub with_field : State → ℕ → ℕ → Value → State
with_field s n f value = with_node s n (with_value (node_at s.nodes n) (first_word s n f) value)

-- the state with both words of the node's pair written
abbrev pub with_parts : State → ℕ → ℕ → Value → Value → State
with_parts s n f key value =
    with_node s n (with_value (with_value (node_at s.nodes n) (first_word s n f) key) (first_word s n f + 1) value)

-- such a field was found, and this came of it
pub record IsWritten (allowed : Kind → Bool) (old : State) (p f : ℕ) (after : ℕ → State) (new : State) : Type 0 where
  pub node : ℕ
  pub field : IsFieldOf allowed old p f node
  pub written : new ≡ answered (after node)

-- such a field was found, which held this, and this came of it
pub record IsHeld
    (allowed : Kind → Bool) (old : State) (p f : ℕ) (part : List Node → ℕ → ℕ → Value) (value : Value) (after : ℕ → State) (new : State)
    : Type 0 where
  pub node : ℕ
  pub field : IsFieldOf allowed old p f node
  pub held : part old.nodes node f ≡ value
  pub read : new ≡ answered (after node)

-- the field is weak, and so is the read
abbrev pub reads_weakly : State → ℕ → ℕ → Bool
reads_weakly s f n = is_weak (kind_of_field (node_at s.nodes n).object f)

-- no object was made, and the slots are as they were
pub record LeavesSlots (setup : Setup) (old : State) (piece : List Entry) (lines : List Line) (new : State) : Type 0 where
  pub full : IsLeftFull setup old piece lines new
  pub slots : new.slots ≡ old.slots

-- `ok` means that this was done
abbrev pub MeansDone : State → Command → State → Type 0 → Line → Type 0
MeansDone old command new Done L.Fine = Done
MeansDone old command new Done (L.Refused why) = IsTurnedDown old command why new
MeansDone old command new Done _ = ⊥

-- a node that is told was read, and null means that there was none
abbrev pub MeansRead : State → Command → State → (ℕ → Type 0) → Type 0 → Line → Type 0
MeansRead old command new Gives Nothing (L.Node n) = Gives n
MeansRead old command new Gives Nothing L.Null = Nothing
MeansRead old command new Gives Nothing (L.Refused why) = IsTurnedDown old command why new
MeansRead old command new Gives Nothing _ = ⊥

-- the word that is told was read
abbrev pub MeansWord : State → Command → State → (ℕ → Type 0) → Line → Type 0
MeansWord old command new Tells (L.Word w) = Tells w
MeansWord old command new Tells (L.Refused why) = IsTurnedDown old command why new
MeansWord old command new Tells _ = ⊥

-- the object that is told was made, the heap is full, or memory is wanting
abbrev pub MeansNew : Setup → State → ℕ → ℕ → ℕ → List Entry → List Line → State → Line → Type 0
MeansNew setup old p t e piece lines new (L.Placed n a) = p < length old.slots → IsNew setup old p t e n a new
MeansNew setup old p t e piece lines new L.Full = LeavesSlots setup old piece lines new
MeansNew setup old p t e piece lines new L.Memory = IsLeftAlone setup (C.New p t e) old piece new
MeansNew setup old p t e piece lines new _ = ⊥

-- each line means that this was done, but for a refusal and for want of memory
abbrev pub MeansCycle : Setup → State → Command → List Entry → State → Type 0 → Line → Type 0
MeansCycle setup old command piece new Done (L.Refused why) = IsTurnedDown old command why new
MeansCycle setup old command piece new Done L.Memory = IsLeftAlone setup command old piece new
MeansCycle setup old command piece new Done _ = Done

-- the node of slot p went into the slot of the region
pub record IsShared (old : State) (p x : ℕ) (piece : List Entry) (lines : List Line) (new : State) : Type 0 where
  pub node : ℕ
  pub slot : slot_at old p ≡ Some node
  pub exported : IsExported old node x piece lines new

-- the node of the region's slot came into slot p, and is told
pub record IsTakenBack (old : State) (x p : ℕ) (piece : List Entry) (lines : List Line) (new : State) (line : Line) : Type 0 where
  pub imported : IsImported old x p piece lines new
  pub told : line ≡ line_of_content (node_of (region_slot (took old imported.before).region x))

-- what the last line of a command means, but for those on the stack and on threads and for counts
abbrev pub Means : Setup → State → Command → List Entry → List Line → State → Line → Type 0
Means setup old (C.New p t e) piece lines new line = MeansNew setup old p t e piece lines new line
Means setup old (C.Set p f q) piece lines new line =
    MeansDone old (C.Set p f q) new (IsWritten is_reference old p f (λ n. with_field old n f (content_of (slot_at old q))) new) line
Means setup old (C.SetNull p f) piece lines new line =
    MeansDone old (C.SetNull p f) new (IsWritten is_reference old p f (λ n. with_field old n f Null) new) line
Means setup old (C.Pair p f k v) piece lines new line =
    MeansDone old (C.Pair p f k v) new
    (IsWritten is_pair old p f
    (λ n. with_parts old n f (part_of (slot_at old k) (slot_at old v)) (part_of (slot_at old v) (slot_at old k))) new) line
Means setup old (C.PairNull p f) piece lines new line =
    MeansDone old (C.PairNull p f) new (IsWritten is_pair old p f (λ n. with_parts old n f Null Null) new) line
Means setup old (C.Put p f w) piece lines new line =
    MeansDone old (C.Put p f w) new (IsWritten is_plain old p f (λ n. with_field old n f (Word w)) new) line
Means setup old (C.Word p f) piece lines new line =
    MeansWord old (C.Word p f) new (λ w. IsHeld is_plain old p f first_held (Word w) (λ n. old) new) line
Means setup old (C.Get p f q) piece lines new line =
    MeansRead old (C.Get p f q) new
    (λ m. IsHeld is_reference old p f first_held (Ref m) (λ n. with_slot (read_node (reads_weakly old f n) old m) q (Some m)) new)
    (IsHeld is_reference old p f first_held Null (λ n. with_slot old q None) new) line
Means setup old (C.Key p f q) piece lines new line =
    MeansRead old (C.Key p f q) new (λ m. IsHeld is_pair old p f first_held (Ref m) (λ n. with_slot (read_node true old m) q (Some m)) new)
    (IsHeld is_pair old p f first_held Null (λ n. with_slot old q None) new) line
Means setup old (C.Val p f q) piece lines new line =
    MeansRead old (C.Val p f q) new (λ m. IsHeld is_pair old p f second_held (Ref m) (λ n. with_slot (read_node true old m) q (Some m)) new)
    (IsHeld is_pair old p f second_held Null (λ n. with_slot old q None) new) line
Means setup old (C.Copy p q) piece lines new line = MeansDone old (C.Copy p q) new (new ≡ answered (with_slot old q (slot_at old p))) line
Means setup old (C.Drop p) piece lines new line = MeansDone old (C.Drop p) new (new ≡ answered (with_slot old p None)) line
Means setup old (C.Weak w p) piece lines new line =
    MeansDone old (C.Weak w p) new (new ≡ answered (record old { weak = slice_set old.weak w (slot_at old p) })) line
Means setup old (C.Read w p) piece lines new line =
    MeansRead old (C.Read w p) new (λ m. (weak_slot_at old w ≡ Some m) × (new ≡ answered (with_slot (read_node true old m) p (Some m))))
    ((weak_slot_at old w ≡ None) × (new ≡ answered (with_slot old p None))) line
Means setup old C.GcStart piece lines new line = MeansCycle setup old C.GcStart piece new (IsBegun setup old piece lines new) line
Means setup old (C.GcStep n) piece lines new line = MeansCycle setup old (C.GcStep n) piece new (IsTraced old n lines new) line
Means setup old (C.GcFinish want) piece lines new line =
    MeansCycle setup old (C.GcFinish want) piece new (IsFinished setup want old piece lines new) line
Means setup old (C.GcNow want) piece lines new line =
    MeansCycle setup old (C.GcNow want) piece new (IsCollection setup want old piece lines new) line
Means setup old (C.Sweep n) piece lines new line =
    MeansCycle setup old (C.Sweep n) piece new (HasSwept setup old (min (old.cursor + n) setup.shape.pages) lines new) line
Means setup old C.SweepAll piece lines new line = MeansCycle setup old C.SweepAll piece new (HasSwept setup old setup.shape.pages lines new) line
Means setup old (C.Export p x) piece lines new line =
    MeansCycle setup old (C.Export p x) piece new (IsShared old p x piece lines new) line
Means setup old (C.Import x p) piece lines new line =
    MeansCycle setup old (C.Import x p) piece new (IsTakenBack old x p piece lines new line) line
Means setup old command piece lines new _ = ⊤

-- each command has a last line, which means what is said of it
abbrev pub LastLinesMean : Type 0
LastLinesMean =
    (setup : Setup) (old new : State) (command : Command) (piece : List Entry) (lines : List Line) → Step setup old command piece lines new
    → (0 < length lines) × ((line : Line) → IsLast lines line → Means setup old command piece lines new line)
