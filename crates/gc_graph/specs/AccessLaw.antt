-- The laws of the commands on objects and handles: what was written is read back, and a new object holds nothing.
use Rattle.std.specs.Prelude.{◌≡◌, ℕ, ◌+◌, ◌<◌, List, [], ◌∷◌, length, Option, Some, None, Contains, All}
use Rattle.gc_graph.specs.declared.command.Command.{Command}
use Rattle.gc_graph.specs.declared.command.Command.TheVariants as C
use Rattle.gc_graph.specs.declared.line.Line.{Line}
use Rattle.gc_graph.specs.declared.line.Line.TheVariants as L
use Rattle.gc_graph.specs.declared.region.Entry.{Entry}
use Rattle.gc_graph.specs.State.{Setup, State, node_at, type_at, IsLive}
use Rattle.gc_graph.specs.Actions.{shown}
use Rattle.gc_graph.specs.Outcomes.{slot_at}
use Rattle.gc_graph.specs.RegionSteps.{line_of_content}
use Rattle.gc_graph.specs.Step.{Step}
use Rattle.gc_graph.specs.Valid.{IsValid}

-- ---- a write, and then a read

-- the first command was answered `ok`, and the second by these lines; the second took so much of the region's history
pub record FollowsOk
    (setup : Setup) (old : State) (first : Command) (mid : State) (second : Command) (more : List Entry) (lines : List Line) (new : State)
    : Type 0 where
  pub piece : List Entry
  pub done : Step setup old first piece (L.Fine ∷ []) mid
  pub next : Step setup mid second more lines new

-- the line tells the node, or null, and the slot names just that
abbrev pub IsGiven : Option ℕ → ℕ → List Line → State → Type 0
IsGiven content slot lines new = (lines ≡ line_of_content content ∷ []) × (slot_at new slot ≡ content)

-- the first of two, where both are there
abbrev pub beside : Option ℕ → Option ℕ → Option ℕ
beside (Some n) (Some m) = Some n
beside first second = None

-- a read into slot r gives what the command before it wrote there: of a pair nothing, unless both parts were given; what was
-- pushed last is what is popped; and what a slot of the region gives is read before others make an entry
pub record IsReadBack (setup : Setup) (old mid : State) (r : ℕ) (lines : List Line) (new : State) : Type 0 where
  pub set : (p f q : ℕ) → FollowsOk setup old (C.Set p f q) mid (C.Get p f r) [] lines new → IsGiven (slot_at old q) r lines new
  pub set_null : (p f : ℕ) → FollowsOk setup old (C.SetNull p f) mid (C.Get p f r) [] lines new → IsGiven None r lines new
  pub key :
      (p f k v : ℕ) → FollowsOk setup old (C.Pair p f k v) mid (C.Key p f r) [] lines new
      → IsGiven (beside (slot_at old k) (slot_at old v)) r lines new
  pub value :
      (p f k v : ℕ) → FollowsOk setup old (C.Pair p f k v) mid (C.Val p f r) [] lines new
      → IsGiven (beside (slot_at old v) (slot_at old k)) r lines new
  pub key_null : (p f : ℕ) → FollowsOk setup old (C.PairNull p f) mid (C.Key p f r) [] lines new → IsGiven None r lines new
  pub value_null : (p f : ℕ) → FollowsOk setup old (C.PairNull p f) mid (C.Val p f r) [] lines new → IsGiven None r lines new
  pub put : (p f n : ℕ) → FollowsOk setup old (C.Put p f n) mid (C.Word p f) [] lines new → lines ≡ L.Word n ∷ []
  pub weak :
      (w p : ℕ) → w < length old.weak → FollowsOk setup old (C.Weak w p) mid (C.Read w r) [] lines new → IsGiven (slot_at old p) r lines new
  pub pushed : (p o : ℕ) → FollowsOk setup old (C.Push p o) mid (C.Peek 0 r) [] lines new → IsGiven (slot_at old p) r lines new
  pub deeper :
      (p o i n : ℕ) (first : State) → Step setup old (C.Peek i r) [] (L.Node n ∷ []) first
      → FollowsOk setup old (C.Push p o) mid (C.Peek (i + 1) r) [] lines new → IsGiven (Some n) r lines new
  pub popped : (p o : ℕ) → FollowsOk setup old (C.Push p o) mid C.Pop [] lines new → new.stack ≡ old.stack
  pub popped_plain : (n : ℕ) → FollowsOk setup old (C.PushPlain n) mid C.Pop [] lines new → new.stack ≡ old.stack
  pub exported :
      (p x : ℕ) (entry : Entry) → x < length old.region → FollowsOk setup old (C.Export p x) mid (C.Import x r) (entry ∷ []) lines new
      → IsGiven (slot_at old p) r lines new

-- so it is after each write in a valid state, where there is a slot r
abbrev pub WrittenIsReadBack : Type 0
WrittenIsReadBack =
    (setup : Setup) (old mid new : State) (r : ℕ) (lines : List Line) → IsValid setup old → r < length old.slots
    → IsReadBack setup old mid r lines new

-- ---- slots

-- after a copy the slot holds what the other one held, and after a drop nothing
abbrev pub SlotsAreCopied : Type 0
SlotsAreCopied =
    (setup : Setup) (old new : State) (p q : ℕ) (piece : List Entry) (lines : List Line) → q < length old.slots
    → (Step setup old (C.Copy p q) piece lines new → slot_at new q ≡ slot_at old p)
    × (Step setup old (C.Drop q) piece lines new → slot_at new q ≡ None)

-- ---- a new object

-- node n is new: it has the next number, the place and the type that were told, and the fields of the type; each of its words
-- is null or 0; and the slot names it
pub record IsNew (setup : Setup) (old : State) (p t e n a : ℕ) (new : State) : Type 0 where
  pub next : n ≡ length old.nodes
  pub live : IsLive new.nodes n
  pub place : (node_at new.nodes n).place ≡ a
  pub ty : (node_at new.nodes n).object.ty ≡ t
  pub extra : (node_at new.nodes n).object.extra ≡ e
  pub kinds : (node_at new.nodes n).object.kinds ≡ (type_at setup t).kinds
  pub empty : All (λ value. shown value ≡ 0) (node_at new.nodes n).object.values
  pub slot : slot_at new p ≡ Some n

-- so is each node that a `new` tells
abbrev pub NewObjectsAreEmpty : Type 0
NewObjectsAreEmpty =
    (setup : Setup) (old new : State) (p t e n a : ℕ) (piece : List Entry) (lines : List Line) → p < length old.slots
    → Step setup old (C.New p t e) piece lines new → Contains lines (L.Placed n a) → IsNew setup old p t e n a new
