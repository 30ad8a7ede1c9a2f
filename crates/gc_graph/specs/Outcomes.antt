-- How a command is answered, and what it may change.
use Rattle.std.specs.Prelude.{◌≡◌, ℕ, ◌+◌, Bool, List, [], ◌∷◌, ◌++◌, map, Option, Some, None, MatchBool, slice_index_or, slice_set, Contains, All, ⊤}
use Rattle.gc_graph.specs.declared.line.Line.{Line}
use Rattle.gc_graph.specs.declared.line.Line.TheVariants as L
use Rattle.gc_graph.specs.declared.line.Refusal.{Refusal}
use Rattle.gc_graph.specs.declared.region.Entry.{Entry}
use Rattle.gc_graph.specs.declared.region.Op.{Op}
use Rattle.gc_graph.specs.declared.region.Op.TheVariants as O
use Rattle.gc_graph.specs.State.{State, graph_of}
use Rattle.gc_graph.specs.May.{may_with_read}
use Rattle.gc_graph.specs.History.{region_after, read_by, reply_of}

-- a command was answered
abbrev pub answered : State → State
answered s = record s { ordinal = s.ordinal + 1 }

-- the command has one line, and nothing but what is counted has changed
abbrev pub IsAnswered : Line → State → List Line → State → Type 0
IsAnswered line old lines new = (lines ≡ line ∷ []) × (new ≡ answered old)

-- the command was refused, and the state is as before
abbrev pub IsRefused : Refusal → State → List Line → State → Type 0
IsRefused why old lines new = IsAnswered (L.Refused why) old lines new

-- refused as said where the test holds, and else the rest
abbrev pub RefusedIf : Bool → Type 0 → Type 0 → Type 0
RefusedIf test Refused Rest = MatchBool test Refused Rest

-- refused as said unless the test holds, and then the rest
abbrev pub RefusedUnless : Bool → Type 0 → Type 0 → Type 0
RefusedUnless test Refused Rest = MatchBool test Rest Refused

-- memory was wanting, and the state is as before
abbrev pub IsMemory : State → List Line → State → Type 0
IsMemory old lines new = IsAnswered L.Memory old lines new

-- a line for each node that was finalised
abbrev pub finalise_lines : List ℕ → List Line
finalise_lines numbers = map (λ n. L.Finalise n) numbers

-- what strong slot p holds
abbrev pub slot_at : State → ℕ → Option ℕ
slot_at s p = slice_index_or s.slots p None

-- strong slot p got this
abbrev pub with_slot : State → ℕ → Option ℕ → State
with_slot s p content = record s { slots = slice_set s.slots p content }

-- what weak slot w holds
abbrev pub weak_slot_at : State → ℕ → Option ℕ
weak_slot_at s w = slice_index_or s.weak w None

-- ---- what a command takes of the region's history

-- an upgrade or import from a weak slot is a weak read, which counts when the entry is taken
abbrev pub may_with_entry : State → Option ℕ → List Bool
may_with_entry s None = s.may
may_with_entry s (Some n) = may_with_read s.phase (graph_of s.nodes) s.may n

-- an entry was taken: the region's slots are those after it, a weak read counts, and it is yet to be printed
abbrev pub with_entry : State → Entry → State
with_entry s entry = record s {
  region = region_after s.region entry.op;
  may = may_with_entry s (read_by s.region entry.op);
  unprinted = s.unprinted ++ entry ∷ [];
}

-- these entries were taken, one after the other
abbrev pub took : State → List Entry → State
took s [] = s
took s (entry ∷ entries) = took (with_entry s entry) entries

-- what a thread does, and not the owner
abbrev pub IsThreadOp : Op → Type 0
IsThreadOp (O.Export x n) = ⊥
IsThreadOp (O.Import x) = ⊥
IsThreadOp O.Start = ⊥
IsThreadOp (O.Pause cleared) = ⊥
IsThreadOp (O.Copy x y) = ⊤
IsThreadOp (O.Clear x) = ⊤
IsThreadOp (O.Weaken x) = ⊤
IsThreadOp (O.Upgrade x y) = ⊤

-- entries of threads that run
abbrev pub AreOthers : State → List Entry → Type 0
AreOthers s entries = All (λ (entry : Entry). Contains s.running entry.thread × IsThreadOp entry.op) entries

-- the owner's entry, with the reply that the slots give
abbrev pub owner_entry : State → Op → Entry
owner_entry s op = record { thread = 0; op = op; reply = reply_of s.region op }
