-- Runs of whole scripts.
use Rattle.std.specs.Prelude.{◌≡◌, ℕ, ◌^◌, ◌<◌, ◌≤◌, List, [], ◌∷◌, take, Some, slice_get, Contains, ⊤}
use Rattle.std.specs.List.{flat_map}
use Rattle.gc_graph.specs.declared.command.Command.{Command}
use Rattle.gc_graph.specs.declared.command.Command.TheVariants as C
use Rattle.gc_graph.specs.declared.command.Order.{Order}
use Rattle.gc_graph.specs.declared.command.Order.TheVariants as Q
use Rattle.gc_graph.specs.declared.line.Line.{Line}
use Rattle.gc_graph.specs.declared.line.Line.TheVariants as L
use Rattle.gc_graph.specs.declared.region.Entry.{Entry}
use Rattle.gc_graph.specs.State.{Setup, State, empty_state, objects_of, used_of}
use Rattle.gc_graph.specs.Placement.{extents_of, IsUsedPages}
use Rattle.gc_graph.specs.History.{IsLegal}
use Rattle.gc_graph.specs.RegionSteps.{HasDoneFirst}
use Rattle.gc_graph.specs.Step.{Step}

-- what came of one command: its lines, the piece of the region's history that it took, and the state after it
pub record Outcome : Type 0 where
  pub lines : List Line
  pub piece : List Entry
  pub state : State

-- the outcomes are those of the commands, one for each, beginning from this state
abbrev pub Run : Setup → State → List Command → List Outcome → Type 0
Run setup old [] [] = ⊤
Run setup old (command ∷ commands) (outcome ∷ outcomes) =
    Step setup old command outcome.piece outcome.lines outcome.state × Run setup outcome.state commands outcomes
Run setup old [] (outcome ∷ outcomes) = ⊥
Run setup old (command ∷ commands) [] = ⊥

-- the state after the last outcome
abbrev pub last_state : State → List Outcome → State
last_state s [] = s
last_state s (outcome ∷ outcomes) = last_state outcome.state outcomes

-- the region's history is the pieces of the commands in order
abbrev pub history_of : List Outcome → List Entry
history_of outcomes = flat_map (λ (o : Outcome). o.piece) outcomes

-- ---- the totals that threads read

-- the state after the first k commands
abbrev pub state_after : List Outcome → ℕ → State
state_after outcomes k = last_state empty_state (take k outcomes)

-- the line tells thread j the totals of the state
abbrev pub TellsTotals : State → ℕ → Line → Type 0
TellsTotals s j line = line ≡ L.ReplyTotals j s.ordinal (objects_of s.nodes) (used_of s.nodes) s.finalised

-- the threads that command i joins were told to go by command g
pub record AreJoined (commands : List Command) (g i : ℕ) : Type 0 where
  pub go : slice_get commands g ≡ Some C.ThreadsGo
  pub join : slice_get commands i ≡ Some C.ThreadsJoin
  pub before : g < i
  pub last : (k : ℕ) → g < k → k < i → slice_get commands k ≡ Some C.ThreadsGo → ⊥

-- each line of totals tells those after one command, from the last before the threads went to the last before they were
-- joined
abbrev pub TotalsWerePublished : List Outcome → ℕ → ℕ → List Line → Type 0
TotalsWerePublished outcomes g i lines =
    (j o n u f : ℕ) → Contains lines (L.ReplyTotals j o n u f)
    → (k : ℕ) × (g ≤ k) × (k ≤ i) × TellsTotals (state_after outcomes k) j (L.ReplyTotals j o n u f)

-- what one thread is told never gets older
abbrev pub TotalsNeverFall : List Line → Type 0
TotalsNeverFall lines =
    (a b j o n u f o2 n2 u2 f2 : ℕ) → a < b → slice_get lines a ≡ Some (L.ReplyTotals j o n u f)
    → slice_get lines b ≡ Some (L.ReplyTotals j o2 n2 u2 f2) → o ≤ o2

-- ---- lawful runs

-- a lawful run: steps of the commands from the empty state, whose pieces are a legal history; a thread that was not
-- joined has begun its orders, and the totals that threads were told had been published
pub record IsLawful (setup : Setup) (commands : List Command) (outcomes : List Outcome) (history : List Entry) : Type 0 where
  pub run : Run setup empty_state commands outcomes
  pub pieces : history ≡ history_of outcomes
  pub legal : IsLegal history
  -- a thread that was not joined has done the first of its orders
  pub unjoined :
      (j : ℕ) → Contains (last_state empty_state outcomes).running j
      → HasDoneFirst (last_state empty_state outcomes) (last_state empty_state outcomes).unprinted j
  pub published :
      (g i : ℕ) (outcome : Outcome) → AreJoined commands g i → slice_get outcomes i ≡ Some outcome
      → TotalsWerePublished outcomes g i outcome.lines × TotalsNeverFall outcome.lines

-- ---- ranges

-- the numbers of an order are in their ranges
abbrev pub IsAllowedOrder : Order → Type 0
IsAllowedOrder (Q.Copy x y) = (x < 32) × (y < 32)
IsAllowedOrder (Q.Clear x) = x < 32
IsAllowedOrder (Q.Weaken x) = x < 32
IsAllowedOrder (Q.Upgrade x y) = (x < 32) × (y < 32)
IsAllowedOrder Q.Totals = ⊤

-- the numbers of a command are in their ranges, where there are so many types
abbrev pub IsAllowed : ℕ → Command → Type 0
IsAllowed types (C.New p t e) = (p < 256) × (t < types) × (e ≤ 33554432)
IsAllowed types (C.Set p f q) = (p < 256) × (f < 67108864) × (q < 256)
IsAllowed types (C.SetNull p f) = (p < 256) × (f < 67108864)
IsAllowed types (C.Pair p f k v) = (p < 256) × (f < 67108864) × (k < 256) × (v < 256)
IsAllowed types (C.PairNull p f) = (p < 256) × (f < 67108864)
IsAllowed types (C.Put p f n) = (p < 256) × (f < 67108864) × (n < 2 ^ 64)
IsAllowed types (C.Word p f) = (p < 256) × (f < 67108864)
IsAllowed types (C.Get p f q) = (p < 256) × (f < 67108864) × (q < 256)
IsAllowed types (C.Key p f q) = (p < 256) × (f < 67108864) × (q < 256)
IsAllowed types (C.Val p f q) = (p < 256) × (f < 67108864) × (q < 256)
IsAllowed types (C.Copy p q) = (p < 256) × (q < 256)
IsAllowed types (C.Drop p) = p < 256
IsAllowed types (C.Weak w p) = (w < 64) × (p < 256)
IsAllowed types (C.Read w p) = (w < 64) × (p < 256)
IsAllowed types (C.Push p o) = (p < 256) × (o < 67108864)
IsAllowed types (C.PushPlain n) = n < 2 ^ 64
IsAllowed types C.Pop = ⊤
IsAllowed types (C.Peek i q) = (i < 1024) × (q < 256)
IsAllowed types C.GcStart = ⊤
IsAllowed types (C.GcStep n) = (1 ≤ n) × (n < 2 ^ 32)
IsAllowed types (C.GcFinish want) = ⊤
IsAllowed types (C.GcNow want) = ⊤
IsAllowed types (C.Sweep n) = (1 ≤ n) × (n < 2 ^ 32)
IsAllowed types C.SweepAll = ⊤
IsAllowed types C.Stat = ⊤
IsAllowed types (C.Export p x) = (p < 256) × (x < 32)
IsAllowed types (C.Import x p) = (x < 32) × (p < 256)
IsAllowed types (C.At j order) = (1 ≤ j) × (j ≤ 8) × IsAllowedOrder order
IsAllowed types C.ThreadsGo = ⊤
IsAllowed types C.ThreadsJoin = ⊤

-- the last line of a report counts what is not finalised: objects, their words, and the pages that hold one
abbrev pub IsEndLine : Setup → State → Line → Type 0
IsEndLine setup s line =
    (pages : ℕ) × IsUsedPages setup.shape (extents_of s.nodes) pages × (line ≡ L.End (objects_of s.nodes) (used_of s.nodes) pages)

-- the line of a summary: commands, pauses, objects, words, finalisations, and outcomes that were full
abbrev pub summary_line : State → Line
summary_line s = L.Summary s.ordinal s.pauses (objects_of s.nodes) (used_of s.nodes) s.finalised s.full
