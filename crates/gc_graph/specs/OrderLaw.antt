-- The laws of what the script's threads do: what their orders say, in the order of their queues, and nothing else.
use Rattle.std.specs.Prelude.{◌≡◌, ◌≢◌, ◌⊎◌, ℕ, ◌==◌, Bool, true, false, List, [], ◌∷◌, filter, if◌then◌else◌, All, Contains, ⊤}
use Rattle.gc_graph.specs.declared.command.Command.{Command}
use Rattle.gc_graph.specs.declared.command.Command.TheVariants as C
use Rattle.gc_graph.specs.declared.command.Order.{Order}
use Rattle.gc_graph.specs.declared.command.Order.TheVariants as Q
use Rattle.gc_graph.specs.declared.line.Line.{Line}
use Rattle.gc_graph.specs.declared.line.Line.TheVariants as L
use Rattle.gc_graph.specs.declared.region.Entry.{Entry}
use Rattle.gc_graph.specs.declared.region.Op.{Op}
use Rattle.gc_graph.specs.declared.region.Op.TheVariants as O
use Rattle.gc_graph.specs.declared.region.Reply.TheVariants as P
use Rattle.gc_graph.specs.State.{Setup, State, empty_state}
use Rattle.gc_graph.specs.RegionSteps.{queue_of}
use Rattle.gc_graph.specs.Step.{Step}
use Rattle.gc_graph.specs.Lawful.{Outcome, last_state, IsLawful}
use Rattle.gc_graph.specs.JoinLaw.{AreThreads, is_answer_of, entries_in}

-- what was done to the region's slots is what the order says, with the same slots; totals do nothing to them
abbrev pub Does : Order → Op → Type 0
Does (Q.Copy x y) (O.Copy from into) = (from ≡ x) × (into ≡ y)
Does (Q.Clear x) (O.Clear slot) = slot ≡ x
Does (Q.Weaken x) (O.Weaken slot) = slot ≡ x
Does (Q.Upgrade x y) (O.Upgrade from into) = (from ≡ x) × (into ≡ y)
Does order op = ⊥

-- the entries that thread j made
abbrev pub made_by : ℕ → List Entry → List Entry
made_by j entries = filter (λ (entry : Entry). entry.thread == j) entries

-- ---- threads that were joined

-- the line tells that an order was done: neither totals, nor that memory was wanting
abbrev pub tells_done : Line → Bool
tells_done (L.Reply j P.NoMemory) = false
tells_done (L.Reply j reply) = true
tells_done other = false

-- the orders that were done, where each was answered by the line at its place
abbrev pub orders_done : List Order → List Line → List Order
orders_done (order ∷ orders) (line ∷ lines) = if tells_done line then order ∷ orders_done orders lines else orders_done orders lines
orders_done orders lines = []

-- each order has an entry at its place that does it, and there are no other entries
abbrev pub AreDoneBy : List Order → List Entry → Type 0
AreDoneBy [] [] = ⊤
AreDoneBy (order ∷ orders) (entry ∷ entries) = Does order entry.op × AreDoneBy orders entries
AreDoneBy orders entries = ⊥

-- the entries that a join tells of a thread do its orders, in the order of its queue, but those whose answers tell nothing done
abbrev pub JoinedDidTheirOrders : Type 0
JoinedDidTheirOrders =
    (setup : Setup) (old new : State) (piece : List Entry) (lines : List Line) (j : ℕ) → AreThreads old.running
    → Step setup old C.ThreadsJoin piece lines new → Contains old.running j
    → AreDoneBy (orders_done (queue_of old j) (filter (is_answer_of j) lines)) (made_by j (entries_in lines))

-- ---- threads that run at the end

-- the entries do some of the orders, in their order
abbrev pub AreDoneInTurn : List Order → List Entry → Type 0
AreDoneInTurn orders [] = ⊤
AreDoneInTurn [] (entry ∷ entries) = ⊥
AreDoneInTurn (order ∷ orders) (entry ∷ entries) =
    (Does order entry.op × AreDoneInTurn orders entries) ⊎ AreDoneInTurn orders (entry ∷ entries)

-- so do the entries, not told yet, of a thread that runs at the end of a lawful run
abbrev pub RunningDoTheirOrders : Type 0
RunningDoTheirOrders =
    (setup : Setup) (commands : List Command) (outcomes : List Outcome) (history : List Entry) (j : ℕ)
    → IsLawful setup commands outcomes history → Contains (last_state empty_state outcomes).running j
    → AreDoneInTurn (queue_of (last_state empty_state outcomes) j) (made_by j (last_state empty_state outcomes).unprinted)

-- ---- whose entries there are

-- an entry of the owner, who has the number 0, does no order; any other is of a thread that runs, and does what an order can say
pub record IsOfItsThread (running : List ℕ) (entry : Entry) : Type 0 where
  pub owner : entry.thread ≡ 0 → (order : Order) → Does order entry.op → ⊥
  pub others : entry.thread ≢ 0 → Contains running entry.thread × ((order : Order) × Does order entry.op)

-- so is each entry that a step takes
abbrev pub EntriesAreOfTheirThreads : Type 0
EntriesAreOfTheirThreads =
    (setup : Setup) (old new : State) (command : Command) (piece : List Entry) (lines : List Line) → AreThreads old.running
    → Step setup old command piece lines new → All (IsOfItsThread old.running) piece
