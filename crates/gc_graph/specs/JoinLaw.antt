-- The laws of orders, starts and joins: who is started, what a join tells and leaves, and that each entry is told once.
use Rattle.std.specs.Prelude.{◌≡◌, ◌≢◌, ℕ, ◌==◌, ◌≤◌, Bool, true, false, List, [], ◌∷◌, ◌++◌, length, map, filter, Option, Some, None, Contains}
use Rattle.std.specs.List.{filter_map, flat_map}
use Rattle.std.specs.List.Sorted.{IsNonDecreasingBy, IsStrictlyIncreasing}
use Rattle.gc_graph.specs.declared.command.Command.{Command}
use Rattle.gc_graph.specs.declared.command.Command.TheVariants as C
use Rattle.gc_graph.specs.declared.command.Order.{Order}
use Rattle.gc_graph.specs.declared.command.Order.TheVariants as Q
use Rattle.gc_graph.specs.declared.line.Line.{Line}
use Rattle.gc_graph.specs.declared.line.Line.TheVariants as L
use Rattle.gc_graph.specs.declared.region.Entry.{Entry}
use Rattle.gc_graph.specs.declared.region.Reply.{Reply}
use Rattle.gc_graph.specs.declared.region.Reply.TheVariants as P
use Rattle.gc_graph.specs.State.{Setup, State, empty_state}
use Rattle.gc_graph.specs.RegionSteps.{queue_of, entries_by}
use Rattle.gc_graph.specs.Step.{Step}
use Rattle.gc_graph.specs.Lawful.{Outcome, Run, last_state, history_of}

-- ---- orders and starts

-- a thread of the script
abbrev pub IsThread : ℕ → Type 0
IsThread j = (1 ≤ j) × (j ≤ 8)

-- the order waits behind the others of its thread, and the other threads have theirs
pub record IsQueuedLast (old : State) (j : ℕ) (order : Order) (new : State) : Type 0 where
  pub last : queue_of new j ≡ queue_of old j ++ order ∷ []
  pub others : (k : ℕ) → IsThread k → k ≢ j → queue_of new k ≡ queue_of old k

-- so it is where an order was queued
abbrev pub OrdersWaitInOrder : Type 0
OrdersWaitInOrder =
    (setup : Setup) (old new : State) (j : ℕ) (order : Order) (piece : List Entry) (lines : List Line) → IsThread j → length old.queues ≡ 8
    → Step setup old (C.At j order) piece lines new → lines ≡ L.Queued ∷ [] → IsQueuedLast old j order new

-- threads of the script, each once, from the lowest number to the highest
pub record AreThreads (threads : List ℕ) : Type 0 where
  pub each : (j : ℕ) → Contains threads j → IsThread j
  pub ascending : IsStrictlyIncreasing threads

-- so many were started: those that have orders, and no others
pub record AreStarted (old : State) (m : ℕ) (new : State) : Type 0 where
  pub count : length new.running ≡ m
  pub threads : AreThreads new.running
  pub with_orders : (j : ℕ) → IsThread j → queue_of old j ≢ [] → Contains new.running j
  pub no_others : (j : ℕ) → Contains new.running j → queue_of old j ≢ []

-- so it is where threads were told to go
abbrev pub ThreadsWithOrdersGo : Type 0
ThreadsWithOrdersGo =
    (setup : Setup) (old new : State) (piece : List Entry) (lines : List Line) (m : ℕ) → Step setup old C.ThreadsGo piece lines new
    → lines ≡ L.Going m ∷ [] → AreStarted old m new

-- ---- what a join tells

-- the line tells an answer of thread j
abbrev pub is_answer_of : ℕ → Line → Bool
is_answer_of j (L.Reply k reply) = k == j
is_answer_of j (L.ReplyTotals k o n u f) = k == j
is_answer_of j other = false

-- the line tells totals
abbrev pub tells_totals : Line → Bool
tells_totals (L.ReplyTotals j o n u f) = true
tells_totals other = false

-- the order asks for totals
abbrev pub asks_totals : Order → Bool
asks_totals (Q.Copy x y) = false
asks_totals (Q.Clear x) = false
asks_totals (Q.Weaken x) = false
asks_totals (Q.Upgrade x y) = false
asks_totals Q.Totals = true

-- the entries that lines tell
abbrev pub entries_in : List Line → List Entry
entries_in [] = []
entries_in (L.Entry entry ∷ lines) = entry ∷ entries_in lines
entries_in (other ∷ lines) = entries_in lines

-- the reply that a line tells; after want of memory nothing was done
abbrev pub reply_told : Line → Option Reply
reply_told (L.Reply j P.NoMemory) = None
reply_told (L.Reply j reply) = Some reply
reply_told other = None

-- where a line of a join stands: answers by their threads, which are below 9, then entries, and then the count
abbrev pub stand_of : Line → ℕ
stand_of (L.Reply j reply) = j
stand_of (L.ReplyTotals j o n u f) = j
stand_of (L.Entry entry) = 9
stand_of other = 10

-- each order of a thread that ran has one answer, in the order of its queue; no one else answers; the replies of a thread are
-- those of its entries; the lines stand in order, and the last counts the threads
pub record TellsAnswers (old : State) (lines : List Line) : Type 0 where
  pub answers : (j : ℕ) → Contains old.running j → map tells_totals (filter (is_answer_of j) lines) ≡ map asks_totals (queue_of old j)
  pub no_others : (j : ℕ) → (Contains old.running j → ⊥) → filter (is_answer_of j) lines ≡ []
  pub replies :
      (j : ℕ) → Contains old.running j
      → filter_map reply_told (filter (is_answer_of j) lines) ≡ map (λ (entry : Entry). entry.reply) (entries_by j (entries_in lines))
  pub in_order : IsNonDecreasingBy stand_of lines
  pub last : (before : List Line) × (lines ≡ before ++ L.Joined (length old.running) ∷ [])

-- the threads that ran have no orders left, the others have theirs; none runs, no join is awaited, and all entries are told
pub record LeavesNone (old new : State) : Type 0 where
  pub emptied : (j : ℕ) → IsThread j → Contains old.running j → queue_of new j ≡ []
  pub kept : (j : ℕ) → IsThread j → (Contains old.running j → ⊥) → queue_of new j ≡ queue_of old j
  pub none_runs : new.running ≡ []
  pub none_awaited : new.awaiting ≡ false
  pub all_told : new.unprinted ≡ []

-- so it is with each join
abbrev pub JoinsTellAll : Type 0
JoinsTellAll =
    (setup : Setup) (old new : State) (piece : List Entry) (lines : List Line) → AreThreads old.running
    → Step setup old C.ThreadsJoin piece lines new → TellsAnswers old lines × LeavesNone old new

-- ---- entries are told once

-- the entries that a run tells, and then those that it has yet to tell, are its history
abbrev pub EntriesAreToldOnce : Type 0
EntriesAreToldOnce =
    (setup : Setup) (commands : List Command) (outcomes : List Outcome) → Run setup empty_state commands outcomes
    → history_of outcomes ≡ flat_map (λ (o : Outcome). entries_in o.lines) outcomes ++ (last_state empty_state outcomes).unprinted
