-- The commands of the region and of threads (`include/cppgc/cross-thread-persistent.h`).
use Rattle.std.specs.Prelude.{◌≡◌, ◌⊎◌, ℕ, ◌-◌, ◌==◌, nat_lt, Bool, true, false, List, [], ◌∷◌, ◌++◌, length, map, filter, take, Option, Some, None, MatchOption, slice_set, slice_index_or, if◌then◌else◌, Contains, ⊤}
use Rattle.std.specs.List.{flat_map, list_any, range_with_len}
use Rattle.gc_graph.specs.declared.command.Order.{Order}
use Rattle.gc_graph.specs.declared.command.Order.TheVariants as Q
use Rattle.gc_graph.specs.declared.line.Line.{Line}
use Rattle.gc_graph.specs.declared.line.Line.TheVariants as L
use Rattle.gc_graph.specs.declared.line.Refusal.TheVariants as R
use Rattle.gc_graph.specs.declared.region.Entry.{Entry}
use Rattle.gc_graph.specs.declared.region.Op.{Op}
use Rattle.gc_graph.specs.declared.region.Op.TheVariants as O
use Rattle.gc_graph.specs.declared.region.Reply.{Reply}
use Rattle.gc_graph.specs.declared.region.Reply.TheVariants as P
use Rattle.gc_graph.specs.State.{State}
use Rattle.gc_graph.specs.CycleSteps.{WantsMemory, is_marking}
use Rattle.gc_graph.specs.History.{IsLegalFrom, node_of, region_slot}
use Rattle.gc_graph.specs.Outcomes.{answered, IsRefused, IsMemory, slot_at, with_slot, took, AreOthers, owner_entry}

-- ---- the owner's entries

-- the history was taken up to and with an entry of the owner
pub record TakesOwn (old : State) (op : Op) (piece : List Entry) (before : List Entry) : Type 0 where
  pub others : AreOthers old before
  pub piece_is : piece ≡ before ++ owner_entry (took old before) op ∷ []
  pub legal : IsLegalFrom old.region (is_marking old.phase) piece

-- the region slot became strong for the node
pub record IsExported (old : State) (n x : ℕ) (piece : List Entry) (lines : List Line) (new : State) : Type 0 where
  pub before : List Entry
  pub takes : TakesOwn old (O.Export x n) piece before
  pub lines_are : lines ≡ L.Fine ∷ []
  pub after : new ≡ answered (took old piece)

-- export: refused where slot p is null
abbrev pub StepExport : State → ℕ → ℕ → List Entry → List Line → State → Type 0
StepExport old p x piece lines new =
    MatchOption (slot_at old p) ((piece ≡ []) × IsRefused R.Null old lines new)
    (λ n. WantsMemory old piece lines new ⊎ IsExported old n x piece lines new)

-- a read answers the node, or null
abbrev pub line_of_content : Option ℕ → Line
line_of_content None = L.Null
line_of_content (Some n) = L.Node n

-- slot p got the node of the region slot, which stays
pub record IsImported (old : State) (x p : ℕ) (piece : List Entry) (lines : List Line) (new : State) : Type 0 where
  pub before : List Entry
  pub takes : TakesOwn old (O.Import x) piece before
  pub lines_are : lines ≡ line_of_content (node_of (region_slot (took old before).region x)) ∷ []
  pub after : new ≡ answered (with_slot (took old piece) p (node_of (region_slot (took old before).region x)))

-- import: slot p gets the region slot's node; memory may be wanting
abbrev pub StepImport : State → ℕ → ℕ → List Entry → List Line → State → Type 0
StepImport old x p piece lines new = WantsMemory old piece lines new ⊎ IsImported old x p piece lines new

-- ---- orders, and the threads that do them; threads are numbered from 1

-- the orders that wait for thread j
abbrev pub queue_of : State → ℕ → List Order
queue_of s j = slice_index_or s.queues (j - 1) []

-- the order waits behind the others of its thread
abbrev pub queued : State → ℕ → Order → State
queued s j order = record s { queues = slice_set s.queues (j - 1) (queue_of s j ++ order ∷ []) }

-- at: the order waits for its thread
abbrev pub StepAt : State → ℕ → Order → List Line → State → Type 0
StepAt old j order lines new = IsMemory old lines new ⊎ ((lines ≡ L.Queued ∷ []) × (new ≡ answered (queued old j order)))

-- the threads whose queues aren't empty
abbrev pub threads_with_orders : State → List ℕ
threads_with_orders s = filter (λ j. nat_lt 0 (length (queue_of s j))) (range_with_len 1 8)

-- threads go: a thread is started for each queue that isn't empty; after want of memory none is, and the join is awaited
abbrev pub StepThreadsGo : State → List Line → State → Type 0
StepThreadsGo old lines new =
    ((lines ≡ L.Memory ∷ []) × (new ≡ answered (record old { awaiting = true })))
    ⊎ ((lines ≡ L.Going (length (threads_with_orders old)) ∷ [])
    × (new ≡ answered (record old { running = threads_with_orders old; awaiting = true })))

-- ---- what the threads did

-- the answer to an order: a reply of the region, or the heap's totals (ordinal, objects, words, finalised)
pub data Answer : Type 0 where
  Replied : Reply → Answer
  Told : ℕ → ℕ → ℕ → ℕ → Answer

-- what an order does to the region; totals do nothing
abbrev pub op_of : Order → Option Op
op_of (Q.Copy x y) = Some (O.Copy x y)
op_of (Q.Clear x) = Some (O.Clear x)
op_of (Q.Weaken x) = Some (O.Weaken x)
op_of (Q.Upgrade x y) = Some (O.Upgrade x y)
op_of Q.Totals = None

-- the entry of an order that was answered: there is none for totals, and none where memory was wanting
abbrev pub entry_of : ℕ → Option Op → Answer → List Entry
entry_of j (Some op) (Replied P.NoMemory) = []
entry_of j (Some op) (Replied reply) = record { thread = j; op = op; reply = reply } ∷ []
entry_of j op answer = []

-- totals are told to an order for totals, and the others have replies
abbrev pub AnswersOrder : Option Op → Answer → Type 0
AnswersOrder (Some op) (Replied reply) = ⊤
AnswersOrder (Some op) (Told o n u f) = ⊥
AnswersOrder None (Replied reply) = ⊥
AnswersOrder None (Told o n u f) = ⊤

-- a thread has done these orders with these answers, and made these entries
abbrev pub HasDone : ℕ → List Order → List Answer → List Entry → Type 0
HasDone j [] [] entries = entries ≡ []
HasDone j (order ∷ orders) (answer ∷ answers) entries =
    (rest : List Entry) × AnswersOrder (op_of order) answer × (entries ≡ entry_of j (op_of order) answer ++ rest) × HasDone j orders answers rest
HasDone j [] (answer ∷ answers) entries = ⊥
HasDone j (order ∷ orders) [] entries = ⊥

-- an answer is told beside its thread
abbrev pub reply_line : ℕ → Answer → Line
reply_line j (Replied reply) = L.Reply j reply
reply_line j (Told o n u f) = L.ReplyTotals j o n u f

-- thread j's entries among these
abbrev pub entries_by : ℕ → List Entry → List Entry
entries_by j entries = filter (λ (entry : Entry). entry.thread == j) entries

-- a thread that still runs has done the first of its orders
abbrev pub HasDoneFirst : State → List Entry → ℕ → Type 0
HasDoneFirst s entries j =
    (n : ℕ) × (answers : List Answer) × HasDone j (take n (queue_of s j)) answers (entries_by j entries)

-- whether thread j runs
abbrev pub is_running : State → ℕ → Bool
is_running s j = list_any (λ k. k == j) s.running

-- the queues of the threads that ran are empty
abbrev pub joined : State → State
joined s = record s {
  queues = map (λ j. if is_running s j then [] else queue_of s j) (range_with_len 1 8);
  running = [];
  awaiting = false;
  unprinted = [];
}

-- threads join: the replies of each thread in turn, then all entries that were not printed yet, then how many were joined
pub record StepThreadsJoin (old : State) (piece : List Entry) (lines : List Line) (new : State) : Type 0 where
  pub others : AreOthers old piece
  pub legal : IsLegalFrom old.region (is_marking old.phase) piece
  pub answers : ℕ → List Answer
  pub done : (j : ℕ) → Contains old.running j → HasDone j (queue_of old j) (answers j) (entries_by j (took old piece).unprinted)
  pub lines_are :
      lines
      ≡ flat_map (λ j. map (reply_line j) (answers j)) old.running
      ++ map (λ entry. L.Entry entry) (took old piece).unprinted
      ++ L.Joined (length old.running) ∷ []
  pub after : new ≡ answered (joined (took old piece))
