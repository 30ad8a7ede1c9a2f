-- What the crate's own code cites: a thread from its start to its end.
use Rattle.std.specs.Prelude.{◌≡◌, ◌<◌, ◌≤◌, ◌+◌, ℕ, Bool, true, false, List, [], ◌∷◌, ◌++◌, length, map, All, Contains, Some, None, slice_index_or}
use Rattle.atomic_table.specs.Seated.{TableId}
use Rattle.gc_graph.specs.declared.command.Order.{Order}
use Rattle.gc_graph.specs.declared.line.Line.{Line}
use Rattle.gc_graph.specs.RegionSteps.{Answer, HasDone, entries_by, reply_line}
use Rattle.cross_thread_region.specs.declared.chronicle.PlacedEntry.{PlacedEntry}
use Rattle.cross_thread_region.specs.Histories.{entries_of}
use Rattle.cross_thread_region.specs.Calls.{PassView}
use Rattle.cross_thread_region.specs.Passes.{split_off}
use Rattle.heap_stats.specs.Boards.{PublisherView, NeverFall, lent_from}
use Rattle.heap_stats.specs.declared.totals.Totals.{Totals}
use Rattle.thread_queues.specs.declared.endings.Begun.{Begun}
use Rattle.thread_queues.specs.declared.script_thread.Work.{Work}
use Rattle.thread_queues.specs.declared.script_thread.Work.TheVariants.{Waits, Runs, Ran}
use Rattle.thread_queues.specs.declared.working.OwnPasses.{OwnPasses}
use Rattle.thread_queues.specs.Orders.{totals_in}
use Rattle.thread_queues.specs.Queues.{ThreadView, posted, passes_of}

-- a thread that is away, as it began
abbrev pub away_with : Begun → ThreadView
away_with begun = record { orders = begun.queue.orders; replies = []; run = Some begun.own }

-- a thread, whose orders wait, or are done elsewhere, or were done by the caller
abbrev pub thread_view : Work → ThreadView
thread_view (Waits queue) = record { orders = queue.orders; replies = queue.replies; run = None }
thread_view (Runs handle) = away_with handle.promise.0.value
thread_view (Ran begun) = away_with begun

-- a thread went, where it has orders, with passes that were split off these, and else it has no replies
pub record IsGone (number : ℕ) (old : ThreadView) (pass : PassView) (publisher : PublisherView) (new : ThreadView) : Type 0 where
  pub orders : new.orders ≡ old.orders
  pub replies : new.replies ≡ []
  pub idle : length old.orders ≡ 0 → new.run ≡ None
  pub busy : 0 < length old.orders → new.run ≡ Some (record { region = split_off pass number; board = lent_from publisher })

-- a thread that was away with these passes came back: it did its orders, with these answers, and its pass of the region is the last one
-- of those that came back; what its pass of the board has read was published, is no older than what it was lent with, and is in order
pub record HasEnded (own : OwnPasses) (orders : List Order) (published : List Totals) (old new : List PassView) (replies : List Line) : Type 0 where
  pub pass : PassView
  pub passes : new ≡ old ++ pass ∷ []
  pub lock : pass.lock ≡ own.region.lock
  pub free : pass.turn ≡ None
  pub number : pass.number ≡ own.region.number
  pub made : List PlacedEntry
  pub seen : pass.seen ≡ own.region.seen ++ made
  pub answers : List Answer
  pub done : HasDone own.region.number orders answers (entries_by own.region.number (entries_of made))
  pub replies_are : replies ≡ map (reply_line own.region.number) answers
  pub published_before : All (Contains published) (totals_in answers)
  pub later : All (λ (t : Totals). own.board.from ≤ t.ordinal) (totals_in answers)
  pub order : NeverFall (totals_in answers)

-- a thread was waited for, where it was away, and else it is as it was
pub record IsBack (old : ThreadView) (published : List Totals) (passes now : List PassView) (new : ThreadView) : Type 0 where
  pub orders : new.orders ≡ old.orders
  pub here : new.run ≡ None
  pub idle : old.run ≡ None → (now ≡ passes) × (new.replies ≡ old.replies)
  pub away : (own : OwnPasses) → old.run ≡ Some own → HasEnded own old.orders published passes now new.replies

-- where the thread is away its pass of the board was lent by this one, and it has read nothing when it began
abbrev pub IsLentBy : TableId → ThreadView → Type 0
IsLentBy board thread = (own : OwnPasses) → thread.run ≡ Some own → (own.board.board ≡ board) × (own.board.read ≡ [])

-- ---- what is true between calls

-- the ordinal of the first of these totals, or of the last ones where there are none
abbrev pub first_ordinal : List Totals → Totals → ℕ
first_ordinal [] last = last.ordinal
first_ordinal (t ∷ since) last = t.ordinal

-- the thread's pass of the board was lent when the first of the totals since were the last ones
abbrev pub IsLentThen : ℕ → ThreadView → Type 0
IsLentThen first thread = (own : OwnPasses) → thread.run ≡ Some own → own.board.from ≡ first

-- a thread with this number is away where it has orders, and else it has no replies
pub record IsAtWork (number : ℕ) (thread : ThreadView) : Type 0 where
  pub idle : length thread.orders ≡ 0 → (thread.run ≡ None) × (thread.replies ≡ [])
  pub busy : 0 < length thread.orders → (own : OwnPasses) × (thread.run ≡ Some own) × (own.region.number ≡ number)

-- threads 1 to 8 are
abbrev pub AreAtWork : List ThreadView → Type 0
AreAtWork threads = (i : ℕ) (t : ThreadView) → i < 8 → IsAtWork (i + 1) (slice_index_or threads i t)

-- there are eight threads, and room for a pass of each; they are at work while they are away, and else their orders wait
pub record ThreadsAreHere (threads : List ThreadView) (awaiting away : Bool) (room : ℕ) : Type 0 where
  pub eight : length threads ≡ 8
  pub room_for_passes : 8 ≤ room
  pub none_away : away ≡ false → passes_of threads ≡ []
  pub at_work : away ≡ true → AreAtWork threads
  pub awaited : away ≡ true → awaiting ≡ true

-- the publisher is the board's, it published the totals since, and last those; and the threads that are away were lent their passes then
pub record IsPosted (board : TableId) (publisher : PublisherView) (since : List Totals) (threads : List ThreadView) : Type 0 where
  pub board_is : publisher.board ≡ board
  pub earlier : List Totals
  pub published : publisher.published ≡ earlier ++ posted since publisher.last
  pub lent : All (IsLentBy board) threads
  pub then_lent : All (IsLentThen (first_ordinal since publisher.last)) threads
