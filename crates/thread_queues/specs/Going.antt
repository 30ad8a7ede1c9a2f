-- What comes of the orders of threads that go.
use Rattle.std.specs.Prelude.{◌≡◌, ◌≢◌, ◌<◌, ℕ, List, [], ◌∷◌, ◌++◌, map, reverse, All, Contains, ⊤}
use Rattle.std.specs.List.{flat_map}
use Rattle.gc_graph.specs.declared.command.Order.{Order}
use Rattle.gc_graph.specs.declared.line.Line.{Line}
use Rattle.gc_graph.specs.declared.line.Line.TheVariants as L
use Rattle.gc_graph.specs.RegionSteps.{Answer, HasDone, entries_by, reply_line}
use Rattle.cross_thread_region.specs.declared.chronicle.PlacedEntry.{PlacedEntry}
use Rattle.cross_thread_region.specs.Histories.{entries_of}
use Rattle.cross_thread_region.specs.Calls.{RegionView, PassView, IsPassReady, named}
use Rattle.cross_thread_region.specs.Own.{entries_naming}
use Rattle.heap_stats.specs.declared.totals.Totals.{Totals}
use Rattle.thread_queues.specs.Queues.{QueuesView, queue_in, threads_in}

-- the pass is the first one, and may call a region of 32 slots
pub record IsFirst (region : RegionView) (pass : PassView) : Type 0 where
  pub ready : IsPassReady region pass
  pub first : pass.number ≡ 0
  pub slots : region.slots ≡ 32

-- each number is greater than those behind it
abbrev pub Descend : List ℕ → Type 0
Descend [] = ⊤
Descend (n ∷ numbers) = All (λ m. m < n) numbers × Descend numbers

-- the passes of the threads that are away are out: they began as passes with which calls may be made, none is the first one, and the
-- numbers that the first one has out are theirs, the last one first, each once and of a thread that runs
pub record AreOut (region : RegionView) (pass : PassView) (queues : QueuesView) : Type 0 where
  pub ready : All (IsPassReady region) queues.passes
  pub others : All (λ (p : PassView). p.number ≢ 0) queues.passes
  pub numbers : pass.out ≡ reverse (map (λ (p : PassView). p.number) queues.passes)
  pub once : Descend pass.out
  pub running : All (Contains queues.running) pass.out

-- each thread that has orders went with a pass of its own, and each such pass has seen just this
pub record HaveBegun (queues : List (List Order)) (base : List PlacedEntry) (passes : List PassView) : Type 0 where
  pub each : (j : ℕ) → Contains (threads_in queues) j → (p : PassView) × Contains passes p × (p.number ≡ j)
  pub seen : All (λ (p : PassView). p.seen ≡ base) passes

-- among these passes there is one of thread j: behind these entries it has seen those that the thread made of its orders, which were
-- answered so, and those of others
pub record HasDoneWith (passes : List PassView) (base : List PlacedEntry) (j : ℕ) (orders : List Order) (answers : List Answer) : Type 0 where
  pub pass : PassView
  pub among : Contains passes pass
  pub number_is : pass.number ≡ j
  pub made : List PlacedEntry
  pub seen : pass.seen ≡ base ++ made
  pub done : HasDone j orders answers (entries_by j (entries_of made))

-- among the passes with which threads began there is one of thread j, which did its orders, and came back with one of these
pub record IsBackWith (starts ends : List PassView) (j : ℕ) (orders : List Order) (answers : List Answer) : Type 0 where
  pub start : PassView
  pub began : Contains starts start
  pub number_is : start.number ≡ j
  pub done : HasDoneWith ends start.seen j orders answers

-- the threads have done the orders of their queues with these answers, and came back with these passes; the replies tell the answers,
-- thread after thread
pub record AreBack (queues : List (List Order)) (starts ends : List PassView) (replies : List Line) : Type 0 where
  pub answers : ℕ → List Answer
  pub done : (j : ℕ) → Contains (threads_in queues) j → IsBackWith starts ends j (queue_in queues j) (answers j)
  pub replies_are : replies ≡ flat_map (λ j. map (reply_line j) (answers j)) (threads_in queues)

-- the passes were joined to this one: it has seen more by these entries, which name passes that were out, and of each pass's entries
-- just those that the pass had seen
pub record HaveMet (passes : List PassView) (pass : PassView) (seen : List PlacedEntry) : Type 0 where
  pub rest : List PlacedEntry
  pub grown : seen ≡ pass.seen ++ rest
  pub outs : All (λ (p : PlacedEntry). Contains pass.out p.entry.thread) rest
  pub met : (p : PassView) → Contains passes p → entries_naming named p.number seen ≡ entries_naming named p.number p.seen

-- the threads that were away have done their orders, and their passes were joined to this one, which has seen this
pub record HaveReturned (old : QueuesView) (pass : PassView) (seen : List PlacedEntry) (replies : List Line) : Type 0 where
  pub ends : List PassView
  pub back : AreBack old.queues old.passes ends replies
  pub met : HaveMet ends pass seen

-- each line of totals tells some of these
abbrev pub TellSomeOf : List Totals → List Line → Type 0
TellSomeOf totals lines =
    (j o n u f : ℕ) → Contains lines (L.ReplyTotals j o n u f) → Contains totals (record { ordinal = o; objects = n; used = u; finalised = f })
