-- What the crate's own code cites: one order done, those of one thread, and the passes with which threads do them.
use Rattle.std.specs.Prelude.{◌≡◌, ◌≢◌, ◌<◌, ℕ, nat_lt, List, [], ◌∷◌, ◌++◌, length, map, reverse, All, if◌then◌else◌}
use Rattle.gc_graph.specs.declared.command.Order.{Order}
use Rattle.gc_graph.specs.declared.line.Line.{Line}
use Rattle.gc_graph.specs.RegionSteps.{Answer, AnswersOrder, HasDone, entries_by, entry_of, op_of, reply_line}
use Rattle.gc_graph.specs.RegionSteps.Answer.{Replied, Told}
use Rattle.cross_thread_region.specs.declared.chronicle.PlacedEntry.{PlacedEntry}
use Rattle.cross_thread_region.specs.Histories.{entries_of}
use Rattle.cross_thread_region.specs.Calls.{RegionView, PassView, IsPassReady}
use Rattle.heap_stats.specs.Boards.{ReaderView}
use Rattle.heap_stats.specs.declared.totals.Totals.{Totals}
use Rattle.thread_queues.specs.declared.working.OwnPasses.{OwnPasses}
use Rattle.thread_queues.specs.Going.{Descend}

-- the totals that an answer tells
abbrev pub totals_of : Answer → List Totals
totals_of (Replied reply) = []
totals_of (Told o n u f) = record { ordinal = o; objects = n; used = u; finalised = f } ∷ []

-- the totals that answers tell, in order
abbrev pub totals_in : List Answer → List Totals
totals_in [] = []
totals_in (answer ∷ answers) = totals_of answer ++ totals_in answers

-- the pass of the board has read these totals too
pub record IsReadOn (old new : ReaderView) : Type 0 where
  pub rest : new ≡ record old { seen = new.seen; read = new.read }

-- thread j has done an order, and the line tells how it was answered: its pass has seen its entry, and those of others, and its pass of
-- the board has read what it was told
pub record OrderDone (j : ℕ) (order : Order) (before after : OwnPasses) (line : Line) : Type 0 where
  pub made : List PlacedEntry
  pub seen : after.region.seen ≡ before.region.seen ++ made
  pub answer : Answer
  pub answers_order : AnswersOrder (op_of order) answer
  pub entries : entries_by j (entries_of made) ≡ entry_of j (op_of order) answer
  pub line_is : line ≡ reply_line j answer
  pub read : after.board.read ≡ before.board.read ++ totals_of answer

-- thread j has done its orders, and these replies tell how they were answered: its pass has seen its entries, and those of others, and
-- its pass of the board has read what it was told
pub record ThreadDone (j : ℕ) (orders : List Order) (before after : OwnPasses) (replies : List Line) : Type 0 where
  pub made : List PlacedEntry
  pub seen : after.region.seen ≡ before.region.seen ++ made
  pub answers : List Answer
  pub done : HasDone j orders answers (entries_by j (entries_of made))
  pub replies_are : replies ≡ map (reply_line j) answers
  pub read : after.board.read ≡ before.board.read ++ totals_in answers

-- ---- passes

-- the pass has this number, and may call a region of 32 slots
pub record IsOwn (region : RegionView) (pass : PassView) (number : ℕ) : Type 0 where
  pub ready : IsPassReady region pass
  pub slots : region.slots ≡ 32
  pub number_is : pass.number ≡ number

-- calls may be made with these passes, none is the first one, and the numbers that the first one has out are theirs, the last one
-- first, each once
pub record HasOut (region : RegionView) (pass : PassView) (passes : List PassView) : Type 0 where
  pub ready : All (IsPassReady region) passes
  pub others : All (λ (p : PassView). p.number ≢ 0) passes
  pub numbers : pass.out ≡ reverse (map (λ (p : PassView). p.number) passes)
  pub once : Descend pass.out

-- the passes that are out are of threads before this one
pub record HasOutBelow (region : RegionView) (pass : PassView) (passes : List PassView) (thread : ℕ) : Type 0 where
  pub out : HasOut region pass passes
  pub low : All (λ n. n < thread) pass.out

-- the numbers that are out after a thread went: its own too, where it has orders
abbrev pub out_after : ℕ → List Order → List ℕ → List ℕ
out_after thread orders out = if nat_lt 0 (length orders) then thread ∷ out else out
