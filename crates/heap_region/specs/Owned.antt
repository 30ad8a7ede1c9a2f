-- The region as its owner has it: what the owner has taken of the history, and the script's threads.
use Rattle.std.specs.Prelude.{ℕ, ◌-◌, Bool, false, List, [], length, take, drop, replicate, ⊤}
use Rattle.gc_graph.specs.declared.command.Order.{Order}
use Rattle.gc_graph.specs.declared.line.Line.{Line}
use Rattle.gc_graph.specs.declared.line.Line.TheVariants as L
use Rattle.gc_graph.specs.declared.region.Entry.{Entry}
use Rattle.gc_graph.specs.RegionSteps.{Answer, HasDone, entries_by}
use Rattle.gc_graph.specs.State.{State}
use Rattle.cross_thread_region.specs.declared.chronicle.PlacedEntry.{PlacedEntry}
use Rattle.cross_thread_region.specs.Histories.{entries_of, slots_of}
use Rattle.thread_queues.specs.Boards.{zeros}
use Rattle.thread_queues.specs.Queues.{queue_in}
use Rattle.thread_queues.specs.Totals.{Totals}

-- what the owner has taken of the history; the numbers of the passes that are out; the orders that wait for each thread, which
-- threads run, and whether a join is awaited; the totals published last, with those published since the threads went, from the last ones
-- before they went; how many of the entries joins have told; the lines that the last command tells before its last one, where it was a
-- join; and whether the region was closed
pub record OwnedView : Type 0 where
  pub taken : List PlacedEntry
  pub out : List ℕ
  pub queues : List (List Order)
  pub running : List ℕ
  pub awaiting : Bool
  pub last : Totals
  pub since : List Totals
  pub printed : ℕ
  pub told : List Line
  pub closed : Bool

-- nothing was made, and no order waits
abbrev pub nothing_owned : OwnedView
nothing_owned = record {
  taken = [];
  out = [];
  queues = replicate 8 [];
  running = [];
  awaiting = false;
  last = zeros;
  since = [];
  printed = 0;
  told = [];
  closed = false;
}

-- the entries that were taken and that no join has told yet
abbrev pub untold_of : OwnedView → List Entry
untold_of v = entries_of (drop v.printed v.taken)

-- the state with what the region holds of it
abbrev pub with_region : OwnedView → State → State
with_region v s = record s {
  region = slots_of v.taken;
  queues = v.queues;
  running = v.running;
  awaiting = v.awaiting;
  unprinted = untold_of v;
}

-- the entries that were taken from one moment to a later one
abbrev pub piece_of : OwnedView → OwnedView → List Entry
piece_of before after = entries_of (drop (length before.taken) after.taken)

-- what a call found before its own entry, which is the last one
abbrev pub found_of : OwnedView → List PlacedEntry
found_of v = take (length v.taken - 1) v.taken

-- a thread has done the first of its orders: these are its entries, as far as they were taken and no join has told them
abbrev pub HasBegun : OwnedView → ℕ → Type 0
HasBegun v j = (n : ℕ) × (answers : List Answer) × HasDone j (take n (queue_in v.queues j)) answers (entries_by j (untold_of v))

-- a line that a join tells before its last one: a reply, or an entry
abbrev pub IsToldLine : Line → Type 0
IsToldLine (L.Reply j reply) = ⊤
IsToldLine (L.ReplyTotals j o n u f) = ⊤
IsToldLine (L.Entry entry) = ⊤
IsToldLine _ = ⊥
