-- What calls of the owner make of the region: each takes the entries that it finds, and then its own, which is the last one.
use Rattle.std.specs.Prelude.{◌≡◌, ℕ, ◌≤◌, false, true, List, [], ◌++◌, length, map, All, Contains}
use Rattle.std.specs.List.{flat_map}
use Rattle.gc_graph.specs.declared.line.Line.TheVariants as L
use Rattle.gc_graph.specs.declared.region.Entry.{Entry}
use Rattle.gc_graph.specs.declared.region.Op.{Op}
use Rattle.gc_graph.specs.declared.region.Op.TheVariants as O
use Rattle.gc_graph.specs.History.{IsLegalFrom, NamesWeakSlots}
use Rattle.gc_graph.specs.Outcomes.{IsThreadOp}
use Rattle.gc_graph.specs.Pause.{dying_slots}
use Rattle.gc_graph.specs.RegionSteps.{Answer, HasDone, entries_by, reply_line}
use Rattle.gc_graph.specs.State.{Node}
use Rattle.cross_thread_region.specs.declared.chronicle.PlacedEntry.{PlacedEntry}
use Rattle.cross_thread_region.specs.Calls.{Begins, history_with_own}
use Rattle.cross_thread_region.specs.Histories.{entries_of, is_started, slots_of}
use Rattle.gc_graph.specs.Lawful.{TotalsNeverFall}
use Rattle.thread_queues.specs.Going.{TellSomeOf}
use Rattle.thread_queues.specs.Queues.{posted, queue_in, queues_left, threads_in}
use Rattle.thread_queues.specs.Totals.{Totals}
use Rattle.heap_region.specs.Owned.{OwnedView, found_of, untold_of}

-- what a call finds behind what was taken: orders of threads that run, whose passes are out, and which are legal there; and no more was
-- told than was taken
pub record IsFound (old : OwnedView) (others : List PlacedEntry) : Type 0 where
  pub outs : All (λ (p : PlacedEntry). Contains old.out p.entry.thread) others
  pub orders : All (λ (e : Entry). Contains old.running e.thread × IsThreadOp e.op) (entries_of others)
  pub legal : IsLegalFrom (slots_of old.taken) (is_started old.taken) (entries_of others)
  pub told : old.printed ≤ length old.taken

-- the owner's entry was made behind what was found, with the reply of a region of one thread, and all of it was taken
pub record HasEntered (op : Op) (place : ℕ) (old new : OwnedView) : Type 0 where
  pub others : List PlacedEntry
  pub found : IsFound old others
  pub taken : new.taken ≡ history_with_own (old.taken ++ others) op place
  pub rest : new ≡ record old { taken = new.taken }

-- so was a pause's, which clears exactly the weak slots that name one of the dead nodes, as the slots were just before it
pub record HasPauseEntry (nodes : List Node) (old new : OwnedView) : Type 0 where
  pub entry : HasEntered (O.Pause (dying_slots nodes (slots_of (found_of new)))) 0 old new
  pub weak : NamesWeakSlots (dying_slots nodes (slots_of (found_of new))) (slots_of (found_of new))

-- these totals were published
abbrev pub HasPublished : OwnedView → Totals → OwnedView → Type 0
HasPublished old totals new = new ≡ record old { last = totals; since = posted old.since old.last }

-- the threads that have orders went
abbrev pub HaveGoneOut : OwnedView → OwnedView → Type 0
HaveGoneOut old new = new ≡ record old { running = threads_in old.queues; awaiting = true; since = []; out = new.out }

-- the threads that ran were joined, and all that they have done was taken: each did its orders, with these answers, and the join tells
-- the answers, thread after thread, and then the entries that none has told; totals are some of those published since the threads went,
-- from the last ones before, and those of one thread never get older
pub record HasJoined (old new : OwnedView) (count : ℕ) : Type 0 where
  pub others : List PlacedEntry
  pub found : IsFound old others
  pub taken : new.taken ≡ old.taken ++ others
  pub answers : ℕ → List Answer
  pub done :
      (j : ℕ) → Contains old.running j
      → HasDone j (queue_in old.queues j) (answers j) (entries_by j (untold_of (record old { taken = new.taken })))
  pub told :
      new.told
      ≡ flat_map (λ j. map (reply_line j) (answers j)) old.running
      ++ map (λ entry. L.Entry entry) (untold_of (record old { taken = new.taken }))
  pub totals : TellSomeOf (posted old.since old.last) new.told
  pub fall : TotalsNeverFall new.told
  pub count_is : count ≡ length old.running
  pub rest :
      new
      ≡ record old {
        taken = new.taken;
        out = [];
        queues = queues_left old.queues old.running;
        running = [];
        awaiting = false;
        printed = length new.taken;
        told = new.told;
      }

-- a command of the owner took entries of the history, or none, and changed nothing else
pub record TakesMore (old new : OwnedView) : Type 0 where
  pub begins : Begins old.taken new.taken
  pub rest : new ≡ record old { taken = new.taken }
