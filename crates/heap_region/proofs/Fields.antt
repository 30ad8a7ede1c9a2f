-- The fields of the region of a heap.
use Rattle.std.specs.Prelude.{ℕ, Bool, Option, is_some}
use Rattle.std.specs.Arc.{arc_value}
use Rattle.cross_thread_region.specs.Calls.{HeldView, PassView}
use Rattle.thread_queues.specs.Queues.{QueuesView}
use Rattle.heap_region.specs.declared.owned.OwnedRegion.TheInside.{Inside}
use Rattle.heap_region.specs.Inside.{IsOwned, lines_told, taken_of}
use Rattle.heap_region.specs.Owned.{OwnedView}

-- what is true of them between two calls
abbrev pub AreOwned : Inside → Type 0
AreOwned r = IsOwned (arc_value r.region) r.pass r.threads r.held r.taken r.printed r.shown r.closed

-- the region that values of fields are
abbrev pub view_of_fields : PassView → QueuesView → Option HeldView → ℕ → ℕ → ℕ → Bool → OwnedView
view_of_fields pass queues held taken printed shown closed = record {
  taken = taken_of pass taken;
  out = pass.out;
  queues = queues.queues;
  running = queues.running;
  awaiting = queues.awaiting;
  last = queues.last;
  since = queues.since;
  printed = printed;
  told = lines_told (is_some held) queues.replies shown (taken_of pass taken);
  closed = closed;
}

-- the region that the fields are
abbrev pub owned_view : Inside → OwnedView
owned_view r = view_of_fields r.pass r.threads r.held r.taken r.printed r.shown r.closed

-- the fields after a call of the owner
abbrev pub called_fields : Inside → PassView → ℕ → Inside
called_fields r passed taken = record r { pass = passed; taken = taken }
