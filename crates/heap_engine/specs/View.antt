-- A heap as its callers see it.
use Rattle.std.specs.Prelude.{◌≡◌, ℕ, Bool, true, List, []}
use Rattle.gc_graph.specs.declared.line.Line.{Line}
use Rattle.gc_graph.specs.declared.region.Entry.{Entry}
use Rattle.gc_graph.specs.State.{Setup, State}
use Rattle.heap_cycle.specs.Note.{Note}
use Rattle.thread_queues.specs.Totals.{Totals}
use Rattle.heap_cycle.specs.Refused.{RefusalsTold, none_refused}

-- what the owner did with the items of lists with shares: the places that it took, those of the objects that it claimed, and markers that
-- it joined, those of the objects that it found traced, the notes that it made, and the places where it found no marked object
pub record Items : Type 0 where
  pub taken : List ℕ
  pub claimed : List ℕ
  pub found : List ℕ
  pub notes : List Note
  pub missed : List ℕ

-- what was set up, the state of the graph, whether each node is marked and whether it is traced, the region's history as far as
-- commands have taken it, the numbers of the passes of threads that aren't joined, the states since threads went last, the totals that
-- threads may read, the lines of the last outcome and the piece of the history that it took, how many pushes and notes were refused until now and until marking began, how
-- many seats are lent to markers, whether the owner's last pop and steal found nothing, what it did with items, and whether the heap
-- was closed
pub record View : Type 0 where
  pub setup : Setup
  pub state : State
  pub marked : List Bool
  pub traced : List Bool
  pub history : List Entry
  pub out : List ℕ
  pub since : List State
  pub published : Totals
  pub lines : List Line
  pub piece : List Entry
  pub refusals : RefusalsTold
  pub lent : ℕ
  pub idle : Bool
  pub items : Items
  pub closed : Bool

-- what a new heap tells of refusals: there were none
abbrev pub no_refusals : RefusalsTold
no_refusals = record { now = none_refused; since = none_refused }

-- the heap was closed: its markers and threads are joined, so that no seat is lent and no pass is out, and nothing else has changed but
-- what is known of marks, items and refusals
abbrev pub IsClosed : View → View → Type 0
IsClosed old new =
    new
    ≡ record old {
      closed = true;
      out = [];
      marked = new.marked;
      traced = new.traced;
      refusals = new.refusals;
      lent = 0;
      idle = new.idle;
      items = new.items;
    }
