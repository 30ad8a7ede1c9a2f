-- How a heap's fields are seen, and what is true of them.
use Rattle.std.specs.Prelude.{◌≡◌, ◌⊎◌, ◌*◌, ◌-◌, ◌^◌, ◌≤◌, true, false, [], ◌++◌, None, length, drop, All}
use Rattle.gc_graph.specs.ThreadLaw.{IsCounted}
use Rattle.marker_core.specs.Bodies.{holds}
use Rattle.heap_cycle.specs.Pages.{word_count}
use Rattle.heap_cycle.specs.Seat.{SeatView}
use Rattle.cross_thread_region.specs.Histories.{entries_of}
use Rattle.heap_cycle.specs.PlacesInWords.{kept_of}
use Rattle.heap_cycle.specs.Families.{at}
use Rattle.heap_cycle.specs.Shares.{taken_by_share}
use Rattle.heap_cycle.specs.Marking.{GreyView}
use Rattle.heap_cycle.specs.Objects.{refusals_told_of}
use Rattle.heap_engine.specs.declared.heap_core.Core.TheInside.{Inside}
use Rattle.heap_engine.specs.View.{Items, View}
use Rattle.heap_cycle.specs.Printed.{outcome_lines, IsOutcome}
use Rattle.heap_cycle.specs.Parts.{setup_of, state_of, IsManned, IsReady}
use Rattle.heap_cycle.specs.Region.{HasRegion}
use Rattle.heap_cycle.specs.Owned.{IsToldLine}
use Rattle.heap_engine.specs.CarriedOut.{IsOfJoin}
use Rattle.heap_engine.specs.Going.{ArePublished}

-- what the owner did with the items of lists with shares
abbrev pub items_of : SeatView → GreyView → Items
items_of v g = record {
  taken = taken_by_share (at g.marking.list.shares 0);
  claimed = v.traced;
  found = g.found;
  notes = g.notes.notes;
  missed = v.missed;
}

-- a heap as its callers see it
abbrev pub view_of : Inside → View
view_of h = record {
  setup = setup_of h.parts;
  state = state_of h.parts;
  marked = kept_of (holds h.parts.objects.seat.marked) h.parts.objects.nodes;
  traced = kept_of (holds h.parts.objects.seat.traced) h.parts.objects.nodes;
  history = entries_of h.parts.region.taken;
  out = h.parts.region.out;
  since = h.since.value;
  published = h.parts.region.last;
  lines = h.parts.region.told ++ outcome_lines h.outcome h.parts.cycle.ran;
  piece = entries_of (drop (length h.before.value) h.parts.region.taken);
  refusals = refusals_told_of h.parts.objects;
  lent = h.parts.objects.seat.lent;
  idle = h.parts.objects.grey.marking.list.idle;
  items = items_of h.parts.objects.seat h.parts.objects.grey;
  closed = h.closed;
}

-- while the heap isn't closed the parts are ready, with the markers that ought to run, and the region belongs to them; once it is closed
-- no marker runs, no seat is lent and no pass is out; the board has the totals of the state, and had those of each one since the threads went; the lines that a
-- join told are replies and entries, behind which the outcome has its last line alone; the outcome is one of a command, without whose
-- last line nothing is told, and has room for all nodes that a sweep can finalise; and what is counted stays within bounds
pub record IsSound (h : Inside) : Type 0 where
  pub ready : h.closed ≡ false → IsReady h.parts
  pub manned : h.closed ≡ false → IsManned h.parts
  pub region : h.closed ≡ false → HasRegion h.parts
  pub joined_at_last : h.closed ≡ true → (h.parts.objects.grey.running ≡ []) × (h.parts.objects.seat.lent ≡ 0) × (h.parts.region.out ≡ [])
  pub most : h.parts.cycle.rest.ordinal ≤ 2 ^ 64 - 1
  pub made : length h.parts.objects.nodes ≤ h.parts.cycle.rest.ordinal
  pub none_out : h.parts.region.awaiting ≡ false → h.parts.region.out ≡ []
  pub board : ArePublished h.since.value (state_of h.parts) h.parts.region
  pub replies : All IsToldLine h.parts.region.told
  pub joined : (h.parts.region.told ≡ []) ⊎ IsOfJoin h.outcome
  pub counted : IsCounted (state_of h.parts)
  pub told : IsOutcome h.outcome h.parts.cycle.ran
  pub untold : h.outcome.last ≡ None → h.parts.region.told ++ outcome_lines h.outcome h.parts.cycle.ran ≡ []
  pub room : word_count h.parts.objects.shape ≤ 2 * h.outcome.room
