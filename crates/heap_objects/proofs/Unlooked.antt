-- What is told of the words but for the headers that were looked at is true of the words.
use Rattle.std.proofs.Common.{ℕ, List, Bool}
use Rattle.gc_graph.specs.State.{Node}
use Rattle.mark_worklist.specs.declared.marking.Marking.{Marking}
use Rattle.page_words.specs.Seat.{SeatView, IsStill, IsQuiet, unlooked}
use Rattle.marker_crew.specs.Notes.{NotesState}
use Rattle.atomic_pause.specs.UnderWay.{IsUnderWay}
use Rattle.sweeper.specs.Sweeping.{IsClearBelow}
use Rattle.heap_objects.specs.Finalising.{IsSweptTo}
use Rattle.heap_objects.specs.Marks.{IsMayOf}

pub quiet_is : (v : SeatView) → IsQuiet (unlooked v) → IsQuiet v
quiet_is v x = record { off = x.off; marked = x.marked; traced = x.traced; dead = x.dead }

pub quiet_told : (v : SeatView) → IsQuiet v → IsQuiet (unlooked v)
quiet_told v x = record { off = x.off; marked = x.marked; traced = x.traced; dead = x.dead }

clear_is : (limit : ℕ) (v : SeatView) → IsClearBelow limit (unlooked v) → IsClearBelow limit v
clear_is limit v x = record { marked = x.marked; traced = x.traced; dead = x.dead }

clear_told : (limit : ℕ) (v : SeatView) → IsClearBelow limit v → IsClearBelow limit (unlooked v)
clear_told limit v x = record { marked = x.marked; traced = x.traced; dead = x.dead }

pub swept_is : (limit : ℕ) (v : SeatView) → IsSweptTo limit (unlooked v) → IsSweptTo limit v
swept_is limit v x = record { clear = clear_is limit v x.clear; judged = x.judged }

pub swept_told : (limit : ℕ) (v : SeatView) → IsSweptTo limit v → IsSweptTo limit (unlooked v)
swept_told limit v x = record { clear = clear_told limit v x.clear; judged = x.judged }

still_is : (v : SeatView) → IsStill (unlooked v) → IsStill v
still_is v x = record { no_hand = x.no_hand; no_pending = x.no_pending }

still_told : (v : SeatView) → IsStill v → IsStill (unlooked v)
still_told v x = record { no_hand = x.no_hand; no_pending = x.no_pending }

pub way_is : (v : SeatView) (m : Marking) (notes : NotesState) → IsUnderWay (unlooked v) m notes → IsUnderWay v m notes
way_is v m notes x = record {
  on = x.on;
  told = x.told;
  still = still_is v x.still;
  listed = x.listed;
  grey = x.grey;
  unshared = x.unshared;
  noted = x.noted;
  holders = x.holders;
  recorded = x.recorded;
}

pub way_told : (v : SeatView) (m : Marking) (notes : NotesState) → IsUnderWay v m notes → IsUnderWay (unlooked v) m notes
way_told v m notes x = record {
  on = x.on;
  told = x.told;
  still = still_told v x.still;
  listed = x.listed;
  grey = x.grey;
  unshared = x.unshared;
  noted = x.noted;
  holders = x.holders;
  recorded = x.recorded;
}

pub may_is : (nodes : List Node) (v : SeatView) (may : List Bool) → IsMayOf nodes (unlooked v) may → IsMayOf nodes v may
may_is nodes v may x = record { whole = x.whole; live = x.live; same = x.same }

pub may_told : (nodes : List Node) (v : SeatView) (may : List Bool) → IsMayOf nodes v may → IsMayOf nodes (unlooked v) may
may_told nodes v may x = record { whole = x.whole; live = x.live; same = x.same }
