-- An order waits, and totals are published.
use Rattle.std.proofs.Common.{◌≡◌, false, List, sym, ◌∙◌}
use Rattle.std.proofs.lemmas.Bool.{true≢false}
use Rattle.gc_graph.specs.declared.command.Order.{Order}
use Rattle.thread_queues.specs.Totals.{Totals}
use Rattle.heap_region.specs.declared.owned.OwnedRegion.TheInside.{Inside}
use Rattle.heap_region.proofs.Fields.{AreOwned}

pub has_queued : (r : Inside) (orders : List (List Order)) → AreOwned r → r.threads.awaiting ≡ false → r.closed ≡ false
    → AreOwned (record r { threads = record r.threads { queues = orders } })
has_queued r orders owned still opened = record {
  owner = owned.owner;
  holds = λ h held. (let is = owned.holds h held in record { all_seen = is.all_seen; all_taken = is.all_taken; joined = is.joined; tells = is.tells });
  outs = record { ready = owned.outs.ready; others = owned.outs.others; numbers = owned.outs.numbers; once = owned.outs.once; running = owned.outs.running };
  few = owned.few;
  ahead = owned.ahead;
  printed_few = owned.printed_few;
  shown_few = owned.shown_few;
  none_out = owned.none_out;
  none_run = owned.none_run;
  owners = owned.owners;
  started = λ awaits still_open. absurd (true≢false (sym awaits ∙ still));
  begun = λ shut. absurd (true≢false (sym shut ∙ opened));
}

pub has_posted : (r : Inside) (last : Totals) (since : List Totals) → AreOwned r → AreOwned (record r { threads = record r.threads { last = last; since = since } })
has_posted r last since owned = record {
  owner = owned.owner;
  holds = λ h held. (let is = owned.holds h held in record { all_seen = is.all_seen; all_taken = is.all_taken; joined = is.joined; tells = is.tells });
  outs = record { ready = owned.outs.ready; others = owned.outs.others; numbers = owned.outs.numbers; once = owned.outs.once; running = owned.outs.running };
  few = owned.few;
  ahead = owned.ahead;
  printed_few = owned.printed_few;
  shown_few = owned.shown_few;
  none_out = owned.none_out;
  none_run = owned.none_run;
  owners = owned.owners;
  started = λ awaits still_open. (let is = owned.started awaits still_open in record { away = is.away; all = is.all; seen = is.seen });
  begun = owned.begun;
}
