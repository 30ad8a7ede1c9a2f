use Rattle.std.proofs.Common.{refl, sym, ap, ◌∙◌}
use Rattle.page_words.specs.Markers.{MarkerSeatView}
use Rattle.mark_worklist.specs.Kept.{share-then}
use Rattle.marker_crew.proofs.Claiming.{stop_looks}
use Rattle.marker_crew.proofs.Shares.{found_none, then_found}
use Rattle.marker_crew.proofs.Working.{looks_not, looks_then}
use Rattle.marker_crew.proofs.taking.await_item.Goals as goal

pub loop-look-init : goal.loop-look-init
loop-look-init c = record {
  taken = c.next_item-found.ensures.taken;
  lists = c.next_item-found.ensures.lists;
  put = c.next_item-found.ensures.same.0;
  refused = c.next_item-found.ensures.same.1;
  looks = looks_not c.args.seat.now;
  hand = refl;
}

pub stopped-requires : goal.stopped-requires
stopped-requires c = record { heap = c.loop-look.invariant.looks.heap ∙ c.requires.heap }

pub loop-look-preserved : goal.loop-look-preserved
loop-look-preserved c =
    let none = found_none c.args.share.now c.loop-look.share c.loop-look.found (sym c.is_some.ensures ∙ c.if-is_some.false) c.loop-look.invariant.taken in
    record {
      taken = then_found c.args.share.now c.loop-look.share c.next_item-found-in-loop-look.new.share c.next_item-found-in-loop-look.result none.0 c.next_item-found-in-loop-look.ensures.taken;
      lists = share-then c.args.share.now c.loop-look.share c.next_item-found-in-loop-look.new.share c.loop-look.invariant.lists c.next_item-found-in-loop-look.ensures.lists;
      put = c.next_item-found-in-loop-look.ensures.same.0 ∙ c.loop-look.invariant.put;
      refused = c.next_item-found-in-loop-look.ensures.same.1 ∙ c.loop-look.invariant.refused;
      looks = looks_then c.args.seat.now c.loop-look.seat c.stopped.new.seat c.loop-look.invariant.looks
          (stop_looks c.loop-look.seat c.stopped.new.seat c.stopped.result c.stopped.ensures.view);
      hand = ap (λ (x : MarkerSeatView). x.hand) c.stopped.ensures.view ∙ c.loop-look.invariant.hand;
    }

pub returns-then-is_some-clause-taken : goal.returns-then-is_some-clause-taken
returns-then-is_some-clause-taken c = c.loop-look.invariant.taken

pub returns-then-stopped-clause-taken : goal.returns-then-stopped-clause-taken
returns-then-stopped-clause-taken c =
    found_none c.args.share.now c.loop-look.share c.loop-look.found (sym c.is_some.ensures ∙ c.if-is_some.false) c.loop-look.invariant.taken

pub returns-then-stopped-clause-looks : goal.returns-then-stopped-clause-looks
returns-then-stopped-clause-looks c =
    looks_then c.args.seat.now c.loop-look.seat c.stopped.new.seat c.loop-look.invariant.looks
    (stop_looks c.loop-look.seat c.stopped.new.seat c.stopped.result c.stopped.ensures.view)

pub returns-clause-taken : goal.returns-clause-taken
returns-clause-taken c = c.loop-look.invariant.taken
