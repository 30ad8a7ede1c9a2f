use Rattle.std.proofs.Common.{◌≡◌, ◌+◌, ◌*◌, ◌<◌, length, refl, sym, ap, ◌∙◌, subst, arith}
use Rattle.gc_graph.specs.State.{Setup}
use Rattle.heap_roots.specs.Sweeping.{SweepView, cursor_at}
use Rattle.heap_cycle.specs.declared.parts.Parts.{Parts}
use Rattle.heap_roots.specs.Finalising.{AreFewTold}
use Rattle.heap_cycle.specs.Finalising.{IsSearched}
use Rattle.heap_cycle.specs.Parts.{state_of, unregistered}
use Rattle.heap_cycle.specs.Ties.{valid_nodes}
use Rattle.heap_roots.specs.Objects.{ObjectsView}
use Rattle.heap_cycle.proofs.SweepSteps.{still_open, marks_open}
use Rattle.heap_cycle.proofs.WayToPlace.{between_low, begins, page_made, page_ready, page_placed, page_goes_on}
use Rattle.heap_cycle.proofs.placement.sweep_until_found.Goals as goal

pub loop-page-init : goal.loop-page-init
loop-page-init c = record {
  way = begins (unregistered c.args.last c.args.parts.now) c.args.size c.args.finalised.now.items c.sweeps_go_by_pages.ensures.one c.requires.ready c.requires.empty c.requires.told
      c.requires.nowhere;
  cursor = sym c.swept_pages-page.ensures;
  grey = refl;
  registered = refl;
  weakly = refl;
  region = refl;
  room = refl;
}

pub sweep_page-requires-clause-rest : goal.sweep_page-requires-clause-rest
sweep_page-requires-clause-rest c =
    let mid : Parts = c.loop-page.parts in
    let pages : mid.objects.shape.pages ≡ c.args.parts.now.objects.shape.pages = ap (λ (st : Setup). st.shape.pages) c.loop-page.invariant.way.setup in
    let left : mid.cycle.sweep.cursor < mid.objects.shape.pages = omega (arith, pages, c.loop-page.invariant.cursor, c.loop-page-test.true, c.pages-page-end.ensures) in
    (marks_open (unregistered c.args.last mid) c.loop-page.invariant.way.ready (still_open (unregistered c.args.last mid) c.loop-page.invariant.way.ready left)).0

pub sweep_page-requires-clause-marks : goal.sweep_page-requires-clause-marks
sweep_page-requires-clause-marks c =
    let mid : Parts = c.loop-page.parts in
    let pages : mid.objects.shape.pages ≡ c.args.parts.now.objects.shape.pages = ap (λ (st : Setup). st.shape.pages) c.loop-page.invariant.way.setup in
    let left : mid.cycle.sweep.cursor < mid.objects.shape.pages = omega (arith, pages, c.loop-page.invariant.cursor, c.loop-page-test.true, c.pages-page-end.ensures) in
    (marks_open (unregistered c.args.last mid) c.loop-page.invariant.way.ready (still_open (unregistered c.args.last mid) c.loop-page.invariant.way.ready left)).1

pub sweep_page-requires-clause-valid : goal.sweep_page-requires-clause-valid
sweep_page-requires-clause-valid c = valid_nodes (unregistered c.args.last c.loop-page.parts) c.loop-page.invariant.way.ready

pub returns-in-Some-clause-placed : goal.returns-in-Some-clause-placed
returns-in-Some-clause-placed c =
    rw c.find.ensures.same
    (page_placed c.args.parts.now c.loop-page.parts c.sweep_page.new.objects c.sweep_page.new.self c.args.last c.args.size c.loop-page.page c.loop-page.finalised.items
    c.sweep_page.new.finalised.items c.loop-page.invariant.way c.loop-page.invariant.cursor (omega (arith, c.loop-page-test.true, c.pages-page-end.ensures)) c.sweep_page.ensures.swept
    c.sweeps_go_by_pages.ensures.join c.in-Some.place c.in-Some.ensures.found)

pub returns-in-Some-clause-ready : goal.returns-in-Some-clause-ready
returns-in-Some-clause-ready c =
    rw c.find.ensures.same
    (page_ready c.args.parts.now c.loop-page.parts c.sweep_page.new.objects c.sweep_page.new.self c.args.last c.args.size c.loop-page.page c.loop-page.finalised.items
    c.sweep_page.new.finalised.items c.loop-page.invariant.way c.loop-page.invariant.cursor (omega (arith, c.loop-page-test.true, c.pages-page-end.ensures)) c.sweep_page.ensures.swept
    c.step_keeps_valid.ensures c.shape_is_valid.ensures)

pub returns-in-Some-clause-told : goal.returns-in-Some-clause-told
returns-in-Some-clause-told c =
    rw c.find.ensures.same
    (subst (λ (st : Setup). AreFewTold st.shape (cursor_at st.shape c.sweep_page.new.self.sweep) c.sweep_page.new.objects.seat c.sweep_page.new.finalised.items)
    (sym c.sweep_page.ensures.swept.setup) c.sweep_page.ensures.told)

pub returns-in-Some-clause-swept : goal.returns-in-Some-clause-swept
returns-in-Some-clause-swept c =
    let new : ObjectsView = c.sweep_page.new.objects in
    let cursor : c.sweep_page.new.self.sweep.cursor ≡ c.loop-page.page + 1 =
    ap (λ (w : SweepView). w.cursor) c.sweep_page.ensures.swept.sweep ∙ ap (λ k. k + 1) c.loop-page.invariant.cursor in
    rw c.find.ensures.same
    (subst (λ k. c.in-Some.place < k * new.shape.page_words) (sym cursor)
    (between_low new.shape new c.args.size c.loop-page.page (c.loop-page.page + 1) c.in-Some.place c.in-Some.ensures.found.0 c.requires.some))

pub returns-in-Some-clause-made : goal.returns-in-Some-clause-made
returns-in-Some-clause-made c =
    ap (λ (x : ObjectsView). length x.nodes) c.find.ensures.same
    ∙ page_made c.args.parts.now c.loop-page.parts c.sweep_page.new.objects c.sweep_page.new.self c.args.last c.args.size c.loop-page.page c.loop-page.finalised.items
    c.sweep_page.new.finalised.items c.loop-page.invariant.way c.loop-page.invariant.cursor (omega (arith, c.loop-page-test.true, c.pages-page-end.ensures)) c.sweep_page.ensures.swept

pub loop-page-preserved : goal.loop-page-preserved
loop-page-preserved c =
    let cursor : c.sweep_page.new.self.sweep.cursor ≡ c.loop-page.parts.cycle.sweep.cursor + 1 = ap (λ (w : SweepView). w.cursor) c.sweep_page.ensures.swept.sweep in
    record {
      way = rw c.find.ensures.same
          (page_goes_on c.args.parts.now c.loop-page.parts c.sweep_page.new.objects c.sweep_page.new.self c.args.last c.args.size c.loop-page.page c.loop-page.finalised.items
          c.sweep_page.new.finalised.items c.loop-page.invariant.way c.loop-page.invariant.cursor (omega (arith, c.loop-page-test.true, c.pages-page-end.ensures)) c.sweep_page.ensures.swept
          c.step_keeps_valid.ensures c.sweeps_go_by_pages.ensures.join c.sweeps_go_by_pages.ensures.one c.shape_is_valid.ensures c.sweep_page.ensures.told c.in_default.ensures.none);
      cursor = omega (arith, cursor, c.loop-page.invariant.cursor);
      grey = ap (λ (o : ObjectsView). o.grey) c.find.ensures.same ∙ c.sweep_page.ensures.swept.grey ∙ c.loop-page.invariant.grey;
      registered = c.sweep_page.ensures.swept.registered ∙ c.loop-page.invariant.registered;
      weakly = c.sweep_page.ensures.swept.weakly ∙ c.loop-page.invariant.weakly;
      region = c.loop-page.invariant.region;
      room = c.sweep_page.ensures.room ∙ c.loop-page.invariant.room;
    }

pub returns-clause-searched : goal.returns-clause-searched
returns-clause-searched c =
    let s : Parts = c.args.parts.now in
    let mid : Parts = c.loop-page.parts in
    let all : mid.cycle.sweep.cursor ≡ s.objects.shape.pages =
    omega (arith, c.loop-page.invariant.cursor, c.loop-page-test.false, c.pages-page-end.ensures, c.loop-page.invariant.way.searched.within) in
    subst (λ k. IsSearched s.objects.shape (state_of (unregistered c.args.last s)) c.args.size k c.loop-page.finalised.items (state_of (unregistered c.args.last mid))) all
    c.loop-page.invariant.way.searched
