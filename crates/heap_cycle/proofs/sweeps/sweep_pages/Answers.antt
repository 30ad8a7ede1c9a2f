use Rattle.std.proofs.Common.{◌≡◌, ℕ, ◌+◌, ◌-◌, ◌<◌, ◌≤◌, [], length, refl, sym, ap, ◌∙◌, subst, arith}
use Rattle.std.proofs.Math.Nat.{min-le_right}
use Rattle.gc_graph.specs.declared.phase.Phase.TheVariants.{Sweeping}
use Rattle.gc_graph.specs.Shapes.{IsShape}
use Rattle.gc_graph.specs.State.{Setup, State, Shape}
use Rattle.gc_graph.specs.Sweep.{SweepsTo}
use Rattle.heap_roots.specs.Pages.{word_count}
use Rattle.heap_roots.specs.Sweeping.{SweepView, cursor_at}
use Rattle.heap_cycle.specs.declared.parts.Parts.{Parts}
use Rattle.heap_cycle.specs.Finalising.{SweepsOn}
use Rattle.heap_roots.specs.Finalising.{AreFewTold}
use Rattle.heap_cycle.specs.Parts.{state_of}
use Rattle.heap_cycle.specs.Ties.{manned_grey, valid_nodes}
use Rattle.heap_cycle.proofs.SweepSteps.{parts_sweep, parts_ready, still_open, sweep_joined, nothing_swept}
use Rattle.heap_cycle.proofs.sweeps.sweep_pages.Goals as goal

-- in the loop a page is left
page_left : (c : goal.After-sweep_page) → c.loop-page.parts.cycle.sweep.cursor < c.loop-page.parts.objects.shape.pages
page_left c =
    let pages : c.loop-page.parts.objects.shape.pages ≡ c.args.parts.now.objects.shape.pages = ap (λ (st : Setup). st.shape.pages) c.loop-page.invariant.setup in
    let left : c.min-page-end.result ≤ c.pages.result - c.swept_pages.result = omega (arith, c.min-page-end.ensures, min-le_right c.args.n (c.pages.result - c.swept_pages.result)) in
    omega (arith, pages, left, c.loop-page-test.true, c.loop-page.invariant.cursor, c.swept_pages.ensures, c.pages.ensures)

pub loop-page-init : goal.loop-page-init
loop-page-init c =
    let s : Parts = c.args.parts.now in
    record {
      ready = c.requires.ready;
      goes = nothing_swept s c.args.finalised.now.items c.requires.ready c.requires.empty;
      cursor = omega arith;
      told = omega (arith, ap length c.requires.empty, c.dead_are_few.ensures (cursor_at s.objects.shape s.cycle.sweep) (word_count s.objects.shape));
      grey = refl;
      setup = refl;
      ordinal = refl;
      region = refl;
      room = refl;
    }

pub sweep_page-requires-clause-valid : goal.sweep_page-requires-clause-valid
sweep_page-requires-clause-valid c = valid_nodes c.loop-page.parts c.loop-page.invariant.ready

pub loop-page-preserved : goal.loop-page-preserved
loop-page-preserved c =
    let s : Parts = c.args.parts.now in
    let mid : Parts = c.loop-page.parts in
    let t : Parts = record mid { objects = c.sweep_page.new.objects; cycle = c.sweep_page.new.self } in
    let next : ℕ = mid.cycle.sweep.cursor + 1 in
    let is = c.sweep_page.ensures.swept in
    let shape : mid.objects.shape ≡ s.objects.shape = ap (λ (st : Setup). st.shape) c.loop-page.invariant.setup in
    let cursor : t.cycle.sweep.cursor ≡ next = ap (λ (w : SweepView). w.cursor) is.sweep in
    let left : mid.cycle.sweep.cursor < mid.objects.shape.pages = page_left c in
    let sweeping : mid.cycle.phase ≡ Sweeping = still_open mid c.loop-page.invariant.ready left in
    let goes : SweepsTo s.objects.shape (state_of mid) next is.nodes.numbers (state_of t) =
    subst (λ (sh : Shape). SweepsTo sh (state_of mid) next is.nodes.numbers (state_of t)) shape
    (parts_sweep mid t.objects t.cycle next c.loop-page.finalised.items c.sweep_page.new.finalised.items sweeping is) in
    record {
      ready = parts_ready mid t.objects t.cycle next c.loop-page.finalised.items c.sweep_page.new.finalised.items c.step_keeps_valid.ensures
          (subst IsShape (sym shape) c.shape_is_valid.ensures) c.loop-page.invariant.ready sweeping (omega arith) (omega (arith, left)) is;
      goes = subst (λ k. SweepsOn s.objects.shape (state_of s) k [] c.sweep_page.new.finalised.items (state_of t)) (sym cursor)
          (sweep_joined s.objects.shape (state_of s) (state_of mid) (state_of t) mid.cycle.sweep.cursor next c.loop-page.finalised.items c.sweep_page.new.finalised.items is.nodes.numbers
          c.sweeps_go_by_pages.ensures.join c.loop-page.invariant.goes (omega arith) (omega (arith, left, ap (λ (sh : Shape). sh.pages) shape)) goes is.nodes.follow);
      cursor = omega (arith, cursor, c.loop-page.invariant.cursor);
      told = subst (λ (st : Setup). AreFewTold st.shape (cursor_at st.shape t.cycle.sweep) t.objects.seat c.sweep_page.new.finalised.items) (sym is.setup) c.sweep_page.ensures.told;
      grey = is.grey ∙ c.loop-page.invariant.grey;
      setup = is.setup ∙ c.loop-page.invariant.setup;
      ordinal = ap (λ (st : State). st.ordinal) is.rest ∙ c.loop-page.invariant.ordinal;
      region = c.loop-page.invariant.region;
      room = c.sweep_page.ensures.room ∙ c.loop-page.invariant.room;
    }

pub returns-clause-manned : goal.returns-clause-manned
returns-clause-manned c =
    manned_grey c.args.parts.now c.loop-page.parts c.requires.ready.tied c.loop-page.invariant.ready.tied c.loop-page.invariant.grey
