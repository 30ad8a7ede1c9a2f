-- An open sweep that goes on is a step of the graph, and leaves the parts ready; and a sweep of all pages begins.
use Rattle.std.proofs.Common.{◌≡◌, ℕ, ◌+◌, ◌-◌, ◌*◌, ◌<◌, ◌≤◌, List, [], ◌∷◌, ◌++◌, length, map, refl, sym, ap, ◌∙◌, subst, inl, inr, arith, cond, eqb}
use Rattle.std.specs.Prelude.{MatchBool, min}
use Rattle.std.proofs.lemmas.Bool.{cases_Bool, eqb-true}
use Rattle.std.proofs.lemmas.List.{length-map}
use Rattle.std.proofs.Math.Nat.{min-eq_left}
use Rattle.gc_graph.specs.declared.command.Command.TheVariants as C
use Rattle.gc_graph.specs.declared.line.Line.{Line}
use Rattle.gc_graph.specs.declared.line.Line.TheVariants as L
use Rattle.gc_graph.specs.declared.line.Refusal.TheVariants as R
use Rattle.gc_graph.specs.declared.phase.Phase.{Phase}
use Rattle.gc_graph.specs.declared.phase.Phase.TheVariants.{Idle, Marking, Sweeping}
use Rattle.gc_graph.specs.Shapes.{IsShape}
use Rattle.gc_graph.specs.State.{Shape, Setup, State, Node}
use Rattle.gc_graph.specs.CycleSteps.{is_sweeping, HasSwept, StepSweep}
use Rattle.gc_graph.specs.Outcomes.{answered, finalise_lines, IsRefused}
use Rattle.gc_graph.specs.Sweep.{finalise, pages_swept_in, phase_at, SweepsInPhase, SweepsTo}
use Rattle.gc_graph.specs.SweepLaw.{SweepsJoin}
use Rattle.gc_graph.specs.Valid.{IsValid, IsSettled, HasMay}
use Rattle.gc_graph.specs.ValidLaw.{StepKeepsValid}
use Rattle.callback_table.specs.declared.registry.Registered.{Registered}
use Rattle.callback_table.specs.Registry.{registrations_of}
use Rattle.heap_roots.specs.Sweeping.{SweepView, cursor_at}
use Rattle.heap_roots.specs.Owned.{with_region}
use Rattle.heap_cycle.specs.Changes.{SweepsParts}
use Rattle.heap_roots.specs.Finalising.{IsSweptTo}
use Rattle.heap_roots.specs.Marking.{GreyView}
use Rattle.heap_roots.specs.Marks.{ObjectsAreAtRest, HasMarks}
use Rattle.heap_cycle.specs.Finalising.{SweepsOn}
use Rattle.heap_roots.specs.Objects.{HaveCallbacks, ObjectsView, StaysAt, setup_of_objects}
use Rattle.heap_roots.specs.PlacesInWords.{BodiesAreJudged}
use Rattle.heap_cycle.specs.declared.parts.Parts.{Parts}
use Rattle.heap_cycle.specs.Views.{CycleView, IsSweepOf}
use Rattle.heap_cycle.specs.Parts.{setup_of, state_of, IsReady}
use Rattle.heap_roots.specs.SweptNodes.{place-finalised, size-finalised, holders-finalised}
use Rattle.heap_cycle.proofs.PlacementSteps.{sweeps_nothing}
use Rattle.heap_cycle.specs.Ties.{tied_nodes}

-- the parts put together are the state that the sweep comes to
pub parts_sweep : (s : Parts) (new : ObjectsView) (after : CycleView) (pages : ℕ) (before told : List ℕ) → s.cycle.phase ≡ Sweeping
    → (is : SweepsParts s.objects new s.cycle after pages before told)
    → SweepsTo s.objects.shape (state_of s) pages is.nodes.numbers (state_of (record s { objects = new; cycle = after }))
parts_sweep s new after pages before told sweeping is =
    let shape : Shape = s.objects.shape in
    let nodes : List Node = map (finalise (pages * shape.page_words)) s.objects.nodes in
    let entries : List Registered = s.cycle.registered in
    let build : List Node → List Registered → Phase → State → State = λ ns es ph r.
    with_region
    s.region (record r { nodes = ns; slots = s.handles.slots; weak = s.handles.weak; stack = s.handles.stack.words; registrations = registrations_of es; phase = ph }) in
    subst (λ ph. SweepsInPhase ph shape (state_of s) pages is.nodes.numbers (state_of (record s { objects = new; cycle = after }))) (sym sweeping) (record {
      finalised = is.nodes.order;
      after = ap (λ ns. build ns after.registered after.phase after.rest) is.nodes.nodes ∙ ap (λ es. build nodes es after.phase after.rest) is.registered
          ∙ ap (λ ph. build nodes entries ph after.rest) is.phase ∙ ap (build nodes entries (phase_at shape pages)) is.rest;
    })

-- ---- the state stays valid

same_may : (phase : Phase) (s : State) → HasMay phase (answered s) → HasMay phase s
same_may Idle s may = tt
same_may Marking s may = record { closed = may.closed; roots = may.roots; live = may.live; whole = may.whole }
same_may Sweeping s may = tt

-- the count of commands has no part in validity
pub uncounted : (setup : Setup) (s : State) → IsValid setup (answered s) → IsValid setup s
uncounted setup s valid = record {
  typed = valid.typed;
  named = valid.named;
  apart = valid.apart;
  within = valid.within;
  pure = valid.pure;
  slots = valid.slots;
  weak = valid.weak;
  stack = valid.stack;
  region = valid.region;
  registered = valid.registered;
  settled = valid.settled;
  may_kept = same_may s.phase s valid.may_kept;
}

-- where a sweep comes further, from the cursor to so many pages
valid_swept : (setup : Setup) (s t : State) (pages : ℕ) (numbers : List ℕ) → StepKeepsValid → IsShape setup.shape → IsValid setup s → s.phase ≡ Sweeping
    → s.cursor < pages → pages ≤ setup.shape.pages → SweepsTo setup.shape s pages numbers t → IsValid setup t
valid_swept setup s t pages numbers law shape valid sweeping further within goes =
    let n : ℕ = pages - s.cursor in
    let lines : List Line = finalise_lines numbers ++ L.Swept pages ∷ [] in
    let swept : HasSwept setup s pages lines (answered t) = record { numbers = numbers; swept = t; goes = goes; lines_are = refl; after = refl } in
    let target : pages ≡ min (s.cursor + n) setup.shape.pages =
    (let e : pages ≡ s.cursor + n = omega (arith, further) in e ∙ sym (min-eq_left (omega (arith, further, within)))) in
    let step : StepSweep setup s n lines (answered t) =
    subst (λ ph. MatchBool (is_sweeping ph) (HasSwept setup s (min (s.cursor + n) setup.shape.pages) lines (answered t)) (IsRefused R.Phase s lines (answered t))) (sym sweeping)
    (subst (λ k. HasSwept setup s k lines (answered t)) target swept) in
    uncounted setup t
    (law setup s (answered t) (C.Sweep n) [] lines (omega (arith, shape.some)) (omega (arith, further), omega (arith, within, shape.most)) valid (refl, step))

-- ---- the parts stay ready

cursor_after : (shape : Shape) (pages : ℕ) → pages ≡ pages_swept_in (phase_at shape pages) shape.pages pages
cursor_after shape pages =
    elim (cases_Bool (eqb pages shape.pages)) [
      | inl all ↦ eqb-true pages shape.pages all ∙ sym (ap (λ b. pages_swept_in (cond b Idle Sweeping) shape.pages pages) all)
      | inr some ↦ sym (ap (λ b. pages_swept_in (cond b Idle Sweeping) shape.pages pages) some)
    ]

sweep_after : (o new : ObjectsView) (c after : CycleView) (pages : ℕ) (before told : List ℕ) → SweepsParts o new c after pages before told → c.sweep.pages ≡ o.shape.pages
    → IsSweepOf new.shape after.phase after.rest.cursor after.sweep
sweep_after o new c after pages before told is all =
    let build : IsSweepOf o.shape (phase_at o.shape pages) pages (record c.sweep { cursor = pages }) = record { pages = all; cursor_is = cursor_after o.shape pages } in
    subst (λ (st : Setup). IsSweepOf st.shape after.phase after.rest.cursor after.sweep) (sym is.setup)
    (subst (λ ph. IsSweepOf o.shape ph after.rest.cursor after.sweep) (sym is.phase)
    (subst (λ (s : State). IsSweepOf o.shape (phase_at o.shape pages) s.cursor after.sweep) (sym is.rest)
    (subst (IsSweepOf o.shape (phase_at o.shape pages) pages) (sym is.sweep) build)))

marks_after : (o new : ObjectsView) (c after : CycleView) (pages : ℕ) (before told : List ℕ) → SweepsParts o new c after pages before told
    → HasMarks after.phase (cursor_at new.shape after.sweep) after.rest.may new
marks_after o new c after pages before told is =
    subst (λ (st : Setup). HasMarks after.phase (cursor_at st.shape after.sweep) after.rest.may new) (sym is.setup)
    (subst (λ (w : SweepView). HasMarks after.phase (cursor_at o.shape w) after.rest.may new) (sym is.sweep) is.marks)

-- an open sweep has pages left, and where pages are left a sweep is open
pub cursor_open : (s : Parts) → IsReady s → s.cycle.phase ≡ Sweeping → s.cycle.sweep.cursor < s.objects.shape.pages
cursor_open s ready sweeping =
    let settled = subst (λ ph. IsSettled s.objects.shape ph s.cycle.rest.cursor s.objects.nodes) sweeping ready.valid.settled in
    omega (arith, settled.0, ready.tied.sweep.cursor_is, ap (λ ph. pages_swept_in ph s.objects.shape.pages s.cycle.rest.cursor) sweeping)

open_phase : (phase : Phase) (pages cursor at : ℕ) → at ≡ pages_swept_in phase pages cursor → at < pages → phase ≡ Sweeping
open_phase Idle pages cursor at is low = absurd (omega (arith, is, low))
open_phase Marking pages cursor at is low = absurd (omega (arith, is, low))
open_phase Sweeping pages cursor at is low = refl

pub still_open : (s : Parts) → IsReady s → s.cycle.sweep.cursor < s.objects.shape.pages → s.cycle.phase ≡ Sweeping
still_open s ready low = open_phase s.cycle.phase s.objects.shape.pages s.cycle.rest.cursor s.cycle.sweep.cursor ready.tied.sweep.cursor_is low

-- in an open sweep no marking goes on, and all is swept up to the cursor
pub marks_open : (s : Parts) → IsReady s → s.cycle.phase ≡ Sweeping → ObjectsAreAtRest s.objects × IsSweptTo (cursor_at s.objects.shape s.cycle.sweep) s.objects.seat
marks_open s ready sweeping = subst (λ ph. HasMarks ph (cursor_at s.objects.shape s.cycle.sweep) s.cycle.rest.may s.objects) sweeping ready.tied.marks

-- a sweep that hasn't gone on yet
pub nothing_swept : (s : Parts) (told : List ℕ) → IsReady s → told ≡ [] → SweepsOn s.objects.shape (state_of s) s.cycle.sweep.cursor [] told (state_of s)
nothing_swept s told ready empty = record {
  numbers = [];
  follow = empty;
  goes = subst (λ k. SweepsTo s.objects.shape (state_of s) k [] (state_of s)) (sym ready.tied.sweep.cursor_is) (sweeps_nothing s.objects.shape (state_of s) ready.valid.settled);
}

-- and one that went on by a page more
pub sweep_joined : (shape : Shape) (old mid new : State) (pages more : ℕ) (told after numbers : List ℕ) → SweepsJoin → SweepsOn shape old pages [] told mid → pages ≤ more → more ≤ shape.pages
    → SweepsTo shape mid more numbers new → after ≡ told ++ numbers → SweepsOn shape old more [] after new
sweep_joined shape old mid new pages more told after numbers join before up within goes follow = record {
  numbers = before.numbers ++ numbers;
  follow = follow ∙ ap (λ (first : List ℕ). first ++ numbers) before.follow;
  goes = join shape old mid new pages more before.numbers numbers up within before.goes goes;
}

stays_swept : (limit : ℕ) (old new : List Node) (n : ℕ) → new ≡ map (finalise limit) old → StaysAt old new n
stays_swept limit old new n is = subst (λ (ns : List Node). StaysAt old ns n) (sym is) (place-finalised limit old n, size-finalised limit old n)

pub parts_ready : (s : Parts) (new : ObjectsView) (after : CycleView) (pages : ℕ) (before told : List ℕ) → StepKeepsValid → IsShape s.objects.shape → IsReady s
    → s.cycle.phase ≡ Sweeping → s.cycle.sweep.cursor < pages → pages ≤ s.objects.shape.pages → SweepsParts s.objects new s.cycle after pages before told
    → IsReady (record s { objects = new; cycle = after })
parts_ready s new after pages before told law shape ready sweeping further within is =
    let o : ObjectsView = s.objects in
    let y : CycleView = s.cycle in
    let t : State = state_of (record s { objects = new; cycle = after }) in
    let limit : ℕ = pages * o.shape.page_words in
    let cursor : y.sweep.cursor ≡ y.rest.cursor = ready.tied.sweep.cursor_is ∙ ap (λ ph. pages_swept_in ph o.shape.pages y.rest.cursor) sweeping in
    let goes : SweepsTo o.shape (state_of s) pages is.nodes.numbers t = parts_sweep s new after pages before told sweeping is in
    let ordinal : after.rest.ordinal ≡ y.rest.ordinal = ap (λ (st : State). st.ordinal) is.rest in
    record {
      valid = subst (λ (st : Setup). IsValid st t) (sym is.setup)
          (valid_swept (setup_of s) (state_of s) t pages is.nodes.numbers law shape ready.valid sweeping (omega (arith, further, cursor)) within goes);
      called = subst (λ (st : Setup). HaveCallbacks (length st.callbacks) st.types) (sym is.setup) ready.called;
      tied = tied_nodes s new after ready.tied (λ n. stays_swept limit o.nodes new.nodes n is.nodes.nodes) is.setup is.registered
          (holders-finalised limit o.nodes new.nodes is.nodes.nodes) is.weakly (sweep_after o new y after pages before told is ready.tied.sweep.pages) (marks_after o new y after pages before told is)
          (ap (λ (g : GreyView). g.traced) is.grey ∙ ready.tied.traced ∙ sym (ap (λ (st : State). st.traced) is.rest))
          (omega (arith, ready.tied.made, ordinal, ap length is.nodes.nodes, length-map o.nodes (finalise limit)));
    }

-- ---- a sweep of all pages begins

pub began_sweep : (mid new : ObjectsView) (between after : CycleView) → IsSweepOf mid.shape between.phase between.rest.cursor between.sweep
    → setup_of_objects new ≡ setup_of_objects mid → after.phase ≡ Sweeping → after.sweep ≡ record between.sweep { cursor = 0 } → after.rest.cursor ≡ 0
    → IsSweepOf new.shape after.phase after.rest.cursor after.sweep
began_sweep mid new between after is setup phase sweep cursor = record {
  pages = ap (λ (w : SweepView). w.pages) sweep ∙ is.pages ∙ sym (ap (λ (st : Setup). st.shape.pages) setup);
  cursor_is = ap (λ (w : SweepView). w.cursor) sweep ∙ sym cursor ∙ sym (ap (λ ph. pages_swept_in ph new.shape.pages after.rest.cursor) phase);
}

pub began_marks : (new : ObjectsView) (after : CycleView) (s : SweepView) → after.phase ≡ Sweeping → after.sweep ≡ record s { cursor = 0 } → ObjectsAreAtRest new
    → BodiesAreJudged new.seat → HasMarks after.phase (cursor_at new.shape after.sweep) after.rest.may new
began_marks new after s phase sweep rest judged =
    let none : cursor_at new.shape after.sweep ≡ 0 = ap (cursor_at new.shape) sweep ∙ (let e : 0 * new.shape.page_words ≡ 0 = omega arith in e) in
    subst (λ ph. HasMarks ph (cursor_at new.shape after.sweep) after.rest.may new) (sym phase) (
      rest,
      record {
        clear = record {
          marked = λ a low. absurd (omega (arith, low, none));
          traced = λ a low. absurd (omega (arith, low, none));
          dead = λ a low. absurd (omega (arith, low, none));
        };
        judged = λ b there high. judged b there;
      },
    )
