use Rattle.std.proofs.Common.{◌≡◌, ℕ, ◌+◌, ◌<◌, false, ◌∷◌, ◌++◌, length, Some, refl, sym, ap, ◌∙◌, subst}
use Rattle.gc_graph.specs.declared.line.Line.TheVariants as L
use Rattle.gc_graph.specs.Placement.{IsPlacement}
use Rattle.gc_graph.specs.State.{Setup, Shape}
use Rattle.gc_graph.specs.Fields.{new_node, size_of_type}
use Rattle.gc_graph.specs.May.{may_with_new}
use Rattle.gc_graph.specs.Outcomes.{finalise_lines}
use Rattle.heap_cycle.specs.Sweeping.{cursor_at}
use Rattle.heap_cycle.specs.declared.parts.Parts.{Parts}
use Rattle.heap_cycle.specs.Marking.{GreyView}
use Rattle.heap_cycle.specs.Objects.{ObjectsView}
use Rattle.heap_cycle.specs.Handles.{HandlesView}
use Rattle.heap_cycle.specs.Parts.{counted, setup_of, state_of, unregistered, IsManned}
use Rattle.heap_cycle.specs.Printed.{Printed, ran_lines}
use Rattle.heap_cycle.specs.Views.{CycleView}
use Rattle.heap_engine.proofs.NewSteps.{made_cycle, step_made, tied_made}
use Rattle.heap_engine.proofs.Tellings.{tells_kept}
use Rattle.heap_cycle.specs.Registrations.{last_there, left_out_before, joined_after}
use Rattle.heap_engine.proofs.creating.make.Goals as goal

-- a new object leaves the markers that run
made_manned : (mid : Parts) (new : ObjectsView) (handles : HandlesView) (t place : ℕ) → new.grey ≡ mid.objects.grey → IsManned mid
    → IsManned (counted (record mid { objects = new; handles = handles; cycle = made_cycle mid t place }))
made_manned mid new handles t place grey manned =
    λ marking. ap (λ (g : GreyView). length g.running) grey ∙ manned marking ∙ sym (ap (λ (g : GreyView). g.markers) grey)

-- the parts once the place is found, but for the registrations of the new object
abbrev found_parts : goal.After-put → Parts
found_parts c = unregistered c.in-Ok.last c.place_for.new.parts

setup_found : (c : goal.After-put) → setup_of c.place_for.new.parts ≡ setup_of c.args.parts.now
setup_found c = c.place_for.ensures.setup ∙ ap setup_of c.in-Ok.ensures.registered

made_found : (c : goal.After-put) → length c.place_for.new.parts.objects.nodes ≡ length c.args.parts.now.objects.nodes
made_found c = c.place_for.ensures.made ∙ ap (λ (x : Parts). length x.objects.nodes) c.in-Ok.ensures.registered

-- the new object's callbacks are registered with its place, and it may be kept where marking goes on
registers : (c : goal.After-put) → c.keep_new.new.self ≡ made_cycle (found_parts c) c.args.t c.in-Some.place
registers c =
    c.keep_new.ensures
    ∙ ap (λ (k : CycleView). record k { rest = record k.rest { may = may_with_new k.phase k.rest.may } })
    (c.place_last.ensures
    ∙ joined_after c.args.parts.now c.register.new.parts c.place_for.new.parts c.args.t c.in-Some.place c.in-Ok.last c.in-Ok.ensures.registered c.in-Ok.ensures.last
    c.place_for.ensures.registered c.place_for.ensures.weakly (setup_found c) (made_found c))

-- the place was found from the state before, in which nothing was registered for it
placed : (c : goal.After-put) → IsPlacement c.args.parts.now.objects.shape (state_of c.args.parts.now) (size_of_type (setup_of c.args.parts.now) c.args.t c.args.extra)
    c.place_for.new.outcome.numbers (state_of (found_parts c)) (Some c.in-Some.place)
placed c =
    let s : Parts = c.args.parts.now in
    let size : c.size_of-size.result ≡ size_of_type (setup_of s) c.args.t c.args.extra =
    c.size_of-size.ensures.size ∙ ap (λ (x : Parts). size_of_type (setup_of x) c.args.t c.args.extra) c.in-Ok.ensures.registered in
    let shape : c.register.new.parts.objects.shape ≡ s.objects.shape = ap (λ (x : Parts). x.objects.shape) c.in-Ok.ensures.registered in
    subst (λ n. IsPlacement s.objects.shape (state_of s) n c.place_for.new.outcome.numbers (state_of (found_parts c)) (Some c.in-Some.place)) size
    (subst (λ (sh : Shape). IsPlacement sh (state_of s) c.size_of-size.result c.place_for.new.outcome.numbers (state_of (found_parts c)) (Some c.in-Some.place)) shape
    (subst (λ (x : Parts). IsPlacement c.register.new.parts.objects.shape (state_of x) c.size_of-size.result c.place_for.new.outcome.numbers (state_of (found_parts c)) (Some c.in-Some.place))
    (left_out_before s c.register.new.parts c.args.t c.in-Ok.last c.in-Ok.ensures.registered c.in-Ok.ensures.last) c.in-Some.ensures.placed))

pub unregister_last-requires-clause-weak : goal.unregister_last-requires-clause-weak
unregister_last-requires-clause-weak c =
    last_there c.args.parts.now c.register.new.parts c.place_for.new.parts c.args.t c.in-Ok.last c.in-Ok.ensures.registered c.in-Ok.ensures.last
    c.place_for.ensures.weakly

pub place_last-requires-clause-weak : goal.place_last-requires-clause-weak
place_last-requires-clause-weak c =
    last_there c.args.parts.now c.register.new.parts c.place_for.new.parts c.args.t c.in-Ok.last c.in-Ok.ensures.registered c.in-Ok.ensures.last
    c.place_for.ensures.weakly

pub make-requires-clause-size : goal.make-requires-clause-size
make-requires-clause-size c =
    c.size_of-size.ensures.size ∙ sym (ap (λ (st : Setup). size_of_type st c.args.t c.args.extra) c.place_for.ensures.setup)

pub returns-clause-step : goal.returns-clause-step
returns-clause-step c =
    let calm : c.place_for.new.outcome.calls_back ≡ false = ap (λ (o : Printed). o.calls_back) c.place_for.ensures.outcome ∙ c.requires.calm in
    step_made c.args.parts.now (found_parts c) c.make.new.self c.put.new.self c.keep_new.new.self c.args.p c.args.t c.args.extra c.in-Some.place
    c.made-number.result c.place_for.new.outcome.numbers _ (setup_found c) (placed c) (c.made-number.ensures ∙ sym (made_found c))
    c.make.ensures.nodes (registers c) c.put.ensures
    (ap (λ b. finalise_lines c.place_for.new.outcome.numbers ++ L.Placed c.made-number.result c.in-Some.place ∷ ran_lines b c.keep_new.new.self.ran) calm)

pub returns-clause-frame : goal.returns-clause-frame
returns-clause-frame c =
    let mid : Parts = found_parts c in
    let ordinal : mid.cycle.rest.ordinal ≡ c.args.parts.now.cycle.rest.ordinal =
    c.place_for.ensures.ordinal ∙ ap (λ (x : Parts). x.cycle.rest.ordinal) c.in-Ok.ensures.registered in
    record {
      setup = c.make.ensures.setup ∙ setup_found c;
      ordinal = ap (λ (k : CycleView). k.rest.ordinal + 1) (registers c) ∙ ap (λ n. n + 1) ordinal;
      tied = tied_made mid c.make.new.self c.put.new.self c.keep_new.new.self c.args.p c.args.t c.in-Some.place c.made-number.result
          (new_node (setup_of mid) c.args.t c.args.extra c.in-Some.place) c.place_for.ensures.ready
          (subst (λ (st : Setup). c.args.t < length st.types) (sym (setup_found c)) c.requires.ty) refl refl
          (c.make.ensures.marks mid.cycle.phase (cursor_at mid.objects.shape mid.cycle.sweep) mid.cycle.rest.may c.in-Some.ensures.swept c.place_for.ensures.ready.tied.marks)
          c.make.ensures.grey c.make.ensures.setup (c.made-number.ensures ∙ sym (made_found c)) refl c.make.ensures.nodes (registers c) c.put.ensures;
      manned = λ manned. subst IsManned (sym (ap (λ (k : CycleView). counted (record mid { objects = c.make.new.self; handles = c.put.new.self; cycle = k })) (registers c))) (made_manned mid c.make.new.self c.put.new.self c.args.t c.in-Some.place c.make.ensures.grey (c.place_for.ensures.manned (subst IsManned (sym c.in-Ok.ensures.registered) manned)));
      refused = tells_kept c.args.parts.now.cycle.phase c.args.parts.now.objects c.make.new.self
          (c.make.ensures.grey ∙ c.place_for.ensures.grey ∙ ap (λ (x : Parts). x.objects.grey) c.in-Ok.ensures.registered);
    }
