use Rattle.std.proofs.Common.{◌≡◌, [], ◌∷◌, Some, refl, sym, ap, ◌∙◌, subst}
use Rattle.gc_graph.specs.declared.line.Line.TheVariants as L
use Rattle.gc_graph.specs.Outcomes.{answered, with_slot}
use Rattle.heap_cycle.specs.Nodes.{place_of}
use Rattle.heap_cycle.specs.declared.parts.Parts.{Parts}
use Rattle.heap_cycle.specs.Handles.{HandlesView}
use Rattle.heap_cycle.specs.Parts.{state_of, counted, AreTied}
use Rattle.heap_engine.proofs.StackSteps.{word_points, peek_pointer, peek_number, peek_none}
use Rattle.heap_cycle.specs.Ties.{tied_slot}
use Rattle.heap_engine.proofs.stacking.peek_word.Goals as goal

pub number_at-number-requires : goal.number_at-number-requires
number_at-number-requires c =
    let is = word_points c.args.parts.now c.stack.result.now c.args.i c.in-Some-Some.place c.place.result c.requires.ready
    (record { lends = c.stack.ensures; tells = c.place.ensures }) (c.in-Some-Some.is ∙ ap Some c.in-Some-Some.field-0-is) in
    record { place = (is.0, is.3) }

pub returns-in-Some-Some-clause-step : goal.returns-in-Some-Some-clause-step
returns-in-Some-Some-clause-step c =
    let s : Parts = c.args.parts.now in
    let is = word_points s c.stack.result.now c.args.i c.in-Some-Some.place c.place.result c.requires.ready
    (record { lends = c.stack.ensures; tells = c.place.ensures }) (c.in-Some-Some.is ∙ ap Some c.in-Some-Some.field-0-is) in
    let number : c.number_at-number.result ≡ is.0 = c.number_at-number.ensures.number is.0 is.3 in
    rw c.number_at-number.ensures.same
    (peek_pointer (state_of s) c.args.i c.args.q is.0 is.1 (L.Node c.number_at-number.result ∷ []) (answered (state_of (record s { handles = c.put.new.self }))) is.2
    (ap (λ m. L.Node m ∷ []) number)
    (ap (λ (k : HandlesView). answered (state_of (record s { handles = k }))) c.put.ensures ∙ ap (λ m. answered (with_slot (state_of s) c.args.q (Some m))) number))

pub returns-in-Some-Some-clause-frame : goal.returns-in-Some-Some-clause-frame
returns-in-Some-Some-clause-frame c =
    let s : Parts = c.args.parts.now in
    let is = word_points s c.stack.result.now c.args.i c.in-Some-Some.place c.place.result c.requires.ready
    (record { lends = c.stack.ensures; tells = c.place.ensures }) (c.in-Some-Some.is ∙ ap Some c.in-Some-Some.field-0-is) in
    let number : c.number_at-number.result ≡ is.0 = c.number_at-number.ensures.number is.0 is.3 in
    let at : c.in-Some-Some.place ≡ place_of s.objects.nodes c.number_at-number.result = sym is.3.1 ∙ ap (place_of s.objects.nodes) (sym number) in
    rw c.number_at-number.ensures.same (record {
      setup = refl;
      ordinal = refl;
      tied = subst (λ (k : HandlesView). AreTied (counted (record s { handles = k }))) (sym c.put.ensures)
          (tied_slot s c.args.q (Some (c.in-Some-Some.place, c.number_at-number.result)) (ap Some at) c.requires.ready.tied);
      manned = λ manned. manned;
      refused = record { since = refl; still = λ calm. refl };
    })

pub returns-in-Some-None-clause-step : goal.returns-in-Some-None-clause-step
returns-in-Some-None-clause-step c =
    peek_number c.args.parts.now c.stack.result.now c.args.i c.args.q c.place.result _ _ c.requires.ready.tied
    (record { lends = c.stack.ensures; tells = c.place.ensures }) (c.in-Some-None.is ∙ ap Some c.in-Some-None.field-0-is) (refl, refl)

pub returns-in-None-clause-step : goal.returns-in-None-clause-step
returns-in-None-clause-step c =
    peek_none c.args.parts.now c.stack.result.now c.args.i c.args.q c.place.result _ _ c.requires.ready.tied
    (record { lends = c.stack.ensures; tells = c.place.ensures }) c.in-None.is (refl, refl)
