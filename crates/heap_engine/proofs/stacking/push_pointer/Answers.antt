use Rattle.std.proofs.Common.{◌≡◌, ◌<◌, [], ◌∷◌, refl, sym, ap, ◌∙◌, subst, arith}
use Rattle.gc_graph.specs.State.{State, StackWord, node_at, size_of}
use Rattle.gc_graph.specs.State.StackWord.{Pointer}
use Rattle.gc_graph.specs.Outcomes.{answered}
use Rattle.gc_graph.specs.HandleSteps.{IsPushed}
use Rattle.heap_cycle.specs.declared.parts.Parts.{Parts}
use Rattle.heap_cycle.specs.Stack.{pointer_into, PointsInside}
use Rattle.heap_cycle.specs.Parts.{state_of}
use Rattle.heap_engine.proofs.StackSteps.{push_within, push_past}
use Rattle.heap_cycle.specs.Ties.{slot_names}
use Rattle.heap_engine.proofs.stacking.push_pointer.Goals as goal

pub size_at-requires : goal.size_at-requires
size_at-requires c =
    let is = slot_names c.args.parts.now c.args.p c.in-Some.place c.requires.ready (sym c.place.ensures ∙ c.in-Some.is) in
    record { place = (is.0, is.2) }

pub push_word-requires-clause-inside : goal.push_word-requires-clause-inside
push_word-requires-clause-inside c =
    let s : Parts = c.args.parts.now in
    let is = slot_names s c.args.p c.in-Some.place c.requires.ready (sym c.place.ensures ∙ c.in-Some.is) in
    let size : c.size_at.result ≡ size_of (node_at s.objects.nodes is.0) = c.size_at.ensures.size is.0 is.2 in
    let low : c.args.offset < size_of (node_at s.objects.nodes is.0) = omega (arith, size, c.if-offset-size_at.true) in
    rw c.size_at.ensures.same
    (subst (PointsInside s.objects.nodes) (sym (c.pointer-pointer.ensures.word ∙ ap (λ slot. pointer_into slot c.args.offset) is.1)) low)

pub returns-then-offset-size_at-clause-step : goal.returns-then-offset-size_at-clause-step
returns-then-offset-size_at-clause-step c =
    let s : Parts = c.args.parts.now in
    let st : State = state_of s in
    let after : State = answered (state_of c.push_word.new.parts) in
    let is = slot_names s c.args.p c.in-Some.place c.requires.ready (sym c.place.ensures ∙ c.in-Some.is) in
    let size : c.size_at.result ≡ size_of (node_at s.objects.nodes is.0) = c.size_at.ensures.size is.0 is.2 in
    let word : c.pointer-pointer.result.word.value ≡ Pointer is.0 c.args.offset =
    c.pointer-pointer.ensures.word ∙ ap (λ slot. pointer_into slot c.args.offset) is.1 in
    let pushed : IsPushed st c.pointer-pointer.result.word.value (c.push_word.result ∷ []) after = rw c.size_at.ensures.same at c.push_word.ensures.step in
    push_within st c.args.p c.args.offset is.0 (c.push_word.result ∷ []) after is.1 (omega (arith, size, c.if-offset-size_at.true))
    (subst (λ (w : StackWord). IsPushed st w (c.push_word.result ∷ []) after) word pushed)

pub returns-else-offset-size_at-clause-step : goal.returns-else-offset-size_at-clause-step
returns-else-offset-size_at-clause-step c =
    let s : Parts = c.args.parts.now in
    let is = slot_names s c.args.p c.in-Some.place c.requires.ready (sym c.place.ensures ∙ c.in-Some.is) in
    let size : c.size_at.result ≡ size_of (node_at s.objects.nodes is.0) = c.size_at.ensures.size is.0 is.2 in
    push_past (state_of s) c.args.p c.args.offset is.0 _ (answered (state_of (record s { objects = c.size_at.new.self }))) is.1
    (omega (arith, size, c.if-offset-size_at.false)) (refl, rw c.size_at.ensures.same refl)
