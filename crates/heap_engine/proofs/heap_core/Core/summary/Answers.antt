use Rattle.std.proofs.Common.{◌≡◌, ℕ, ◌-◌, ◌^◌, ◌≤◌, ◌∙◌, refl, ap, arith}
use Rattle.gc_graph.specs.State.{State}
use Rattle.heap_cycle.specs.declared.cycle.Counts.{Counts}
use Rattle.heap_cycle.specs.Counts.{capped}
use Rattle.heap_engine.proofs.heap_core.Core.summary.Goals as goal

-- a count that fits its type is whole
whole : (n : ℕ) → n ≤ 2 ^ 64 - 1 → capped n ≡ n
whole n small = omega (arith, small)

pub returns : goal.returns
returns c =
    let rest : State = c.self.inside.parts.cycle.rest in
    let k : Counts = c.counts-counts.result in
    let most : rest.ordinal ≤ 2 ^ 64 - 1 = c.self.invariant.most in
    let ordinal : k.ordinal ≡ rest.ordinal = ap (λ (x : Counts). x.ordinal) c.counts-counts.ensures ∙ whole rest.ordinal most in
    let pauses : k.pauses ≡ rest.pauses =
    ap (λ (x : Counts). x.pauses) c.counts-counts.ensures ∙ whole rest.pauses (omega (arith, most, c.self.invariant.counted.pauses)) in
    let finalised : k.finalised ≡ rest.finalised =
    ap (λ (x : Counts). x.finalised) c.counts-counts.ensures
    ∙ whole rest.finalised (omega (arith, most, c.self.invariant.counted.finalised, c.self.invariant.made)) in
    let full : k.full ≡ rest.full = ap (λ (x : Counts). x.full) c.counts-counts.ensures ∙ whole rest.full (omega (arith, most, c.self.invariant.counted.full)) in
    let objects = c.from.ensures ∙ c.totals-objects.ensures.objects in
    let used = c.from-2.ensures ∙ c.totals-objects.ensures.used in
    rw (← c.self.view_is, ordinal, pauses, objects, used, finalised, full) refl
