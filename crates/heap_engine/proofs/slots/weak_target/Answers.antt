use Rattle.std.proofs.Common.{◌≡◌, Some, option_map, sym, ap, ◌∙◌, subst}
use Rattle.heap_cycle.specs.Nodes.{place_of}
use Rattle.heap_cycle.specs.Objects.{IsLiveAt}
use Rattle.heap_cycle.specs.Ties.{weak_slot_names}
use Rattle.heap_engine.proofs.slots.weak_target.Goals as goal

-- the node stands at the place that the weak slot holds
pub number_at-requires : goal.number_at-requires
number_at-requires c =
    let is = weak_slot_names c.args.parts.now c.args.w c.in-Some.place c.requires.ready (sym c.weak_place.ensures ∙ c.in-Some.is) in
    record { place = (is.0, is.2) }

pub returns-in-Some-clause-target : goal.returns-in-Some-clause-target
returns-in-Some-clause-target c =
    let is = weak_slot_names c.args.parts.now c.args.w c.in-Some.place c.requires.ready (sym c.weak_place.ensures ∙ c.in-Some.is) in
    let number : c.number_at.result ≡ is.0 = c.number_at.ensures.number is.0 is.2 in
    ap (λ n. Some (c.in-Some.place, n)) number ∙ ap (λ a. Some (a, is.0)) (sym is.2.1)
    ∙ sym (ap (option_map (λ n. (place_of c.args.parts.now.objects.nodes n, n))) is.1)

-- the node at that place is there
pub returns-in-Some-clause-live : goal.returns-in-Some-clause-live
returns-in-Some-clause-live c =
    let is = weak_slot_names c.args.parts.now c.args.w c.in-Some.place c.requires.ready (sym c.weak_place.ensures ∙ c.in-Some.is) in
    let number : c.number_at.result ≡ is.0 = c.number_at.ensures.number is.0 is.2 in
    subst (λ n. IsLiveAt c.args.parts.now.objects.nodes n c.in-Some.place) (sym number) is.2
