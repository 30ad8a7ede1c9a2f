use Rattle.std.proofs.Common.{◌≡◌, ◌+◌, Some, refl, sym, ap, ◌∙◌, subst}
use Rattle.gc_graph.specs.declared.region.Op.TheVariants as O
use Rattle.heap_cycle.specs.Changes.{with_taken}
use Rattle.heap_cycle.specs.Nodes.{place_of}
use Rattle.heap_cycle.specs.Objects.{ObjectsView}
use Rattle.heap_cycle.specs.Handled.{LooksAgain}
use Rattle.heap_cycle.specs.declared.parts.Parts.{Parts}
use Rattle.heap_cycle.specs.Parts.{counted, moment_of}
use Rattle.heap_cycle.specs.Ties.{manned_grey, slot_names, tied_counted}
use Rattle.heap_cycle.specs.Views.{Moment}
use Rattle.heap_engine.proofs.RegionCalls.{step_exported}
use Rattle.heap_engine.proofs.Taken.{HasTaken, has_taken, taken_parts}
use Rattle.heap_engine.proofs.Tellings.{tells_kept}
use Rattle.heap_engine.proofs.region.export_node.Given as given
use Rattle.heap_engine.proofs.region.export_node.Goals as goal
use Rattle.heap_engine.proofs.region.export_node.Goals.{After-drop-before}

-- the node stands at the place that the slot holds
pub number_at-number-requires : goal.number_at-number-requires
number_at-number-requires g c =
    let is = slot_names c.args.parts.now c.args.p c.in-Some.place c.requires.ready (sym c.place.ensures ∙ c.in-Some.is) in
    record { place = (is.0, is.2) }

-- its number is told
pub export-requires-clause-node : goal.export-requires-clause-node
export-requires-clause-node g c =
    let is = slot_names c.args.parts.now c.args.p c.in-Some.place c.requires.ready (sym c.place.ensures ∙ c.in-Some.is) in
    rw (c.number_at-number.ensures.same, c.number_at-number.ensures.number is.0 is.2) is.2

-- what the call took
taken : (g : given.Over) (c : After-drop-before g) → HasTaken (O.Export c.args.x c.number_at-number.result) c.args.parts.now c.take_since.new.self
taken g c =
    let s : Parts = c.args.parts.now in
    let o : ObjectsView = c.export.new.objects in
    let same : c.number_at-number.new.self ≡ s.objects = c.number_at-number.ensures.same in
    let is = slot_names s c.args.p c.in-Some.place c.requires.ready (sym c.place.ensures ∙ c.in-Some.is) in
    let number : c.number_at-number.result ≡ is.0 = c.number_at-number.ensures.number is.0 is.2 in
    let looked : LooksAgain s.objects s.region c.export.new.self o =
    subst (λ (v : ObjectsView). LooksAgain v s.region c.export.new.self o) same c.in-Ok.ensures.looked in
    let moment : c.moment-before.result.value ≡ moment_of s = c.moment-before.ensures ∙ ap (λ (v : ObjectsView). moment_of (record s { objects = v })) same in
    let whole : c.take_since.new.self ≡ taken_parts s o c.export.new.self =
    c.take_since.ensures ∙ ap (λ (m : Moment). record s { objects = o; region = c.export.new.self; cycle = record s.cycle { rest = with_taken m c.export.new.self.taken s.cycle.rest } }) moment in
    subst (HasTaken (O.Export c.args.x c.number_at-number.result) s) (sym whole)
    (has_taken (O.Export c.args.x c.number_at-number.result) c.in-Some.place s o c.export.new.self c.requires.ready c.requires.region c.in-Ok.ensures.entered looked
    (λ region started. tt) (λ started. refl)
    (λ x n exported. sym is.2.1 ∙ ap (place_of s.objects.nodes) (sym number ∙ (let same_number : c.number_at-number.result ≡ n = cc in same_number))))

pub returns-in-Ok-clause-step : goal.returns-in-Ok-clause-step
returns-in-Ok-clause-step g c =
    let s : Parts = c.args.parts.now in
    let is = slot_names s c.args.p c.in-Some.place c.requires.ready (sym c.place.ensures ∙ c.in-Some.is) in
    step_exported s c.take_since.new.self c.args.p c.args.x c.number_at-number.result (is.1 ∙ ap Some (sym (c.number_at-number.ensures.number is.0 is.2))) (taken g c)

pub returns-in-Ok-clause-frame : goal.returns-in-Ok-clause-frame
returns-in-Ok-clause-frame g c =
    let s : Parts = c.args.parts.now in
    let new : Parts = c.take_since.new.self in
    let has = taken g c in
    record {
      setup = has.setup;
      ordinal = ap (λ k. k + 1) has.ordinal;
      tied = tied_counted new has.tied;
      manned = manned_grey s (counted new) c.requires.ready.tied (tied_counted new has.tied) has.grey;
      refused = tells_kept s.cycle.phase s.objects new.objects has.grey;
    }

pub returns-in-Ok-clause-region : goal.returns-in-Ok-clause-region
returns-in-Ok-clause-region g c = (taken g c).region
