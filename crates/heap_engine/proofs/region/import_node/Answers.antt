use Rattle.std.proofs.Common.{◌≡◌, refl, sym, ap, ◌∙◌, subst}
use Rattle.gc_graph.specs.declared.region.Op.TheVariants as O
use Rattle.gc_graph.specs.History.{node_of, region_slot}
use Rattle.gc_graph.specs.Outcomes.{took}
use Rattle.heap_cycle.specs.Changes.{with_taken}
use Rattle.cross_thread_region.specs.Histories.{slot_target}
use Rattle.heap_cycle.specs.Owned.{OwnedView}
use Rattle.heap_cycle.specs.Parts.{state_of}
use Rattle.heap_cycle.specs.Region.{HasRegion}
use Rattle.heap_cycle.specs.declared.parts.Parts.{Parts}
use Rattle.heap_cycle.specs.Views.{Moment}
use Rattle.heap_engine.proofs.RegionCalls.{step_imported, told_target}
use Rattle.heap_engine.proofs.SlotReads.{put_frame}
use Rattle.heap_engine.proofs.Taken.{HasTaken, has_taken, taken_parts}
use Rattle.heap_engine.proofs.region.import_node.Given as given
use Rattle.heap_engine.proofs.region.import_node.Goals as goal
use Rattle.heap_engine.proofs.region.import_node.Goals.{After-drop-before}

-- what the call took
taken : (g : given.Over) (c : After-drop-before g) → HasTaken (O.Import c.args.x) c.args.parts.now c.take_since.new.self
taken g c =
    let s : Parts = c.args.parts.now in
    let whole : c.take_since.new.self ≡ taken_parts s c.import.new.objects c.import.new.self =
    c.take_since.ensures
    ∙ ap (λ (m : Moment). record s { objects = c.import.new.objects; region = c.import.new.self; cycle = record s.cycle { rest = with_taken m c.import.new.self.taken s.cycle.rest } })
    c.moment-before.ensures in
    subst (HasTaken (O.Import c.args.x) s) (sym whole)
    (has_taken (O.Import c.args.x) 0 s c.import.new.objects c.import.new.self c.requires.ready c.requires.region c.in-Ok.ensures.entered c.in-Ok.ensures.looked
    (λ region started. tt) (λ started. refl) (λ x n exported. cc))

-- and told: the region is the one that the call left
left : (g : given.Over) (c : After-drop-before g) → c.take_since.new.self.region ≡ c.import.new.self
left g c = ap (λ (p : Parts). p.region) c.take_since.ensures

pub returns-in-Ok-clause-step : goal.returns-in-Ok-clause-step
returns-in-Ok-clause-step g c =
    step_imported c.args.parts.now c.take_since.new.self c.args.x (taken g c) c.put.new.self c.args.p c.in-Ok.target c.line_of.result
    (c.in-Ok.ensures.target ∙ ap (λ (v : OwnedView). slot_target v.taken c.args.x) (sym (left g c))) c.line_of.ensures c.put.ensures

pub returns-in-Ok-clause-frame : goal.returns-in-Ok-clause-frame
returns-in-Ok-clause-frame g c =
    let s : Parts = c.args.parts.now in
    let has : HasTaken (O.Import c.args.x) s c.take_since.new.self = taken g c in
    put_frame s c.take_since.new.self c.put.new.self c.args.p c.in-Ok.target (node_of (region_slot (took (state_of s) has.before).region c.args.x)) c.line_of.result
    has.nodes has.setup has.grey has.ordinal c.requires.ready.tied has.tied
    (told_target s c.take_since.new.self c.args.x has c.in-Ok.target (c.in-Ok.ensures.target ∙ ap (λ (v : OwnedView). slot_target v.taken c.args.x) (sym (left g c)))) c.put.ensures c.line_of.ensures

pub returns-in-Ok-clause-region : goal.returns-in-Ok-clause-region
returns-in-Ok-clause-region g c =
    let region : HasRegion c.take_since.new.self = (taken g c).region in
    record { opened = region.opened; placed = region.placed; started = region.started }
