use Rattle.std.proofs.Common.{◌≡◌, sym, ap, ◌∙◌, subst}
use Rattle.gc_graph.specs.declared.region.Op.TheVariants as O
use Rattle.gc_graph.specs.State.{State}
use Rattle.cross_thread_region.specs.Histories.{is_started}
use Rattle.heap_roots.specs.Calls.{HasEntered, TakesMore}
use Rattle.heap_roots.specs.Handled.{LooksAgain}
use Rattle.heap_roots.specs.Marking.{GreyView}
use Rattle.heap_roots.specs.Objects.{ObjectsView, refused_of, setup_of_objects}
use Rattle.heap_roots.specs.Owned.{OwnedView}
use Rattle.heap_cycle.specs.declared.parts.Parts.{Parts}
use Rattle.heap_cycle.specs.Parts.{state_of}
use Rattle.heap_cycle.proofs.BeginSteps.{ended_alone, entered_ready, placed_swept, starts_swept, swept_alone}
use Rattle.heap_cycle.proofs.EnteredRegion.{grown, started_entered}
use Rattle.heap_cycle.proofs.beginning.begin.Goals as goal

-- the objects were at most looked at, where room was taken before
looked_at : (s : Parts) (room o : ObjectsView) (r : OwnedView) → room ≡ s.objects → LooksAgain room s.region r o → LooksAgain s.objects s.region r o
looked_at s room o r same looked = subst (λ (x : ObjectsView). LooksAgain x s.region r o) same looked

pub end_sweep-requires-clause-ready : goal.end_sweep-requires-clause-ready
end_sweep-requires-clause-ready g c =
    let s : Parts = c.args.parts.now in
    entered_ready s c.start.new.objects c.start.new.self c.requires.ready c.requires.region c.requires.calm c.in_ok-start.ensures.entered
    (looked_at s c.reserve.new.self c.start.new.objects c.start.new.self c.reserve.ensures c.in_ok-start.ensures.looked) c.orders_keep_valid.ensures

pub mark_roots-requires-clause-placed : goal.mark_roots-requires-clause-placed
mark_roots-requires-clause-placed g c =
    let s : Parts = c.args.parts.now in
    placed_swept s c.start.new.objects c.start.new.self c.requires.ready c.requires.region c.requires.calm c.in_ok-start.ensures.entered
    (looked_at s c.reserve.new.self c.start.new.objects c.start.new.self c.reserve.ensures c.in_ok-start.ensures.looked) c.end_sweep.new.parts
    c.end_sweep.new.finalised.items c.end_sweep.ensures.idle (ap (λ (p : Parts). p.region) c.end_sweep.ensures.others) c.end_sweep.ensures.swept

pub mark_roots-requires-clause-started : goal.mark_roots-requires-clause-started
mark_roots-requires-clause-started g c =
    ap (λ (p : Parts). is_started p.region.taken) c.end_sweep.ensures.others
    ∙ started_entered O.Start 0 c.args.parts.now.region c.start.new.self c.in_ok-start.ensures.entered

pub returns-clause-begun : goal.returns-clause-begun
returns-clause-begun g c =
    let s : Parts = c.args.parts.now in
    let r : OwnedView = c.start.new.self in
    let o : ObjectsView = c.start.new.objects in
    let swept : Parts = c.end_sweep.new.parts in
    let new : Parts = c.mark_roots.new.parts in
    let entered : HasEntered O.Start 0 s.region r = c.in_ok-start.ensures.entered in
    let looked : LooksAgain s.objects s.region r o = looked_at s c.reserve.new.self o r c.reserve.ensures c.in_ok-start.ensures.looked in
    let same : swept.region ≡ r = ap (λ (p : Parts). p.region) c.end_sweep.ensures.others in
    let kept : new.region ≡ r = ap (λ (p : Parts). p.region) c.mark_roots.ensures.others ∙ same in
    record {
      swept = state_of (swept_alone s o r c.requires.ready c.requires.region c.requires.calm entered looked swept c.end_sweep.new.finalised.items
          c.end_sweep.ensures.idle same c.end_sweep.ensures.swept);
      ended = ended_alone s o r c.requires.ready c.requires.region c.requires.calm entered looked swept c.end_sweep.new.finalised.items c.end_sweep.ensures.idle same
          c.end_sweep.ensures.swept;
      start = starts_swept s o r c.requires.ready c.requires.region c.requires.calm entered looked swept c.end_sweep.new.finalised.items c.end_sweep.ensures.idle same
          c.end_sweep.ensures.swept new kept c.mark_roots.ensures.state;
      ready = c.mark_roots.ensures.ready;
      marking = ap (λ (p : Parts). p.cycle.phase) c.mark_roots.ensures.others;
      grown = subst (TakesMore s.region) (sym kept) (grown O.Start 0 s.region r entered);
      region = c.mark_roots.ensures.region;
      marked = c.mark_roots.ensures.marked;
      home = c.mark_roots.ensures.home;
      setup = c.mark_roots.ensures.setup ∙ c.end_sweep.ensures.setup ∙ ap setup_of_objects looked.others;
      since = c.mark_roots.ensures.since ∙ ap (λ (g : GreyView). refused_of (record swept.objects { grey = g })) c.end_sweep.ensures.grey
          ∙ ap refused_of looked.others;
      ordinal = ap (λ (t : State). t.ordinal) c.mark_roots.ensures.state ∙ c.end_sweep.ensures.ordinal;
      handles = ap (λ (p : Parts). p.handles) c.mark_roots.ensures.others ∙ ap (λ (p : Parts). p.handles) c.end_sweep.ensures.others;
    }
