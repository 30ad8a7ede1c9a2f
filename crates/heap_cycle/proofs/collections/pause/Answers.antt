use Rattle.std.proofs.Common.{All, ◌++◌, length, refl, sym, ap, ◌∙◌, subst}
use Rattle.gc_graph.specs.State.{slot_targets, strong_region_targets}
use Rattle.gc_graph.specs.May.{members}
use Rattle.gc_graph.specs.declared.phase.Phase.TheVariants.{Sweeping}
use Rattle.callback_table.specs.Registry.{RegistryView, IsRegistered}
use Rattle.cross_thread_region.specs.Histories.{slots_of}
use Rattle.heap_roots.specs.Owned.{found_of}
use Rattle.heap_roots.specs.Pausing.{IsPaused, hits_in}
use Rattle.heap_roots.specs.Stack.{is_precise}
use Rattle.heap_roots.specs.WeakCalling.{AreOfHolders}
use Rattle.heap_cycle.specs.declared.parts.Parts.{Parts}
use Rattle.heap_cycle.specs.Changes.{paused_from, with_taken}
use Rattle.heap_cycle.specs.KeptRoots.{marking_of, slots_kept}
use Rattle.heap_cycle.specs.Views.{CycleView, Moment, ran_of}
use Rattle.heap_cycle.proofs.PauseStates.{Pauses, registry_of}
use Rattle.heap_cycle.proofs.PauseSteps.{has_paused}
use Rattle.heap_cycle.proofs.RegisteredNodes.{registered_placed}
use Rattle.heap_cycle.proofs.collections.pause.Goals as goal

pub pause-result-requires-clause-kept : goal.pause-result-requires-clause-kept
pause-result-requires-clause-kept g c p there = slots_kept c.args.parts.now p c.requires.ready c.requires.marking there

pub pause-result-requires-clause-registered : goal.pause-result-requires-clause-registered
pause-result-requires-clause-registered g c =
    subst (λ (k : CycleView). All (IsRegistered c.args.parts.now.objects.nodes (length c.args.parts.now.objects.callbacks)) k.registered) (sym c.cycle.view_is)
    (registered_placed c.args.parts.now c.requires.ready)

pub pause-result-requires-clause-weakly_registered : goal.pause-result-requires-clause-weakly_registered
pause-result-requires-clause-weakly_registered g c =
    subst (λ (k : CycleView). AreOfHolders c.args.parts.now.objects.types c.args.parts.now.objects.nodes k.weakly) (sym c.cycle.view_is)
    c.requires.ready.tied.weakly

pub returns : goal.returns
returns g c = record {
  paused = λ markers none.
      (let s : Parts = c.args.parts.now in
      let after : CycleView = record {
        phase = Sweeping;
        sweep = c.begin.new.self;
        registered = c.pause-result.new.registered.prefinalizers.entries;
        weakly = c.pause-result.new.registered.weak_callbacks.entries;
        ran = ran_of c.pause-result.new.registered;
        rest = c.paused.result.value;
      } in
      let least : _ = slot_targets s.handles.slots ++ strong_region_targets (slots_of (found_of c.pause-result.new.region))
      ++ hits_in (is_precise c.args.want) s.objects.nodes s.handles.stack.addresses in
      let most : _ = members s.cycle.rest.may ++ strong_region_targets (slots_of (found_of c.pause-result.new.region))
      ++ hits_in (is_precise c.args.want) s.objects.nodes s.handles.stack.addresses in
      let keeps : RegistryView → Type 0 = λ registry.
      IsPaused s.objects.callbacks s.objects.types least most s.objects.nodes c.pause-result.new.objects.nodes registry
      c.pause-result.new.registered.prefinalizers c.pause-result.new.registered.weak_callbacks in
      let is : Pauses markers c.args.want s c.pause-result.new.objects c.pause-result.new.self after c.pause-result.new.region c.pause-result.result = record {
        ready = c.requires.ready;
        marking = c.requires.marking;
        region = c.requires.region;
        entry = c.pause-result.ensures.region;
        allowed = c.requires.allowed;
        setup = c.pause-result.ensures.setup;
        paused = subst keeps (ap registry_of c.cycle.view_is) (c.pause-result.ensures.paused s.cycle.rest.may (marking_of s c.requires.ready c.requires.marking));
        sizes = c.pause-result.ensures.sizes;
        handles_left = c.pause-result.ensures.handles;
        rests = c.pause-result.ensures.rest;
        judged_marks = c.pause-result.ensures.judged;
        phase = refl;
        sweep = c.begin.ensures ∙ ap (λ (k : CycleView). record k.sweep { cursor = 0 }) c.cycle.view_is;
        rest = c.paused.ensures ∙ ap (λ (k : CycleView). paused_from (with_taken c.moment-before.result.value c.pause-result.new.region.taken k.rest)) c.cycle.view_is
            ∙ ap (λ (m : Moment). paused_from (with_taken m c.pause-result.new.region.taken s.cycle.rest)) c.moment-before.ensures;
        kept_is = c.pause-result.ensures.kept;
        dead_is = c.pause-result.ensures.dead;
        traced_is = c.pause-result.ensures.traced;
        crew_is = λ few. c.pause-result.ensures.crew (none few);
        kept_traced = c.pause-result.ensures.kept_traced;
        walked = c.pause-result.ensures.walked;
      } in
      has_paused markers c.args.want s c.pause-result.new.objects c.pause-result.new.self after c.pause-result.new.region c.pause-result.result is
      c.reach_is_least.ensures c.orders_keep_valid.ensures);
}
