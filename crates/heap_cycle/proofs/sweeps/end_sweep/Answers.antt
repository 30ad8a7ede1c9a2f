use Rattle.std.proofs.Common.{◌≡◌, ℕ, List, ◌++◌, length, sym, ap, ◌∙◌, subst, arith}
use Rattle.gc_graph.specs.declared.phase.Phase.TheVariants.{Sweeping}
use Rattle.gc_graph.specs.Sweep.{SweepsTo}
use Rattle.heap_roots.specs.Pages.{word_count}
use Rattle.heap_roots.specs.Sweeping.{cursor_at}
use Rattle.heap_cycle.specs.declared.parts.Parts.{Parts}
use Rattle.heap_cycle.specs.Parts.{state_of}
use Rattle.heap_cycle.specs.Ties.{manned_grey, valid_nodes}
use Rattle.heap_cycle.proofs.SweepSteps.{parts_sweep, parts_ready, cursor_open}
use Rattle.heap_cycle.proofs.sweeps.end_sweep.Goals as goal

pub end_sweep-requires-clause-told : goal.end_sweep-requires-clause-told
end_sweep-requires-clause-told c =
    omega (arith, ap length c.requires.empty, c.dead_are_few.ensures (cursor_at c.args.parts.now.objects.shape c.args.parts.now.cycle.sweep) (word_count c.args.parts.now.objects.shape))

pub end_sweep-requires-clause-valid : goal.end_sweep-requires-clause-valid
end_sweep-requires-clause-valid c = valid_nodes c.args.parts.now c.requires.ready

pub returns-in-Sweeping-clause-swept : goal.returns-in-Sweeping-clause-swept
returns-in-Sweeping-clause-swept c =
    let s : Parts = c.args.parts.now in
    let sweeping : s.cycle.phase ≡ Sweeping = sym c.phase.ensures ∙ c.in-Sweeping.is in
    let told : c.end_sweep.new.finalised.items ≡ c.end_sweep.ensures.swept.nodes.numbers =
    c.end_sweep.ensures.swept.nodes.follow ∙ ap (λ (before : List ℕ). before ++ c.end_sweep.ensures.swept.nodes.numbers) c.requires.empty in
    subst (λ numbers. SweepsTo s.objects.shape (state_of s) s.objects.shape.pages numbers (state_of (record s { objects = c.end_sweep.new.objects; cycle = c.end_sweep.new.self }))) (sym told)
    (parts_sweep s c.end_sweep.new.objects c.end_sweep.new.self s.objects.shape.pages c.args.finalised.now.items c.end_sweep.new.finalised.items sweeping c.end_sweep.ensures.swept)

pub returns-in-Sweeping-clause-ready : goal.returns-in-Sweeping-clause-ready
returns-in-Sweeping-clause-ready c =
    let s : Parts = c.args.parts.now in
    let sweeping : s.cycle.phase ≡ Sweeping = sym c.phase.ensures ∙ c.in-Sweeping.is in
    parts_ready s c.end_sweep.new.objects c.end_sweep.new.self s.objects.shape.pages c.args.finalised.now.items c.end_sweep.new.finalised.items c.step_keeps_valid.ensures c.shape_is_valid.ensures
    c.requires.ready sweeping (cursor_open s c.requires.ready sweeping) (omega arith) c.end_sweep.ensures.swept

pub returns-in-Sweeping-clause-manned : goal.returns-in-Sweeping-clause-manned
returns-in-Sweeping-clause-manned c =
    let s : Parts = c.args.parts.now in
    manned_grey s (record s { objects = c.end_sweep.new.objects; cycle = c.end_sweep.new.self }) c.requires.ready.tied (returns-in-Sweeping-clause-ready c).tied c.end_sweep.ensures.swept.grey
