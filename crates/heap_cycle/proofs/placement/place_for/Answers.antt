use Rattle.std.proofs.Common.{◌≡◌, [], length, ap, ◌∙◌, arith}
use Rattle.heap_roots.specs.Pages.{word_count}
use Rattle.heap_roots.specs.Sweeping.{cursor_at}
use Rattle.heap_cycle.specs.declared.parts.Parts.{Parts}
use Rattle.heap_roots.specs.Finalising.{AreFewTold}
use Rattle.heap_cycle.specs.Parts.{unregistered}
use Rattle.heap_cycle.specs.Printed.{Printed}
use Rattle.heap_cycle.proofs.WayToPlace.{placed_at_once, between_low, placed_last}
use Rattle.heap_cycle.proofs.placement.place_for.Goals as goal

pub returns-in-Some-clause-placed : goal.returns-in-Some-clause-placed
returns-in-Some-clause-placed c =
    rw c.find.ensures.same
    (placed_at_once (unregistered c.args.last c.args.parts.now) c.args.size c.in-Some.place c.args.outcome.now.numbers c.requires.ready c.requires.empty
    (rw c.swept_pages-swept.ensures at c.in-Some.ensures.found))

pub returns-in-Some-clause-swept : goal.returns-in-Some-clause-swept
returns-in-Some-clause-swept c =
    let s : Parts = c.args.parts.now in
    rw c.find.ensures.same
    (between_low s.objects.shape s.objects c.args.size 0 s.cycle.sweep.cursor c.in-Some.place (rw c.swept_pages-swept.ensures at c.in-Some.ensures.found).0 c.requires.some)

pub returns-in-Some-clause-free : goal.returns-in-Some-clause-free
returns-in-Some-clause-free c = rw c.find.ensures.same c.in-Some.ensures.place

pub returns-in-Some-sweep_until_found-clause-manned : goal.returns-in-Some-sweep_until_found-clause-manned
returns-in-Some-sweep_until_found-clause-manned c = rw c.find.ensures.same at c.sweep_until_found.ensures.manned

-- nothing was told before
none_told : (c : goal.After-sweep_until_found-arg-2-1) → c.outcome.inside.finalised.items ≡ []
none_told c = ap (λ (o : Printed). o.numbers) c.outcome.view_is ∙ c.requires.empty

pub sweep_until_found-requires-clause-empty : goal.sweep_until_found-requires-clause-empty
sweep_until_found-requires-clause-empty c = none_told c

pub sweep_until_found-requires-clause-told : goal.sweep_until_found-requires-clause-told
sweep_until_found-requires-clause-told c =
    let s : Parts = c.args.parts.now in
    let told : AreFewTold s.objects.shape (cursor_at s.objects.shape s.cycle.sweep) s.objects.seat c.outcome.inside.finalised.items =
    omega (arith, ap length (none_told c), c.dead_are_few.ensures (cursor_at s.objects.shape s.cycle.sweep) (word_count s.objects.shape)) in
    rw c.find.ensures.same told

pub sweep_until_found-requires-clause-nowhere : goal.sweep_until_found-requires-clause-nowhere
sweep_until_found-requires-clause-nowhere c = rw c.find.ensures.same (rw c.swept_pages-swept.ensures at c.in_default.ensures.none)

pub returns-clause-placed : goal.returns-clause-placed
returns-clause-placed c =
    rw c.find_empty.ensures.same
    (placed_last (unregistered c.args.last c.args.parts.now) (unregistered c.args.last c.sweep_until_found.new.parts) c.args.size c.sweep_until_found.new.finalised.items c.find_empty.result
    (rw c.find.ensures.same at c.sweep_until_found.ensures.setup) (rw c.find.ensures.same at c.in_default-sweep_until_found.ensures.searched) c.find_empty.ensures.found c.find_empty.ensures.none)
