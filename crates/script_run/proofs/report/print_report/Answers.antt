use Rattle.std.proofs.Common.{◌≡◌, false, length, ap, rules, refl}
use Rattle.report_text.specs.Pieces.{with_held_back, TookMore}
use Rattle.heap_engine.specs.View.{View}
use Rattle.script_run.specs.Setting.{plan_of, script_on}
use Rattle.script_run.proofs.Writing.{counted_are_types}
use Rattle.script_run.proofs.HeldBack.{taken_on, cut_out, told_at_last}
use Rattle.script_run.proofs.Reports.{HasPrinted, cut_in_types, cut_in_outcomes, told_at_end}
use Rattle.script_run.proofs.report.print_report.Goals as goal

pub returns-in-Err-clause-told : goal.returns-in-Err-clause-told
returns-in-Err-clause-told g c =
    cut_out false _ _ _ _ _ c.args.pieces.now c.print_types.new.pieces c.requires.empty c.print_types.ensures.taken
    (cut_in_types c.args.heap.now.core.setup.callbacks (plan_of c.args.heap.now.core.setup) (script_on c.args.heap.now.core.setup c.args.commands.now) _ _ c.args.heap.now.core c.requires.start c.requires.fresh c.close-end.ensures.begun (rw (counted_are_types c.args.heap.now.core.setup.types c.args.types c.requires.types) at c.in-Err.ensures.bytes))

pub returns-in-Err-print_all-clause-told : goal.returns-in-Err-print_all-clause-told
returns-in-Err-print_all-clause-told g c =
    cut_out false _ _ _ _ _ c.args.pieces.now c.print_all.new.pieces c.requires.empty (taken_on _ _ _ c.print_types.ensures.taken c.print_all.ensures.taken)
    (cut_in_outcomes c.args.heap.now.core.setup.callbacks (plan_of c.args.heap.now.core.setup) (script_on c.args.heap.now.core.setup c.args.commands.now) _ _ _ c.args.heap.now.core c.print_all.new.heap.core (rw (counted_are_types c.args.heap.now.core.setup.types c.args.types c.requires.types) at c.in-Ok.ensures.bytes) refl
    c.in-Err-print_all.ensures.part c.close-end-in-Err-print_all.ensures.begun)

pub returns-clause-told : goal.returns-clause-told
returns-clause-told g c =
    let run : HasPrinted c.args.heap.now.core.setup.callbacks (plan_of c.args.heap.now.core.setup) (script_on c.args.heap.now.core.setup c.args.commands.now) (with_held_back (g.K.Sink.written c.print_types.new.sink) c.print_types.new.pieces)
    (with_held_back (g.K.Sink.written c.print_all.new.sink) c.print_all.new.pieces) c.args.heap.now.core c.print_all.new.heap.core =
    record {
      setup = refl;
      same = c.print_all.ensures.setup;
      run = c.in-Ok-print_all.ensures.done;
    } in
    let count : c.print_all.new.heap.core.state.ordinal ≡ length c.args.commands.now = search rules in
    let taken : TookMore (g.K.Sink.written c.args.sink.now) (g.K.Sink.written c.print_end.new.sink) =
    taken_on _ _ _ (taken_on _ _ _ c.print_types.ensures.taken c.print_all.ensures.taken) c.print_end.ensures.taken in
    told_at_last false _ _ _ _ _ c.args.pieces.now c.print_end.new.pieces _ c.print_end.result c.requires.empty c.print_end.ensures.empty taken
    (told_at_end c.args.heap.now.core.setup.callbacks (plan_of c.args.heap.now.core.setup) (script_on c.args.heap.now.core.setup c.args.commands.now) _ _ _ _ c.args.heap.now.core c.print_all.new.heap.core _ c.close-end-2.result c.print_end.result
    (rw (counted_are_types c.args.heap.now.core.setup.types c.args.types c.requires.types) at c.in-Ok.ensures.bytes) run count c.close-end-2.ensures.begun c.close-end-2.ensures.line c.close-end-2.ensures.closed c.print_end.ensures.bytes)

pub returns-in-Err-clause-closed : goal.returns-in-Err-clause-closed
returns-in-Err-clause-closed g c = ap (λ (v : View). v.closed) c.close-end.ensures.closed

pub returns-in-Err-clause-joined : goal.returns-in-Err-clause-joined
returns-in-Err-clause-joined g c = ap (λ (v : View). v.lent) c.close-end.ensures.closed

pub returns-in-Err-print_all-clause-closed : goal.returns-in-Err-print_all-clause-closed
returns-in-Err-print_all-clause-closed g c = ap (λ (v : View). v.closed) c.close-end-in-Err-print_all.ensures.closed

pub returns-in-Err-print_all-clause-joined : goal.returns-in-Err-print_all-clause-joined
returns-in-Err-print_all-clause-joined g c = ap (λ (v : View). v.lent) c.close-end-in-Err-print_all.ensures.closed

pub returns-clause-closed : goal.returns-clause-closed
returns-clause-closed g c = ap (λ (v : View). v.closed) c.close-end-2.ensures.closed

pub returns-clause-joined : goal.returns-clause-joined
returns-clause-joined g c = ap (λ (v : View). v.lent) c.close-end-2.ensures.closed
