use Rattle.std.proofs.Common.{subst, ap, option_map}
use Rattle.gc_graph.specs.Script.{IsScript}
use Rattle.script_run.proofs.Runnable.{script_is_runnable}
use Rattle.script_run.proofs.Outcomes.{bytes_of_script, bytes_of_fault}
use Rattle.heap_script.specs.Scripts.{IsFaultOf}
use Rattle.script_run.proofs.Writing.{grew_by_none}
use Rattle.script_run.proofs.one_run.run_bytes.Goals as goal

pub run_script-requires-clause-runnable : goal.run_script-requires-clause-runnable
run_script-requires-clause-runnable g c κs live =
    script_is_runnable _ c.args.bytes.now c.in-Ok.script c.scripts_are_in_ranges.ensures
    (subst (λ n. IsScript n c.args.bytes.now c.in-Ok.script) c.len.ensures c.in-Ok.ensures.script)

pub returns-in-Ok-clause-answer : goal.returns-in-Ok-clause-answer
returns-in-Ok-clause-answer g c =
    bytes_of_script _ c.args.options _ c.in-Ok.script _ _ _ _ (subst (λ n. IsScript n c.args.bytes.now c.in-Ok.script) c.len.ensures c.in-Ok.ensures.script)
    c.run_script.ensures.answer

pub returns-in-Err-clause-answer : goal.returns-in-Err-clause-answer
returns-in-Err-clause-answer g c =
    let fault = subst (λ n. IsFaultOf n c.args.bytes.now c.in-Err.fault) c.len.ensures c.in-Err.ensures.fault in
    rw c.status_of.ensures
    (bytes_of_fault _ c.args.options _ _ _ _ c.in-Err.fault (ap (option_map (λ heap. heap.core)) c.requires.empty, grew_by_none (g.K.Sink.written c.args.sink.now)) fault)
