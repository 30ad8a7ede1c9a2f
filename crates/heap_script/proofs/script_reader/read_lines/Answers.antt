use Rattle.std.proofs.Common.{arith}
use Rattle.heap_script.proofs.ScriptEnds.{header_stop}
use Rattle.heap_script.proofs.script_reader.read_lines.Goals as goal

pub returns-in-None-clause-fault : goal.returns-in-None-clause-fault
returns-in-None-clause-fault c =
    header_stop c.args.callbacks c.args.bytes.now c.fault_at.result (omega arith) c.in-None.ensures c.fault_at.ensures
