-- Why a script is not read.
use Rattle.std.specs.Prelude.{◌≡◌, ◌⊎◌, ℕ, List}
use Rattle.gc_graph.specs.Script.{IsFault}
use Rattle.heap_script.specs.declared.script.ScriptFault.{ScriptFault}

-- memory was wanting, or this is the line and the lowest reason for which the bytes are no script
abbrev pub IsFaultOf : ℕ → List ℕ → ScriptFault → Type 0
IsFaultOf callbacks bytes fault = (fault.reason ≡ 0) ⊎ IsFault callbacks bytes fault.line fault.reason
