-- What a reader of the lines tells.
use Rattle.std.specs.Prelude.{ℕ, ◌+◌, ◌==◌, ◌&&◌, not, nat_lt, if◌then◌else◌, List}
use Rattle.gc_graph.specs.Script.{IsScript}
use Rattle.heap_script.specs.declared.script.ScriptFault.{ScriptFault}
use Rattle.heap_script.specs.declared.script_lines.Kept.{Kept}

-- the whole bytes are a script, and this is what it says
abbrev pub IsWholeScript : ℕ → List ℕ → Kept → Type 0
IsWholeScript callbacks bytes kept = IsScript callbacks bytes (record { types = kept.types.items; commands = kept.commands.items })

-- a fault that was found on a line after so many, where the bytes have so many lines in all
abbrev pub fault_with : ℕ → ℕ → ℕ → ScriptFault
fault_with total lines reason =
    if not (reason == 0) && nat_lt 1000000 total then record { line = 0; reason = 8 } else record { line = lines + 1; reason = reason }
