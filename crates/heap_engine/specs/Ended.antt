-- The outcome of a command, once its line has ended it.
use Rattle.std.specs.Prelude.{◌≡◌, Option, Some, None}
use Rattle.gc_graph.specs.declared.line.Line.{Line}
use Rattle.gc_graph.specs.declared.line.Line.TheVariants as L
use Rattle.heap_cycle.specs.Printed.{Printed}

-- the line, or Fine where there is none
abbrev line_or_fine : Option Line → Line
line_or_fine (Some line) = line
line_or_fine None = L.Fine

-- the line that ended it; before any it is Fine
abbrev pub last_line : Printed → Line
last_line o = line_or_fine o.last

-- it has such a line
abbrev pub IsEnded : Printed → Type 0
IsEnded o = o.last ≡ Some (last_line o)
