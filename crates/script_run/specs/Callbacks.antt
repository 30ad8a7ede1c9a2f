-- The callbacks that the program has.
use Rattle.std.specs.Prelude.{List, [], ◌∷◌}
use Rattle.gc_graph.specs.declared.action.ActionKind.{ActionKind}
use Rattle.gc_graph.specs.declared.action.ActionKind.TheVariants as K

-- by number: 0 does nothing; 1 clears field 0 of what field 0 names; 2 adds 1 to that object's field 1; 3 adds the shown word 1
-- to it; 4 clears field 0 of what field 0 names where the shown word 1 isn't 0
abbrev pub program_kinds : List ActionKind
program_kinds = K.Nothing ∷ K.Clear 0 0 ∷ K.Add 0 1 1 ∷ K.AddOwn 0 1 1 ∷ K.ClearIf 0 0 1 ∷ []
