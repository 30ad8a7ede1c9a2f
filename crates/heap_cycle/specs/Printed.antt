-- The outcome of a command.
use Rattle.std.specs.Prelude.{◌≡◌, ℕ, ◌+◌, ◌<◌, Bool, true, false, List, [], ◌∷◌, ◌++◌, length, map, Option, IfSome, ⊤}
use Rattle.std.specs.Option.{option_to_list}
use Rattle.gc_graph.specs.declared.line.Line.{Line}
use Rattle.gc_graph.specs.declared.line.Line.TheVariants as L
use Rattle.gc_graph.specs.Outcomes.{finalise_lines}
use Rattle.heap_cycle.specs.Views.{Ran}

-- the finalised nodes, then at most one more line, and then the callbacks where the command ran some; and for how many nodes there
-- is room
pub record Printed : Type 0 where
  pub numbers : List ℕ
  pub last : Option Line
  pub calls_back : Bool
  pub room : ℕ

-- a line for each callback that was run: the weak ones, and then the prefinalizers
abbrev pub all_ran : Ran → List Line
all_ran ran = map (λ r. L.WeakCall r.0 r.1) ran.weak ++ map (λ r. L.Prefinalise r.0 r.1) ran.prefinalised

-- the same where the command ran them
abbrev pub ran_lines : Bool → Ran → List Line
ran_lines true ran = all_ran ran
ran_lines false ran = []

-- how many callbacks were run
abbrev pub count_ran : Ran → ℕ
count_ran ran = length ran.weak + length ran.prefinalised

-- the line tells a finalised node or a callback
abbrev pub TellsNode : Line → Type 0
TellsNode (L.Finalise k) = ⊤
TellsNode (L.WeakCall k d) = ⊤
TellsNode (L.Prefinalise k c) = ⊤
TellsNode _ = ⊥

-- the numbers of the nodes that lines tell as finalised, in their order
abbrev pub finalised_in : List Line → List ℕ
finalised_in [] = []
finalised_in (L.Finalise k ∷ lines) = k ∷ finalised_in lines
finalised_in (_ ∷ lines) = finalised_in lines

-- the lines of an outcome after those of the finalised nodes, where the last pause ran these callbacks
abbrev pub later_lines : Printed → Ran → List Line
later_lines o ran = option_to_list o.last ++ ran_lines o.calls_back ran

-- all of its lines
abbrev pub outcome_lines : Printed → Ran → List Line
outcome_lines o ran = finalise_lines o.numbers ++ later_lines o ran

-- the lines of a command that answers this line besides what it finalises and what it runs
abbrev pub lines_with : Printed → Ran → Line → List Line
lines_with o ran line = finalise_lines o.numbers ++ line ∷ ran_lines o.calls_back ran

-- ---- what is true of an outcome between commands

-- callbacks are told only where the last pause ran some
abbrev pub TellsThoseThatRan : Printed → Ran → Type 0
TellsThoseThatRan o ran = o.calls_back ≡ true → 0 < count_ran ran

-- and the line after those of the finalised nodes tells no node
pub record IsOutcome (o : Printed) (ran : Ran) : Type 0 where
  pub ran_some : TellsThoseThatRan o ran
  pub last_plain : IfSome o.last (λ line. TellsNode line → ⊥)
