-- The lines of an outcome: those of a command that finalises nothing and runs no callback, and those that tell a finalised node.
use Rattle.std.proofs.Common.{◌≡◌, ℕ, ◌<◌, Bool, true, false, List, [], ◌∷◌, ◌++◌, length, Option, Some, None, IfSome, refl, sym, ap, ◌∙◌, arith}
use Rattle.std.specs.Option.{option_to_list}
use Rattle.std.proofs.lemmas.List.{append-nil, length-append}
use Rattle.gc_graph.specs.declared.line.Line.{Line}
use Rattle.gc_graph.specs.declared.line.Line.TheVariants as L
use Rattle.gc_graph.specs.declared.phase.Phase.{Phase}
use Rattle.gc_graph.specs.Outcomes.{finalise_lines}
use Rattle.heap_cycle.specs.Refused.{RefusalsTold}
use Rattle.heap_cycle.specs.Walks.{GoesOnTelling, IsWalkTold, IsWalkToldIn}
use Rattle.heap_cycle.specs.Views.{Ran}
use Rattle.heap_cycle.specs.Printed.{Printed, all_ran, ran_lines, lines_with, later_lines, outcome_lines, finalised_in, TellsNode}
use Rattle.heap_engine.specs.Ended.{last_line, IsEnded}

-- it tells its line alone
pub line_alone : (o : Printed) (ran : Ran) (line : Line) → o.numbers ≡ [] → o.calls_back ≡ false → lines_with o ran line ≡ line ∷ []
line_alone o ran line numbers calm =
    ap (λ ns. finalise_lines ns ++ line ∷ ran_lines o.calls_back ran) numbers ∙ ap (λ b. line ∷ ran_lines b ran) calm

-- so does one that has ended
pub ended_alone : (o new : Printed) (ran : Ran) (line : Line) → new ≡ record o { last = Some line } → o.numbers ≡ [] → o.calls_back ≡ false
    → outcome_lines new ran ≡ line ∷ []
ended_alone o new ran line is numbers calm = ap (λ (x : Printed). outcome_lines x ran) is ∙ line_alone o ran line numbers calm

-- an outcome that has ended tells its last line between the finalised nodes and the callbacks
pub ended_lines : (o : Printed) (ran : Ran) → IsEnded o → outcome_lines o ran ≡ lines_with o ran (last_line o)
ended_lines o ran ended = ap (λ (l : Option Line). finalise_lines o.numbers ++ (option_to_list l ++ ran_lines o.calls_back ran)) ended

-- and so it tells a line
pub some_told : (o : Printed) (ran : Ran) → (o.last ≡ None → ⊥) → 0 < length (outcome_lines o ran)
some_told o ran ended = omega (arith, length-append (finalise_lines o.numbers) (later_lines o ran), later o.last ended) where
  later : (last : Option Line) → (last ≡ None → ⊥) → 0 < length (option_to_list last ++ ran_lines o.calls_back ran)
  later None some = absurd (some refl)
  later (Some l) some = omega arith

-- ---- what lines tell as finalised

numbers_first : (numbers : List ℕ) (lines : List Line) → finalised_in (finalise_lines numbers ++ lines) ≡ numbers ++ finalised_in lines
numbers_first [] lines = refl
numbers_first (n ∷ numbers) lines = ap (λ ns. n ∷ ns) (numbers_first numbers lines)

none_of_callbacks : (weak prefinalised : List (ℕ × ℕ)) → finalised_in (all_ran (record { weak = weak; prefinalised = prefinalised })) ≡ []
none_of_callbacks [] [] = refl
none_of_callbacks [] (r ∷ prefinalised) = none_of_callbacks [] prefinalised
none_of_callbacks (r ∷ weak) prefinalised = none_of_callbacks weak prefinalised

none_ran : (runs : Bool) (ran : Ran) → finalised_in (ran_lines runs ran) ≡ []
none_ran false ran = refl
none_ran true ran = none_of_callbacks ran.weak ran.prefinalised

after_plain : (l : Line) (lines : List Line) → (TellsNode l → ⊥) → finalised_in (l ∷ lines) ≡ finalised_in lines
after_plain (L.Finalise k) lines plain = absurd (plain tt)
after_plain _ lines plain = refl

none_later : (last : Option Line) (runs : Bool) (ran : Ran) → IfSome last (λ l. TellsNode l → ⊥) → finalised_in (option_to_list last ++ ran_lines runs ran) ≡ []
none_later None runs ran plain = none_ran runs ran
none_later (Some l) runs ran plain = after_plain l (ran_lines runs ran) plain ∙ none_ran runs ran

-- an outcome tells its finalised nodes first, and no other
pub all_finalised : (o : Printed) (ran : Ran) → IfSome o.last (λ l. TellsNode l → ⊥) → o.numbers ≡ finalised_in (outcome_lines o ran)
all_finalised o ran plain =
    sym (numbers_first o.numbers (later_lines o ran) ∙ ap (λ ns. o.numbers ++ ns) (none_later o.last o.calls_back ran plain) ∙ append-nil o.numbers)

-- ---- what lines tell of refusals

-- lines of callbacks tell of none
callbacks_calm : (phase : Phase) (old new : RefusalsTold) (weak prefinalised : List (ℕ × ℕ)) → GoesOnTelling phase old new
    → IsWalkToldIn phase old new (all_ran (record { weak = weak; prefinalised = prefinalised }))
callbacks_calm phase old new [] [] told = told
callbacks_calm phase old new [] (r ∷ prefinalised) told = callbacks_calm phase old new [] prefinalised told
callbacks_calm phase old new (r ∷ weak) prefinalised told = callbacks_calm phase old new weak prefinalised told

ran_calm : (phase : Phase) (old new : RefusalsTold) (runs : Bool) (ran : Ran) → GoesOnTelling phase old new → IsWalkToldIn phase old new (ran_lines runs ran)
ran_calm phase old new false ran told = told
ran_calm phase old new true ran told = callbacks_calm phase old new ran.weak ran.prefinalised told

-- and before them it is the line that tells of some
line_first : (phase : Phase) (old new : RefusalsTold) (line : Line) (runs : Bool) (ran : Ran) → IsWalkTold phase old new line
    → IsWalkToldIn phase old new (line ∷ ran_lines runs ran)
line_first phase old new (L.Pause kept dead crew traced walked) runs ran told = told
line_first phase old new L.Started runs ran told = told
line_first phase old new _ runs ran told = ran_calm phase old new runs ran told

-- lines of finalised nodes tell of none
walk_told : (phase : Phase) (old new : RefusalsTold) (numbers : List ℕ) (lines : List Line) → IsWalkToldIn phase old new lines
    → IsWalkToldIn phase old new (finalise_lines numbers ++ lines)
walk_told phase old new [] lines told = told
walk_told phase old new (n ∷ numbers) lines told = walk_told phase old new numbers lines told

-- the lines of a command tell of refusals what its line tells
pub walk_in_lines : (phase : Phase) (old new : RefusalsTold) (o : Printed) (ran : Ran) (line : Line) → IsWalkTold phase old new line
    → IsWalkToldIn phase old new (lines_with o ran line)
walk_in_lines phase old new o ran line told =
    walk_told phase old new o.numbers (line ∷ ran_lines o.calls_back ran) (line_first phase old new line o.calls_back ran told)
