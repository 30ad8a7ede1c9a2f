-- Which line a command's outcome ends with: after the lines of the finalised nodes, one that tells no node.
use Rattle.std.proofs.Common.{◌≡◌, ℕ, ◌||◌, Bool, true, false, List, [], ◌∷◌, ◌++◌, refl, sym, subst}
use Rattle.std.proofs.lemmas.Bool.{true≢false}
use Rattle.std.proofs.lemmas.List.Elements.{Contains-append_right}
use Rattle.gc_graph.specs.declared.command.Command.{Command}
use Rattle.gc_graph.specs.declared.command.Command.TheVariants as C
use Rattle.gc_graph.specs.declared.line.Line.{Line}
use Rattle.gc_graph.specs.declared.line.Line.TheVariants as L
use Rattle.gc_graph.specs.declared.region.Entry.{Entry}
use Rattle.gc_graph.specs.State.{Setup, State}
use Rattle.gc_graph.specs.AnswersLaw.{CommandsAreAnsweredInKind}
use Rattle.gc_graph.specs.Commands.{is_of_kind}
use Rattle.gc_graph.specs.LineKinds.{tells_that_nothing_was_done}
use Rattle.gc_graph.specs.Members.{Contains-head}
use Rattle.gc_graph.specs.Outcomes.{finalise_lines}
use Rattle.gc_graph.specs.Step.{Step}
use Rattle.heap_cycle.specs.Views.{Ran}
use Rattle.heap_cycle.specs.Printed.{Printed, all_ran, ran_lines, lines_with, TellsNode}
use Rattle.heap_engine.proofs.StepLines.{HasPlain, may_tell_nodes, step_has}

-- ---- lines that tell nodes

-- no callback's line tells no node
among_callbacks : (numbers : List ℕ) (x : Line) (others : List Line) (weak prefinalised : List (ℕ × ℕ))
    → all_ran (record { weak = weak; prefinalised = prefinalised }) ≡ finalise_lines numbers ++ x ∷ others → (TellsNode x → ⊥) → ⊥
among_callbacks [] x others [] [] is plain = cc
among_callbacks [] x others [] (r ∷ prefinalised) is plain = (let first : L.Prefinalise r.0 r.1 ≡ x = cc in plain (subst TellsNode first tt))
among_callbacks [] x others (r ∷ weak) prefinalised is plain = (let first : L.WeakCall r.0 r.1 ≡ x = cc in plain (subst TellsNode first tt))
among_callbacks (n ∷ numbers) x others [] [] is plain = cc
among_callbacks (n ∷ numbers) x others [] (r ∷ prefinalised) is plain = cc
among_callbacks (n ∷ numbers) x others (r ∷ weak) prefinalised is plain = cc

among_ran : (numbers : List ℕ) (x : Line) (others : List Line) (runs : Bool) (ran : Ran) → ran_lines runs ran ≡ finalise_lines numbers ++ x ∷ others
    → (TellsNode x → ⊥) → ⊥
among_ran [] x others false ran is plain = cc
among_ran (n ∷ numbers) x others false ran is plain = cc
among_ran numbers x others true ran is plain = among_callbacks numbers x others ran.weak ran.prefinalised is plain

-- after the finalised nodes comes the line that tells no node
first_plain : (told numbers : List ℕ) (last x : Line) (others : List Line) (runs : Bool) (ran : Ran)
    → finalise_lines told ++ last ∷ ran_lines runs ran ≡ finalise_lines numbers ++ x ∷ others → (TellsNode x → ⊥) → TellsNode last → ⊥
first_plain [] [] last x others runs ran is plain = (let same : last ≡ x = cc in λ node. plain (subst TellsNode same node))
first_plain [] (n ∷ numbers) last x others runs ran is plain =
    (let rest : ran_lines runs ran ≡ finalise_lines numbers ++ x ∷ others = cc in λ node. among_ran numbers x others runs ran rest plain)
first_plain (m ∷ told) [] last x others runs ran is plain = (let same : L.Finalise m ≡ x = cc in λ node. plain (subst TellsNode same tt))
first_plain (m ∷ told) (n ∷ numbers) last x others runs ran is plain =
    (let rest : finalise_lines told ++ last ∷ ran_lines runs ran ≡ finalise_lines numbers ++ x ∷ others = cc in
    first_plain told numbers last x others runs ran rest plain)

-- ---- lines of a command's kind

-- the line is of the command's kind, or says that nothing was done
abbrev IsInKind : Command → Line → Type 0
IsInKind command line = (tells_that_nothing_was_done line || is_of_kind command line) ≡ true

kind_tells_nodes : (command : Command) (line : Line) → IsInKind command line → TellsNode line → may_tell_nodes command ≡ true
kind_tells_nodes (C.New p t e) line kind node = refl
kind_tells_nodes C.GcStart line kind node = refl
kind_tells_nodes (C.GcFinish want) line kind node = refl
kind_tells_nodes (C.GcNow want) line kind node = refl
kind_tells_nodes (C.Sweep n) line kind node = refl
kind_tells_nodes C.SweepAll line kind node = refl
kind_tells_nodes _ (L.Finalise k) kind node = absurd (true≢false (sym kind))
kind_tells_nodes _ (L.WeakCall k d) kind node = absurd (true≢false (sym kind))
kind_tells_nodes _ (L.Prefinalise k c) kind node = absurd (true≢false (sym kind))
kind_tells_nodes _ _ kind node = absurd node

kind_starts : (command : Command) → IsInKind command L.Started → command ≡ C.GcStart
kind_starts C.GcStart kind = refl
kind_starts _ kind = absurd (true≢false (sym kind))

kind_steps : (command : Command) (t : ℕ) (done : Bool) → IsInKind command (L.Step t done) → (n : ℕ) × (command ≡ C.GcStep n)
kind_steps (C.GcStep n) t done kind = (n, refl)
kind_steps _ t done kind = absurd (true≢false (sym kind))

-- ---- the last line

module _
    (law : CommandsAreAnsweredInKind) (setup : Setup) (old : State) (command : Command) (piece : List Entry) (o : Printed) (ran : Ran) (last : Line)
    (new : State) (is : Step setup old command piece (lines_with o ran last) new) where
  kind : IsInKind command last
  kind =
      (law setup old new command piece (lines_with o ran last) is).kind last
      (Contains-append_right (finalise_lines o.numbers) (last ∷ ran_lines o.calls_back ran) last (Contains-head last (ran_lines o.calls_back ran)))

  -- the line of a command's outcome after those of the finalised nodes tells no node
  pub last_plain : TellsNode last → ⊥
  last_plain node =
      (let has : HasPlain (lines_with o ran last) = step_has setup old command piece (lines_with o ran last) new (kind_tells_nodes command last kind node) is in
      first_plain o.numbers has.numbers last has.line has.others o.calls_back ran has.lines_are has.plain node)

  -- only a start tells that a cycle was started
  pub started_by : last ≡ L.Started → command ≡ C.GcStart
  started_by told = kind_starts command (subst (IsInKind command) told kind)

  -- and only a step how many objects it traced
  pub stepped_by : (t : ℕ) (done : Bool) → last ≡ L.Step t done → (n : ℕ) × (command ≡ C.GcStep n)
  stepped_by t done told = kind_steps command t done (subst (IsInKind command) told kind)
