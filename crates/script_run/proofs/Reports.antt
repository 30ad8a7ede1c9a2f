-- Reports that are written part by part: the type lines, the outcomes, and the end line.
use Rattle.std.proofs.Common.{◌≡◌, ℕ, false, List, [], length, take, Option, refl, sym, ◌∙◌, subst, inl, inr, arith}
use Rattle.std.specs.Prelude.{Result, Ok, Err}
use Rattle.std.proofs.lemmas.List.{take_all}
use Rattle.gc_graph.specs.declared.command.Command.{Command}
use Rattle.gc_graph.specs.declared.line.Line.{Line}
use Rattle.gc_graph.specs.declared.action.ActionKind.{ActionKind}
use Rattle.gc_graph.specs.State.{State, empty_state}
use Rattle.gc_graph.specs.Lawful.{IsLawful, IsEndLine}
use Rattle.gc_graph.specs.Report.{line_bytes, lines_bytes, type_lines, outcomes_bytes, report_of}
use Rattle.gc_graph.specs.Script.{Script}
use Rattle.text_devices.specs.Devices.{Grew, GrewByFront, Writes}
use Rattle.heap_engine.specs.View.{IsClosed, View}
use Rattle.script_run.specs.Setting.{Plan, setup_of_plan}
use Rattle.script_run.specs.Printed.{IsPrintedRun, IsPartRun, printed_lines}
use Rattle.script_run.specs.Headline.{IsWholeRun, IsReportCut, IsTold}
use Rattle.script_run.proofs.Writing.{grew, grew_front, longer}
use Rattle.script_run.proofs.LawfulRuns.{HaveBegun, is_lawful}
use Rattle.script_run.proofs.Printing.{printed_none}

-- the heap that did all the commands of the script
pub record HasPrinted (kinds : List ActionKind) (plan : Plan) (script : Script) (x y : Option (List ℕ)) (old mid : View) : Type 0 where
  pub setup : old.setup ≡ setup_of_plan kinds plan script.types
  pub same : mid.setup ≡ old.setup
  pub run : IsPrintedRun old.setup script.commands x y mid

-- the same in words of the script alone
run_of : (kinds : List ActionKind) (plan : Plan) (script : Script) (x y : Option (List ℕ)) (old mid : View) → HasPrinted kinds plan script x y old mid
    → IsPrintedRun (setup_of_plan kinds plan script.types) script.commands x y mid
run_of kinds plan script x y old mid has = subst (λ s. IsPrintedRun s script.commands x y mid) has.setup has.run

end_of : (kinds : List ActionKind) (plan : Plan) (script : Script) (x y : Option (List ℕ)) (old mid : View) (end : Line) → HasPrinted kinds plan script x y old mid
    → IsEndLine mid.setup mid.state end → IsEndLine (setup_of_plan kinds plan script.types) mid.state end
end_of kinds plan script x y old mid end has ended = subst (λ s. IsEndLine s mid.state end) (has.same ∙ has.setup) ended

whole_run : (kinds : List ActionKind) (plan : Plan) (script : Script) (w x y z : Option (List ℕ)) (old mid heap : View) (end : Line)
    → Grew w x (lines_bytes (type_lines 0 script.types)) → HasPrinted kinds plan script x y old mid → mid.state.ordinal ≡ length script.commands
    → HaveBegun mid.state → IsEndLine mid.setup mid.state end → IsClosed mid heap → Grew y z (line_bytes end)
    → IsWholeRun false kinds plan script w z heap
whole_run kinds plan script w x y z old mid heap end types has count begun ended is last =
    let run = run_of kinds plan script x y old mid has in
    subst (λ (h : View). IsWholeRun false kinds plan script w z h) (sym is) (record {
      outcomes = run.outcomes;
      history = mid.history;
      text = report_of script.types (printed_lines run.outcomes) end;
      lawful = is_lawful (setup_of_plan kinds plan script.types) script.commands run.outcomes mid run.ran begun;
      state = run.ran.last;
      taken = refl;
      out = refl;
      printed = record {
        end = end;
        counted = subst (λ (s : State). IsEndLine (setup_of_plan kinds plan script.types) s end) run.ran.last (end_of kinds plan script x y old mid end has ended);
        report = refl;
      };
      written = grew w y z _ _ (grew w x y _ _ types run.written) last;
      setup = has.same ∙ has.setup;
      closed = refl;
      joined = refl;
      count = count;
    })

pub cut_in_types : (kinds : List ActionKind) (plan : Plan) (script : Script) (w x : Option (List ℕ)) (old : View) → old.state ≡ empty_state → old.history ≡ []
    → HaveBegun old.state → GrewByFront w x (lines_bytes (type_lines 0 script.types)) → IsReportCut kinds plan script w x
cut_in_types kinds plan script w x old start fresh begun front =
    let start_run : IsPrintedRun (setup_of_plan kinds plan script.types) (take 0 script.commands) x x old =
    printed_none (setup_of_plan kinds plan script.types) script.commands x old start fresh in
    record {
      number = 0;
      within = omega arith;
      outcomes = start_run.outcomes;
      history = old.history;
      lawful = is_lawful (setup_of_plan kinds plan script.types) (take 0 script.commands) start_run.outcomes old start_run.ran begun;
      ending = [];
      ends = inl refl;
      written = longer w x _ [] (longer w x _ (outcomes_bytes (printed_lines start_run.outcomes)) front);
    }

pub cut_in_outcomes : (kinds : List ActionKind) (plan : Plan) (script : Script) (w x y : Option (List ℕ)) (old mid : View) → Grew w x (lines_bytes (type_lines 0 script.types))
    → old.setup ≡ setup_of_plan kinds plan script.types → IsPartRun old.setup script.commands x y mid → HaveBegun mid.state → IsReportCut kinds plan script w y
cut_in_outcomes kinds plan script w x y old mid types setup part begun =
    let run = subst (λ s. IsPartRun s script.commands x y mid) setup part in
    record {
      number = run.number;
      within = run.within;
      outcomes = run.outcomes;
      history = mid.history;
      lawful = is_lawful (setup_of_plan kinds plan script.types) (take run.number script.commands) run.outcomes mid run.ran begun;
      ending = [];
      ends = inl refl;
      written = longer w y _ [] (grew_front w x y _ _ types run.written);
    }

cut_in_end : (kinds : List ActionKind) (plan : Plan) (script : Script) (w x y z : Option (List ℕ)) (old mid : View) (end : Line)
    → Grew w x (lines_bytes (type_lines 0 script.types)) → HasPrinted kinds plan script x y old mid
    → HaveBegun mid.state → IsEndLine mid.setup mid.state end → GrewByFront y z (line_bytes end) → IsReportCut kinds plan script w z
cut_in_end kinds plan script w x y z old mid end types has begun ended last =
    let run = run_of kinds plan script x y old mid has in
    record {
      number = length script.commands;
      within = omega arith;
      outcomes = run.outcomes;
      history = mid.history;
      lawful = subst (λ (ks : List Command). IsLawful (setup_of_plan kinds plan script.types) ks run.outcomes mid.history)
          (sym (take_all (length script.commands) script.commands (omega arith)))
          (is_lawful (setup_of_plan kinds plan script.types) script.commands run.outcomes mid run.ran begun);
      ending = line_bytes end;
      ends = inr (
        refl,
        (end, subst (λ (s : State). IsEndLine (setup_of_plan kinds plan script.types) s end) run.ran.last (end_of kinds plan script x y old mid end has ended), refl),
      );
      written = grew_front w y z _ _ (grew w x y _ _ types run.written) last;
    }

-- ---- the end line is written or not

pub told_at_end : {T E : Type 0} (kinds : List ActionKind) (plan : Plan) (script : Script) (w x y z : Option (List ℕ)) (old mid heap : View) (end : Line) (result : Result T E)
    → Grew w x (lines_bytes (type_lines 0 script.types)) → HasPrinted kinds plan script x y old mid → mid.state.ordinal ≡ length script.commands
    → HaveBegun mid.state → IsEndLine mid.setup mid.state end → IsClosed mid heap → Writes y z (line_bytes end) result
    → IsTold false kinds plan script w z heap result
told_at_end kinds plan script w x y z old mid heap end (Ok u) types has count begun ended is last =
    whole_run kinds plan script w x y z old mid heap end types has count begun ended is last
told_at_end kinds plan script w x y z old mid heap end (Err e) types has count begun ended is last =
    cut_in_end kinds plan script w x y z old mid end types has begun ended last
