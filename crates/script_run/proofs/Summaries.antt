-- Runs whose summary is printed: commands that are done one after the other, and the one line after them.
use Rattle.std.proofs.Common.{◌≡◌, ℕ, ◌+◌, ◌<◌, true, List, [], ◌∷◌, ◌++◌, length, take, get_or, Option, ap, refl, sym, ◌∙◌, subst, arith}
use Rattle.std.specs.Prelude.{Result, Ok, Err}
use Rattle.std.proofs.lemmas.List.{take_all}
use Rattle.gc_graph.specs.declared.command.Command.{Command}
use Rattle.gc_graph.specs.declared.action.ActionKind.{ActionKind}
use Rattle.gc_graph.specs.State.{Setup, State, empty_state}
use Rattle.gc_graph.specs.HistoryLaw.{RunsAreReplayed}
use Rattle.gc_graph.specs.Lawful.{Outcome, last_state, summary_line}
use Rattle.gc_graph.specs.Report.{line_bytes}
use Rattle.gc_graph.specs.Script.{Script}
use Rattle.text_devices.specs.Devices.{GrewByFront, Writes}
use Rattle.heap_engine.specs.Acted.{IsActed}
use Rattle.heap_engine.specs.View.{IsClosed, View}
use Rattle.script_run.specs.Setting.{Plan, setup_of_plan}
use Rattle.script_run.specs.Printed.{HasRunAll}
use Rattle.script_run.specs.Headline.{IsWholeRun, IsTold}
use Rattle.script_run.proofs.LawfulRuns.{HaveBegun, outcome_of, has_run_next, has_run_none, is_lawful}

-- ---- the commands

pub ran_none : (setup : Setup) (commands : List Command) (heap : View) → heap.state ≡ empty_state → heap.history ≡ [] → HasRunAll setup (take 0 commands) heap
ran_none setup commands heap is fresh = ([], has_run_none setup commands heap is fresh)

-- d stands for what a read past the end would give
pub ran_more : (setup : Setup) (commands : List Command) (i : ℕ) (d : Command) (mid heap : View) → RunsAreReplayed → i < length commands
    → HasRunAll setup (take i commands) mid → mid.setup ≡ setup → (lines : ℕ) → IsActed mid heap (get_or commands i d) lines
    → HasRunAll setup (take (i + 1) commands) heap
ran_more setup commands i d mid heap law low ran same lines acted = (
  ran.0 ++ outcome_of heap ∷ [],
  has_run_next setup commands i d ran.0 mid heap low (record {
    law = law;
    ran = ran.1;
    same = same;
    acted = subst (λ n. IsActed mid heap (get_or commands i d) n) acted.count acted;
  }),
)

pub ran_all : (setup : Setup) (commands : List Command) (i : ℕ) (heap : View) → length commands ≡ i → HasRunAll setup (take i commands) heap → HasRunAll setup commands heap
ran_all setup commands i heap end ran = subst (λ (ks : List Command). HasRunAll setup ks heap) (take_all i commands (omega arith)) ran

-- ---- the line

-- the heap that did all the commands of the script, and of which a summary is printed; its closing told what threads had begun
pub record HasSummed (kinds : List ActionKind) (plan : Plan) (script : Script) (old mid : View) : Type 0 where
  pub setup : old.setup ≡ setup_of_plan kinds plan script.types
  pub same : mid.setup ≡ old.setup
  pub ran : HasRunAll old.setup script.commands mid
  pub count : mid.state.ordinal ≡ length script.commands
  pub begun : HaveBegun mid.state

line_of : (mid : View) (outcomes : List Outcome) → mid.state ≡ last_state empty_state outcomes
    → line_bytes (summary_line mid.state) ≡ line_bytes (summary_line (last_state empty_state outcomes))
line_of mid outcomes is = ap (λ (s : State). line_bytes (summary_line s)) is

ran_of : (kinds : List ActionKind) (plan : Plan) (script : Script) (old mid : View) → HasSummed kinds plan script old mid
    → HasRunAll (setup_of_plan kinds plan script.types) script.commands mid
ran_of kinds plan script old mid has = subst (λ (s : Setup). HasRunAll s script.commands mid) has.setup has.ran

pub told_in_summary : {T E : Type 0} (kinds : List ActionKind) (plan : Plan) (script : Script) (y z : Option (List ℕ)) (old mid heap : View) (result : Result T E)
    → HasSummed kinds plan script old mid → IsClosed mid heap → Writes y z (line_bytes (summary_line mid.state)) result
    → IsTold true kinds plan script y z heap result
told_in_summary kinds plan script y z old mid heap (Ok u) has is written =
    let ran = ran_of kinds plan script old mid has in
    subst (λ (h : View). IsWholeRun true kinds plan script y z h) (sym is) (record {
      outcomes = ran.0;
      history = mid.history;
      text = line_bytes (summary_line mid.state);
      lawful = is_lawful (setup_of_plan kinds plan script.types) script.commands ran.0 mid ran.1 has.begun;
      state = ran.1.last;
      taken = refl;
      out = refl;
      printed = line_of mid ran.0 ran.1.last;
      written = written;
      setup = has.same ∙ has.setup;
      closed = refl;
      joined = refl;
      count = has.count;
    })
told_in_summary kinds plan script y z old mid heap (Err e) has is written =
    let ran = ran_of kinds plan script old mid has in
    record {
      outcomes = ran.0;
      history = mid.history;
      lawful = is_lawful (setup_of_plan kinds plan script.types) script.commands ran.0 mid ran.1 has.begun;
      written = subst (λ (text : List ℕ). GrewByFront y z text) (line_of mid ran.0 ran.1.last) written;
    }
