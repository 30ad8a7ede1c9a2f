use Rattle.std.proofs.Common.{◌≡◌, ◌∙◌, sym, true}
use Rattle.marker_core.specs.Step.{is_allowed, changed}
use Rattle.core_steps.proofs.Runs.{run_none, run_more, first_refused, step_is}
use Rattle.core_steps.proofs.running.advance_all.Goals as goal

pub loop-at-init : goal.loop-at-init
loop-at-init c = record { runs = run_none c.args.s.now; ok = c.requires }

pub returns-in-Ok-false-clause-refused : goal.returns-in-Ok-false-clause-refused
returns-in-Ok-false-clause-refused c =
    first_refused c.args.s.now c.loop-at.s c.args.steps.now c.loop-at.at c.index-steps-at.result c.loop-at-test.true c.index-steps-at.is
    c.loop-at.invariant.runs (sym c.in-Ok-false.ensures.0 ∙ c.in-Ok-false.field-0-test)

pub loop-at-preserved : goal.loop-at-preserved
loop-at-preserved c =
    let can : is_allowed c.loop-at.s c.index-steps-at.result ≡ true = sym c.in-Ok-true.ensures.0 ∙ c.in-Ok-true.field-0-test in
    let change : c.advance.new.s ≡ changed c.loop-at.s c.index-steps-at.result = c.in-Ok-true.ensures.1 c.in-Ok-true.field-0-test in
    record {
      runs =
          run_more c.args.s.now c.loop-at.s c.advance.new.s c.args.steps.now c.loop-at.at c.index-steps-at.result c.loop-at-test.true
          c.index-steps-at.is c.loop-at.invariant.runs can change;
      ok =
          c.every_step_keeps.ensures c.loop-at.s c.advance.new.s c.index-steps-at.result c.loop-at.invariant.ok
          (step_is c.loop-at.s c.advance.new.s c.index-steps-at.result can change);
    }
