use Rattle.std.proofs.Common.{length, sym, subst}
use Rattle.callback_table.specs.Table.{callback_kinds}
use Rattle.script_run.specs.Setting.{IsRunnable}
use Rattle.script_run.proofs.Runnable.{made_is_runnable}
use Rattle.script_run.proofs.one_run.run_generated.Goals as goal

pub run_script-requires-clause-runnable : goal.run_script-requires-clause-runnable
run_script-requires-clause-runnable g c κs live =
    subst (IsRunnable (length (callback_kinds c.args.callbacks.now))) (sym c.in-Ok.ensures)
    (made_is_runnable (length (callback_kinds c.args.callbacks.now)) c.args.asked.seed c.args.asked.count c.generated_is_in_ranges.ensures c.requires.few)
