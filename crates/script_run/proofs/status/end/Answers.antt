use Rattle.script_run.proofs.Statuses.{told_unless_done, told_nothing}
use Rattle.script_run.proofs.status.end.Goals.{in-Done, in_default}
use Rattle.script_run.proofs.status.end.Goals as goal

pub returns-clause-told : goal.returns-clause-told
returns-clause-told g c =
    elim c.match-status.branch [
      | in-Done w ↦ rw (w.told-is, w.errors-is) (told_nothing c.args.status w.in-Done.is (g.W.Write.contents c.args.errors.now))
      | in_default w ↦ rw (w.told-is, w.errors-is, told_unless_done c.args.status w.in_default.not-Done) w.writeln-told.ensures.bytes
    ]
