use Rattle.std.proofs.Common.{rules, ap, ◌∙◌}
use Rattle.cross_thread_region.specs.Calls.{PassView}
use Rattle.cross_thread_region.specs.Histories.{is_started}
use Rattle.cross_thread_region.proofs.Turns.{start_entered}
use Rattle.cross_thread_region.proofs.region.Region.start_entry.Goals as goal

pub returns-clause-call : goal.returns-clause-call
returns-clause-call g c = search rules

pub returns-clause-started : goal.returns-clause-started
returns-clause-started g c done =
    ap (λ (p : PassView). is_started p.seen) c.give.ensures
    ∙ start_entered c.take-held.result.value c.add-reply.new.held.value c.pass.inside.number c.add-reply.result c.add-reply.ensures.added done
