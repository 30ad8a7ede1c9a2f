use Rattle.std.proofs.Common.{subst, sym}
use Rattle.std.specs.Arc.{arc_value}
use Rattle.thread_queues.specs.Queues.{QueuesView}
use Rattle.region_trials.specs.ScriptRounds.{AreAway}
use Rattle.region_trials.proofs.script_stage.Stage.publish.Goals as goal

pub returns-clause-away : goal.returns-clause-away
returns-clause-away g c =
    subst (λ (queues : QueuesView). AreAway (arc_value c.args.self.now.region) c.args.self.now.pass queues) (sym c.publish.ensures) (record {
      first = c.requires.away.first;
      outs = record {
        ready = c.requires.away.outs.ready;
        others = c.requires.away.outs.others;
        numbers = c.requires.away.outs.numbers;
        once = c.requires.away.outs.once;
        running = c.requires.away.outs.running;
      };
      away = c.requires.away.away;
      awaited = c.requires.away.awaited;
    })
