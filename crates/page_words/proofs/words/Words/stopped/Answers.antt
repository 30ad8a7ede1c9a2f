use Rattle.std.proofs.Common.{rules}
use Rattle.page_words.proofs.MarkerCalls.{reads_stop, stop_is_known}
use Rattle.page_words.proofs.words.Words.stopped.Goals as goal

pub look_at-requires-clause-step : goal.look_at-requires-clause-step
look_at-requires-clause-step c = reads_stop c.polls_are_steps.ensures c.args.seat.now c.self.inside.count (search rules)

pub returns-clause-halted : goal.returns-clause-halted
returns-clause-halted c halted =
    stop_is_known c.args.seat.now c.self.inside.count c.look_at.result (search rules) c.look_at.ensures.word halted
