use Rattle.heap_engine.specs.View.{View}
use Rattle.oilpan.proofs.Commands.{asked}
use Rattle.oilpan.proofs.asking.ask.Goals as goal

pub returns-clause-asked : goal.returns-clause-asked
returns-clause-asked g c =
    let old : View = c.args.heap.now.core in
    let new : View = c.ask.new.self.core in
    asked c.steps_leave_the_rest.ensures.rest c.last_lines_mean.ensures c.step_keeps_valid.ensures c.weak_slots_tell_lives.ensures
    c.steps_stay_in_their_family.ensures c.calls_change_their_slot.ensures.slots c.steps_follow_the_history.ensures c.steps_leave_threads.ensures old.setup old.state new.state c.args.command.now new.piece new.lines c.ask.result c.requires.pages
    c.requires.allowed c.requires.face c.ask.ensures.acted.step c.ask.ensures.acted.ordinal c.ask.ensures.line
