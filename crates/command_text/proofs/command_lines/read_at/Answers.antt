use Rattle.command_text.proofs.CommandForms.{named_of, no_row_of}
use Rattle.command_text.proofs.LinesOfGroups.{at_sound, at_missing, at_thread_alone, at_unknown, at_done, thread_word}
use Rattle.command_text.proofs.command_lines.read_at.Goals as goal

pub returns-then-start-end : goal.returns-then-start-end
returns-then-start-end c =
    at_missing _ c.args.bytes.now c.args.from _ _ _ c.next_word-start.ensures c.if-start-end.true c.refused.ensures

pub returns-then-start-end-2 : goal.returns-then-start-end-2
returns-then-start-end-2 c =
    at_thread_alone _ c.args.bytes.now c.args.from _ c.read_place-thread.result.rank _ _ _ _ _
    (thread_word _ _ _ _ _ _ c.next_word-start.ensures c.if-start-end.false c.read_place-thread.ensures.rank)
    c.next_word-start-2.ensures c.if-start-end-2.true c.min.ensures c.refused-then-start-end-2.ensures

pub read_row-requires-clause-sound : goal.read_row-requires-clause-sound
read_row-requires-clause-sound c = at_sound c.in-Some.row.now _ c.in-Some.ensures.sound c.thread_said.ensures.count

pub returns-in-Some : goal.returns-in-Some
returns-in-Some c =
    let thread = c.read_place-thread in
    let said = c.thread_said.ensures in
    at_done c.args.bounds c.in-Some.row.now c.args.bytes.now c.args.from _ thread.result.rank _ _ _ thread.result.value c.thread_said.result _
    (thread_word _ _ _ _ _ _ c.next_word-start.ensures c.if-start-end.false thread.ensures.rank)
    c.next_word-start-2.ensures c.if-start-end-2.false (named_of c.in-Some.row _ c.in-Some.ensures.same) c.in-Some.ensures.sound
    thread.ensures.value said.rank said.end said.count said.number c.read_row.ensures

pub returns-in-None : goal.returns-in-None
returns-in-None c =
    at_unknown _ c.args.bytes.now c.args.from _ c.read_place-thread.result.rank _ _ _ _
    (thread_word _ _ _ _ _ _ c.next_word-start.ensures c.if-start-end.false c.read_place-thread.ensures.rank)
    c.next_word-start-2.ensures c.if-start-end-2.false (no_row_of _ c.in-None.ensures.same) c.refused-in-None.ensures
