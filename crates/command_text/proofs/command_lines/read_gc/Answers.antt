use Rattle.command_text.proofs.CommandForms.{named_of, no_row_of}
use Rattle.command_text.proofs.LinesOfGroups.{gc_sound, gc_missing, gc_unknown, gc_done}
use Rattle.command_text.proofs.command_lines.read_gc.Goals as goal

pub returns-then-start-end : goal.returns-then-start-end
returns-then-start-end c =
    gc_missing _ c.args.bytes.now c.args.from _ _ _ c.next_word-start.ensures c.if-start-end.true c.refused.ensures

pub read_row-requires-clause-sound : goal.read_row-requires-clause-sound
read_row-requires-clause-sound c = gc_sound c.in-Some.row.now _ c.in-Some.ensures.sound c.nothing_said.ensures.count

pub returns-in-Some : goal.returns-in-Some
returns-in-Some c =
    gc_done c.args.bounds c.in-Some.row.now c.args.bytes.now c.args.from _ _ c.nothing_said.result _ c.next_word-start.ensures
    c.if-start-end.false (named_of c.in-Some.row _ c.in-Some.ensures.same) c.in-Some.ensures.sound
    c.nothing_said.ensures.rank c.nothing_said.ensures.end c.nothing_said.ensures.count c.read_row.ensures

pub returns-in-None : goal.returns-in-None
returns-in-None c =
    gc_unknown _ c.args.bytes.now c.args.from _ _ _ c.next_word-start.ensures c.if-start-end.false
    (no_row_of _ c.in-None.ensures.same) c.refused-in-None.ensures
