use Rattle.std.proofs.Common.{min, sym, ap, ◌∙◌, [], arith}
use Rattle.command_text.proofs.RowRanks.{faulty_line, good_line}
use Rattle.command_text.proofs.RowEnds.{ends_there, makes_some, made_wide, wide_pairs}
use Rattle.command_text.proofs.WideRows.{short_said, wide_said, wide_word}
use Rattle.command_text.proofs.row_lines.read_wide_row.Goals as goal

pub returns-then-start-end : goal.returns-then-start-end
returns-then-start-end c =
    faulty_line _ c.args.row.now _ _ _ [] _
    (short_said _ c.args.row.now _ _ _ c.read_places-said.result _ _ _ [] c.requires.makes c.requires.sound c.read_places-said.ensures
    c.next_word-start.ensures c.if-start-end.true c.min.ensures)
    (λ e. omega (arith, e, c.min.ensures)) c.refused.ensures

pub returns-then-rank-ne-FAULTLESS : goal.returns-then-rank-ne-FAULTLESS
returns-then-rank-ne-FAULTLESS c =
    let its = c.read_wide-reading.ensures in
    faulty_line _ c.args.row.now _ _ _ _ _
    (wide_said _ c.args.row.now _ _ _ c.read_places-said.result _ _ _ c.read_wide-reading.result.value _ _ _ _ c.requires.makes c.requires.sound c.requires.low
    c.read_places-said.ensures (wide_word _ _ _ _ _ _ _ _ c.next_word-start.ensures c.if-start-end.false (its.rank _) its.value)
    c.next_word-next.ensures c.end_rank.ensures (c.min-rank.ensures ∙ ap (λ n. min n c.end_rank.result) c.min-2.ensures))
    c.if-rank-ne-FAULTLESS.true c.refused-then-rank-ne-FAULTLESS.ensures

pub returns-in-Some : goal.returns-in-Some
returns-in-Some c =
    let its = c.read_wide-reading.ensures in
    let read = c.read_places-said.ensures in
    let first = c.next_word-start.ensures in
    good_line _ c.args.row.now _ _ _ _ _ _
    (wide_said _ c.args.row.now _ _ _ c.read_places-said.result _ _ _ c.read_wide-reading.result.value _ _ _ _ c.requires.makes c.requires.sound c.requires.low
    c.read_places-said.ensures (wide_word _ _ _ _ _ _ _ _ c.next_word-start.ensures c.if-start-end.false (its.rank _) its.value)
    c.next_word-next.ensures c.end_rank.ensures (c.min-rank.ensures ∙ ap (λ n. min n c.end_rank.result) c.min-2.ensures))
    c.if-rank-ne-FAULTLESS.false (sym c.in-Some.is ∙ c.wide_command.ensures ∙ made_wide c.args.row.now _ _ c.requires.makes)
    (ends_there _ _ _ _ _ _ _ _ 9 (omega (arith, read.before, first.before, first.order)) (read.lines ∙ first.same) c.next_word-next.ensures
    c.end_rank.ensures c.min-rank.ensures c.if-rank-ne-FAULTLESS.false)

pub returns-in-None : goal.returns-in-None
returns-in-None c =
    let its = c.read_wide-reading.ensures in
    absurd (makes_some _ c.args.row.now _ _ _ _ _
    (wide_said _ c.args.row.now _ _ _ c.read_places-said.result _ _ _ c.read_wide-reading.result.value _ _ _ _ c.requires.makes c.requires.sound c.requires.low
    c.read_places-said.ensures (wide_word _ _ _ _ _ _ _ _ c.next_word-start.ensures c.if-start-end.false (its.rank _) its.value)
    c.next_word-next.ensures c.end_rank.ensures (c.min-rank.ensures ∙ ap (λ n. min n c.end_rank.result) c.min-2.ensures))
    c.if-rank-ne-FAULTLESS.false c.requires.sound (wide_pairs c.args.bounds c.args.row.now c.args.form c.args.bytes.now c.args.before c.requires.makes)
    (c.wide_command.ensures ∙ made_wide c.args.row.now _ _ c.requires.makes) c.in-None.is)
