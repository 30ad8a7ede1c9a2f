use Rattle.std.proofs.Common.{refl, sym, ◌∙◌, arith}
use Rattle.command_text.proofs.RowRanks.{faulty_line, good_line}
use Rattle.command_text.proofs.RowEnds.{ends_there, makes_some, made_small}
use Rattle.command_text.proofs.PairLines.{small_said_of}
use Rattle.command_text.proofs.row_lines.read_small_row.Goals as goal

pub returns-then-rank-ne-FAULTLESS : goal.returns-then-rank-ne-FAULTLESS
returns-then-rank-ne-FAULTLESS c =
    faulty_line _ c.args.row.now _ _ _ _ _
    (small_said_of _ c.args.row.now _ _ _ c.read_places-said.result _ _ _ _ _ _ _ c.requires.makes c.requires.sound c.requires.low c.requires.pair
    c.read_places-said.ensures c.next_word-start.ensures refl c.count_rank.ensures c.half_rank.ensures c.min.ensures c.min-rank.ensures)
    c.if-rank-ne-FAULTLESS.true c.refused.ensures

pub returns-in-Some : goal.returns-in-Some
returns-in-Some c =
    let read = c.read_places-said.ensures in
    good_line _ c.args.row.now _ _ _ _ _ _
    (small_said_of _ c.args.row.now _ _ _ c.read_places-said.result _ _ _ _ _ _ _ c.requires.makes c.requires.sound c.requires.low c.requires.pair
    read c.next_word-start.ensures refl c.count_rank.ensures c.half_rank.ensures c.min.ensures c.min-rank.ensures)
    c.if-rank-ne-FAULTLESS.false (sym c.in-Some.is ∙ c.small_command.ensures ∙ made_small c.args.row.now _ _ c.requires.makes)
    (ends_there _ _ _ _ _ _ _ _ _ read.before read.lines c.next_word-start.ensures c.count_rank.ensures c.min.ensures
    (omega (arith, c.min-rank.ensures, c.min.ensures, read.rank, c.requires.low, c.if-rank-ne-FAULTLESS.false)))

pub returns-in-None : goal.returns-in-None
returns-in-None c =
    absurd (makes_some _ c.args.row.now _ _ _ _ _
    (small_said_of _ c.args.row.now _ _ _ c.read_places-said.result _ _ _ _ _ _ _ c.requires.makes c.requires.sound c.requires.low c.requires.pair
    c.read_places-said.ensures c.next_word-start.ensures refl c.count_rank.ensures c.half_rank.ensures c.min.ensures c.min-rank.ensures)
    c.if-rank-ne-FAULTLESS.false c.requires.sound c.requires.pairs (c.small_command.ensures ∙ made_small c.args.row.now _ _ c.requires.makes) c.in-None.is)
