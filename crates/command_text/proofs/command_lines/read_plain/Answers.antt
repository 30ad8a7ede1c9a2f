use Rattle.command_text.proofs.CommandForms.{no_row_of}
use Rattle.command_text.proofs.LinesByRows.{plain_start, plain_start_sound, plain_start_pair, plain_start_pairs, plain_done, plain_unknown}
use Rattle.command_text.proofs.command_lines.read_plain.Goals as goal

pub read_small_row-requires-clause-sound : goal.read_small_row-requires-clause-sound
read_small_row-requires-clause-sound c =
    let said = c.nothing_said-before.ensures in
    plain_start_sound c.in-Some.row.now c.args.bytes.now c.args.first.now c.args.from c.nothing_said-before.result
    (plain_start c.in-Some.row _ _ _ _ c.in-Some.ensures.same c.in-Some.ensures.sound said.rank said.end said.count)

pub read_small_row-requires-clause-pair : goal.read_small_row-requires-clause-pair
read_small_row-requires-clause-pair c =
    let said = c.nothing_said-before.ensures in
    plain_start_pair c.in-Some.row.now c.args.bytes.now c.args.first.now c.args.from c.nothing_said-before.result
    (plain_start c.in-Some.row _ _ _ _ c.in-Some.ensures.same c.in-Some.ensures.sound said.rank said.end said.count)

pub read_small_row-requires-clause-pairs : goal.read_small_row-requires-clause-pairs
read_small_row-requires-clause-pairs c =
    let said = c.nothing_said-before.ensures in
    plain_start_pairs c.args.bounds c.in-Some.row.now c.args.bytes.now c.args.first.now c.args.from c.nothing_said-before.result
    (plain_start c.in-Some.row _ _ _ _ c.in-Some.ensures.same c.in-Some.ensures.sound said.rank said.end said.count)

pub read_wide_row-requires-clause-sound : goal.read_wide_row-requires-clause-sound
read_wide_row-requires-clause-sound c =
    let said = c.nothing_said-before.ensures in
    plain_start_sound c.in-Some.row.now c.args.bytes.now c.args.first.now c.args.from c.nothing_said-before.result
    (plain_start c.in-Some.row _ _ _ _ c.in-Some.ensures.same c.in-Some.ensures.sound said.rank said.end said.count)

pub returns-in-Small : goal.returns-in-Small
returns-in-Small c =
    let said = c.nothing_said-before.ensures in
    plain_done c.args.bounds c.in-Some.row.now c.args.bytes.now c.args.first.now c.args.from c.nothing_said-before.result _
    c.requires.no_type c.requires.no_gc c.requires.no_at
    (plain_start c.in-Some.row _ _ _ _ c.in-Some.ensures.same c.in-Some.ensures.sound said.rank said.end said.count) c.read_small_row.ensures

pub returns-in-Wide : goal.returns-in-Wide
returns-in-Wide c =
    let said = c.nothing_said-before.ensures in
    plain_done c.args.bounds c.in-Some.row.now c.args.bytes.now c.args.first.now c.args.from c.nothing_said-before.result _
    c.requires.no_type c.requires.no_gc c.requires.no_at
    (plain_start c.in-Some.row _ _ _ _ c.in-Some.ensures.same c.in-Some.ensures.sound said.rank said.end said.count) c.read_wide_row.ensures

pub returns-in-None : goal.returns-in-None
returns-in-None c =
    plain_unknown _ c.args.bytes.now c.args.first.now c.args.from _ c.requires.no_type c.requires.no_gc c.requires.no_at
    (no_row_of _ c.in-None.ensures.same) c.refused.ensures
