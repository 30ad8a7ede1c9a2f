use Rattle.std.proofs.Common.{◌∙◌}
use Rattle.page_words.specs.Looking.{looks_read}
use Rattle.weak_clearing.proofs.marks.is_marked.Goals as goal

pub returns-clause-mark : goal.returns-clause-mark
returns-clause-mark c =
    let place = c.requires.place in
    c.has_mark.ensures
    ∙ (c.load.ensures.word.header place.0 place.1 place.2).mark.alone (c.bodies_lie_apart.ensures.at_rest c.requires.off).none_lent

pub returns-clause-looked : goal.returns-clause-looked
returns-clause-looked c = looks_read c.args.seat.now c.load.new.seat c.args.place c.load.result c.load.ensures.view
