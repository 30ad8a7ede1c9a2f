use Rattle.member_fields.proofs.Writes.{word_written, other_word_kept}
use Rattle.member_fields.proofs.words.write_is_of_one_word.Goals as goal

pub returns-clause-named : goal.returns-clause-named
returns-clause-named c = word_written c.args.seat.now c.bodies_lie_apart.ensures

pub returns-clause-others : goal.returns-clause-others
returns-clause-others c = other_word_kept c.args.seat.now
