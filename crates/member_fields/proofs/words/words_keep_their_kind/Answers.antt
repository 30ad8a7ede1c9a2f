use Rattle.member_fields.proofs.Offsets.{one_kind}
use Rattle.member_fields.proofs.Writes.{kind_kept}
use Rattle.member_fields.proofs.PairWords.{pair_kept}
use Rattle.member_fields.proofs.words.words_keep_their_kind.Goals as goal

pub returns-clause-one : goal.returns-clause-one
returns-clause-one c = one_kind c.args.seat.now c.bodies_lie_apart.ensures

pub returns-clause-kept : goal.returns-clause-kept
returns-clause-kept c = kind_kept c.args.seat.now

pub returns-clause-pairs : goal.returns-clause-pairs
returns-clause-pairs c = pair_kept c.args.seat.now
