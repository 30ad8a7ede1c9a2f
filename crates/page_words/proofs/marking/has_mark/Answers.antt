use Rattle.std.proofs.Common.{eqb, ap, ◌∙◌}
use Rattle.page_words.proofs.Bits.{mark_stands}
use Rattle.page_words.proofs.marking.has_mark.Goals as goal

pub returns : goal.returns
returns c = ap (eqb c.args.header) c.with_mark.ensures.bit ∙ mark_stands c.args.header
