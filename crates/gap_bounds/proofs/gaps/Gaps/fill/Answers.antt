use Rattle.std.proofs.Common.{subst}
use Rattle.gap_bounds.specs.Changes.{GapsTaken}
use Rattle.gap_bounds.proofs.Opened.{taken, kept}
use Rattle.gap_bounds.proofs.gaps.Gaps.fill.Goals as goal

pub returns-then-was_empty-clause-knows : goal.returns-then-was_empty-clause-knows
returns-then-was_empty-clause-knows c shape before after takes knows =
    taken shape before after c.args.self.now c.lower.new.self c.args.start c.lower.ensures.bounds c.lower.ensures.most
    (record { known = c.lower.ensures.known; lower = c.lower.ensures.lower; start = c.lower.ensures.start })
    (subst (GapsTaken shape before after c.args.start) c.if-was_empty.true takes) knows

pub returns-else-was_empty-clause-knows : goal.returns-else-was_empty-clause-knows
returns-else-was_empty-clause-knows c shape before after takes knows =
    kept shape before after c.args.self.now c.args.start (subst (GapsTaken shape before after c.args.start) c.if-was_empty.false takes) knows
