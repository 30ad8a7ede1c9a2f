use Rattle.std.proofs.Common.{get_or, cond, ap, ◌∙◌}
use Rattle.gap_bounds.specs.Gaps.{is_between}
use Rattle.gap_bounds.proofs.Known.{bounds_set}
use Rattle.gap_bounds.proofs.gaps.Gaps.saw.Goals as goal

pub returns-clause-knows : goal.returns-clause-knows
returns-clause-knows c shape extents seen knows =
    bounds_set shape extents c.args.self.now _ c.args.first c.args.end c.args.longest (record {
      bounds = λ block. c.set.ensures.bounds block
          ∙ ap (λ g. cond (is_between c.args.first c.args.end block) c.args.longest (get_or g.bounds block 0)) c.self.view_is;
      most = ap (λ g. g.most) c.self.view_is;
      known = ap (λ g. g.known) c.self.view_is;
      first = ap (λ g. g.first) c.self.view_is;
    }) seen knows
