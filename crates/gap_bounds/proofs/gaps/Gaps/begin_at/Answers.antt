use Rattle.std.proofs.Common.{get_or, ap, ◌∙◌, arith}
use Rattle.std.proofs.lemmas.List.{get_or-set_same, get_or-set_other}
use Rattle.gap_bounds.proofs.Begun.{first_set}
use Rattle.gap_bounds.proofs.gaps.Gaps.begin_at.Goals as goal

pub returns-clause-knows : goal.returns-clause-knows
returns-clause-knows c shape extents page may knows =
    first_set shape extents c.args.self.now _ c.args.class page c.args.a (record {
      here = get_or-set_same c.self.inside.first.items c.args.class c.args.a 0 (omega (arith, c.requires, c.self.invariant.first));
      there = λ n other. get_or-set_other c.self.inside.first.items c.args.class n c.args.a 0 other ∙ ap (λ g. get_or g.first n 0) c.self.view_is;
      bounds = ap (λ g. g.bounds) c.self.view_is;
      most = ap (λ g. g.most) c.self.view_is;
      known = ap (λ g. g.known) c.self.view_is;
    }) may knows
