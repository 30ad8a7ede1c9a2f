use Rattle.std.proofs.Common.{◌≡◌, ◌+◌, ◌*◌, ◌<◌, true, false, get_or, set, cond, length, ap, ◌∙◌, arith}
use Rattle.std.proofs.lemmas.List.{get_or-set_same, get_or-set_other}
use Rattle.gap_bounds.specs.Gaps.{is_between}
use Rattle.gc_graph.specs.PageNumbers.{next_page}
use Rattle.gap_bounds.proofs.Known.{learned}
use Rattle.gap_bounds.proofs.gaps.Gaps.learn.Goals as goal

pub overflow_mul-blocks : goal.overflow_mul-blocks
overflow_mul-blocks c = omega (arith, c.requires.groups, next_page c.args.groups c.args.page, c.self.invariant.few, ap (λ g. length g.bounds) c.self.view_is)

pub overflow_mul-page : goal.overflow_mul-page
overflow_mul-page c = omega (arith, c.requires.groups, next_page c.args.groups c.args.page, c.self.invariant.few, ap (λ g. length g.bounds) c.self.view_is)

pub overflow_mul-page-2 : goal.overflow_mul-page-2
overflow_mul-page-2 c = omega (arith, c.requires.groups, next_page c.args.groups c.args.page, c.self.invariant.few, ap (λ g. length g.bounds) c.self.view_is)

pub overflow_add-page : goal.overflow_add-page
overflow_add-page c = omega (arith, c.requires.groups, next_page c.args.groups c.args.page, c.self.invariant.few, ap (λ g. length g.bounds) c.self.view_is)

pub set-requires-clause-end : goal.set-requires-clause-end
set-requires-clause-end c = omega (arith, c.requires.groups, next_page c.args.groups c.args.page, ap (λ g. length g.bounds) c.self.view_is)

pub returns-clause-knows : goal.returns-clause-knows
returns-clause-knows c shape extents groups few knows =
    let old = c.args.self.now in
    let same : c.self.inside.known.items ≡ old.known = ap (λ g. g.known) c.self.view_is in
    let row : c.args.page < length c.self.inside.most.items = omega (arith, c.requires.page, ap (λ g. length g.most) c.self.view_is) in
    learned shape extents old _ c.args.page (4 * c.args.groups) groups few (record {
      row = c.requires.page;
      bounds = λ block. c.set.ensures.bounds block
          ∙ ap (λ g. cond (is_between (c.args.page * (4 * c.args.groups)) (c.args.page * (4 * c.args.groups) + 4 * c.args.groups) block) 16384 (get_or g.bounds block 0)) c.self.view_is;
      most = ap (λ g. set g.most c.args.page 16384) c.self.view_is;
      known = get_or-set_same c.self.inside.known.items c.args.page true false (omega (arith, row, c.self.invariant.known));
      others = λ q other. get_or-set_other c.self.inside.known.items c.args.page q true false other ∙ ap (λ xs. get_or xs q false) same;
      first = ap (λ g. g.first) c.self.view_is;
    }) knows
