use Rattle.std.proofs.Common.{◌≡◌, ◌*◌, ◌<◌, get_or, length, ap, ◌∙◌, arith}
use Rattle.std.proofs.lemmas.List.{get_or-set_same, get_or-set_other}
use Rattle.gc_graph.specs.PageNumbers.{next_page}
use Rattle.gap_bounds.proofs.Known.{most_set}
use Rattle.gap_bounds.proofs.gaps.Gaps.tighten.Goals as goal

pub overflow_mul-page : goal.overflow_mul-page
overflow_mul-page c = omega (arith, c.requires.groups, next_page c.args.groups c.args.page, c.self.invariant.few, ap (λ g. length g.bounds) c.self.view_is)

pub overflow_mul-page-2 : goal.overflow_mul-page-2
overflow_mul-page-2 c = omega (arith, c.requires.groups, next_page c.args.groups c.args.page, c.self.invariant.few, ap (λ g. length g.bounds) c.self.view_is)

pub overflow_add-page : goal.overflow_add-page
overflow_add-page c = omega (arith, c.requires.groups, next_page c.args.groups c.args.page, c.self.invariant.few, ap (λ g. length g.bounds) c.self.view_is)

pub largest-requires-clause-end : goal.largest-requires-clause-end
largest-requires-clause-end c = omega (arith, c.requires.groups, next_page c.args.groups c.args.page, ap (λ g. length g.bounds) c.self.view_is)

pub returns-clause-knows : goal.returns-clause-knows
returns-clause-knows c shape extents groups knows =
    let most : c.self.inside.most.items ≡ c.args.self.now.most = ap (λ g. g.most) c.self.view_is in
    let row : c.args.page < length c.self.inside.most.items = omega (arith, c.requires.page, ap length most) in
    most_set shape extents c.args.self.now _ c.args.page (4 * c.args.groups) groups (ap (λ g. g.bounds) c.self.view_is) (ap (λ g. g.known) c.self.view_is)
    (ap (λ g. g.first) c.self.view_is)
    (λ q other. get_or-set_other c.self.inside.most.items c.args.page q c.largest.result 0 other ∙ ap (λ xs. get_or xs q 0) most)
    (λ block low high.
    omega (
      arith,
      c.largest.ensures block (omega arith) (omega arith),
      get_or-set_same c.self.inside.most.items c.args.page c.largest.result 0 row,
      ap (λ g. get_or g.bounds block 0) c.self.view_is,
    ))
    knows
