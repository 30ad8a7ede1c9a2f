use Rattle.std.proofs.Common.{◌≡◌, ◌<◌, get_or, length, ap, ◌∙◌, inl, inr, arith}
use Rattle.std.proofs.lemmas.Bool.{cases_eq}
use Rattle.std.proofs.lemmas.List.{get_or-set_same, get_or-set_other, get_or_default}
use Rattle.gap_bounds.specs.Gaps.{GapTable}
use Rattle.gap_bounds.proofs.Opened.{opened}
use Rattle.gap_bounds.proofs.gaps.Gaps.open.Goals as goal

pub returns-clause-knows : goal.returns-clause-knows
returns-clause-knows c shape before after opens had knows =
    let old : GapTable = c.args.self.now in
    let most : c.self.inside.most.items ≡ old.most = ap (λ g. g.most) c.self.view_is in
    let row : c.args.page < length c.self.inside.most.items = omega (arith, c.requires.page, ap length most) in
    let read : c.index-most.result.now ≡ get_or c.self.inside.most.items c.args.page 0 =
    c.index-most.ensures ∙ get_or_default c.self.inside.most.items c.args.page c.index-most.result.now 0 row in
    let changed : get_or c.lower.new.self.most c.args.page 0 ≡ c.max.result = ap (λ xs. get_or xs c.args.page 0) c.lower.ensures.most ∙ get_or-set_same c.self.inside.most.items c.args.page c.max.result 0 row in
    opened shape before after old c.lower.new.self c.args.page c.args.from c.args.until (record {
      kept = λ block. omega (arith, c.raise.ensures.kept block, ap (λ g. get_or g.bounds block 0) c.self.view_is, ap (λ xs. get_or xs block 0) c.lower.ensures.bounds);
      raised = λ block low high. omega (arith, c.raise.ensures.raised block low high, ap (λ xs. get_or xs block 0) c.lower.ensures.bounds);
      most = λ q. elim (cases_eq q c.args.page) [
        | inl same ↦
            omega (
              arith,
              ap (λ p. get_or old.most p 0) same,
              ap (λ p. get_or c.lower.new.self.most p 0) same,
              ap (λ xs. get_or xs c.args.page 0) most,
              changed,
              c.max.ensures,
              read,
            )
        | inr other ↦
            omega (
              arith,
              ap (λ xs. get_or xs q 0) most,
              ap (λ xs. get_or xs q 0) c.lower.ensures.most,
              get_or-set_other c.self.inside.most.items c.args.page q c.max.result 0 other,
            )
      ];
      here =
          omega (
            arith,
            changed,
            c.max.ensures,
            read,
          );
    })
    (record { known = c.lower.ensures.known ∙ ap (λ g. g.known) c.self.view_is; lower = λ class. omega (arith, c.lower.ensures.lower class, ap (λ g. get_or g.first class 0) c.self.view_is); start = c.lower.ensures.start }) opens had knows
