use Rattle.std.proofs.Common.{◌≡◌, get_or, ap, ◌∙◌, inl, inr, arith}
use Rattle.std.proofs.lemmas.Bool.{cases_lt}
use Rattle.gap_bounds.specs.Gaps.{bound_at}
use Rattle.page_space.proofs.space.Space.pass_blocks.Goals as goal

pub pass-requires-clause-worth : goal.pass-requires-clause-worth
pass-requires-clause-worth c size a has least gap =
    let now = c.args.self.now in
    let same : c.self.inside.gaps ≡ now.gaps = ap (λ s. s.gaps) c.self.view_is in
    let first : c.first_for-first.result ≡ get_or now.gaps.first c.args.class.number 0 =
    c.first_for-first.ensures ∙ ap (λ g. get_or g.first c.args.class.number 0) same in
    elim (cases_lt a c.worth_from-worth.result) [
      | inl before ↦
          absurd (omega (
            arith,
            c.worth_from-worth.ensures.passed a (omega (arith, c.requires.space.gaps.first c.args.class.number c.args.page size a has least gap)) before,
            ap (λ g. bound_at g a) same,
            c.requires.space.gaps.bounded c.args.page size a c.requires.known gap,
            c.requires.least,
          ))
      | inr after ↦ after
    ]
