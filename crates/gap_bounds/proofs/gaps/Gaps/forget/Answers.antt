use Rattle.std.proofs.Common.{◌≡◌, ℕ, ◌+◌, ◌*◌, true, false, ap, sym, subst, ◌∙◌, inl, inr, arith}
use Rattle.std.proofs.lemmas.Bool.{cases_eq, true≢false}
use Rattle.gap_bounds.specs.Gaps.{is_between}
use Rattle.gap_bounds.specs.Gaps.{is_known}
use Rattle.gap_bounds.specs.Spans.{between_from, between_more, not_between}
use Rattle.gap_bounds.specs.Changes.{GapsOpenedIn}
use Rattle.gap_bounds.proofs.Opened.{forgotten}
use Rattle.gap_bounds.proofs.gaps.Gaps.forget.Goals as goal

pub loop-page-preserved : goal.loop-page-preserved
loop-page-preserved c =
    let page : ℕ = c.loop-page.page in
    let now : is_between c.args.first (page + 1) page ≡ true = between_from c.args.first (page + 1) page (omega arith) (omega arith) in
    let before = λ (q : ℕ) (other : q ≡ page → ⊥).
    let e : is_between c.args.first (page + 1) q ≡ is_between c.args.first page q = between_more c.args.first page q other in e in
    record {
      here = λ q inside. elim (cases_eq q page) [
        | inl same ↦ ap (is_known c.forget_page.new.self) same ∙ c.forget_page.ensures.here
        | inr other ↦ c.forget_page.ensures.there q other ∙ c.loop-page.invariant.here q (sym (before q other) ∙ inside)
      ];
      there = λ q outside. elim (cases_eq q page) [
        | inl same ↦ absurd (true≢false (sym now ∙ sym (ap (is_between c.args.first (page + 1)) same) ∙ outside))
        | inr other ↦ c.forget_page.ensures.there q other ∙ c.loop-page.invariant.there q (sym (before q other) ∙ outside)
      ];
      lower = λ class. omega (arith, c.forget_page.ensures.lower class, c.loop-page.invariant.lower class);
      start = λ q class inside known. elim (cases_eq q page) [
        | inl same ↦
            (let outside : is_between c.args.first page q ≡ false = not_between c.args.first page q (λ low high. omega arith) in
            let was : is_known c.loop-page.self page ≡ true = ap (is_known c.loop-page.self) (sym same) ∙ c.loop-page.invariant.there q outside ∙ known in
            omega (arith, c.forget_page.ensures.start was class, ap (λ p. p * c.args.page_words) same))
        | inr other ↦ omega (arith, c.forget_page.ensures.lower class, c.loop-page.invariant.start q class (sym (before q other) ∙ inside) known)
      ];
      bounds = c.forget_page.ensures.bounds ∙ c.loop-page.invariant.bounds;
      most = c.forget_page.ensures.most ∙ c.loop-page.invariant.most;
    }

pub returns-clause-knows : goal.returns-clause-knows
returns-clause-knows c shape before after words opens had knows =
    let done = c.loop-page.invariant in
    let last : c.loop-page.page ≡ c.args.end = omega arith in
    forgotten shape before after c.args.self.now c.loop-page.self c.args.first c.loop-page.page
    (record {
      bounds = done.bounds;
      most = done.most;
      here = done.here;
      there = done.there;
      lower = done.lower;
      start = λ q class inside known. let at : q * shape.page_words ≡ q * c.args.page_words = ap (λ w. q * w) words in omega (arith, done.start q class inside known);
    }) (subst (GapsOpenedIn shape before after c.args.first) (sym last) opens) had knows
