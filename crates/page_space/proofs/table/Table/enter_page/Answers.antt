use Rattle.std.proofs.Common.{◌≡◌, ◌+◌, ◌<◌, get_or, ap, inl, inr, arith, ◌∙◌}
use Rattle.std.proofs.lemmas.Bool.{cases_lt}
use Rattle.std.proofs.lemmas.Grind.{common_steps}
use Rattle.std.proofs.lemmas.List.{get_or-set_other}
use Rattle.page_space.proofs.table.Table.enter_page.Goals as goal
use Rattle.page_space.proofs.table.Table.enter_page.Goals.{then-before-eq0, else-before-eq0}

-- the top is above the page, and no other page above the old top gained an object
pub invariant_of-self : goal.invariant_of-self
invariant_of-self c =
    let page_below : c.args.page < c.if-before-eq0.self-inside.top = elim c.if-before-eq0.branch [
      | then-before-eq0 w ↦ omega (arith, ap (λ t. t.top) w.self-inside-is, w.max-self-inside.ensures)
      | else-before-eq0 w ↦ elim (cases_lt c.args.page c.self.inside.top) [
        | inl low ↦ omega (arith, ap (λ t. t.top) w.self-inside-is, low)
        | inr high ↦ absurd (let none : get_or c.self.inside.objects.items c.args.page 0 ≡ 0 = c.self.invariant.above c.args.page high in
            grind (arith, common_steps, none, w.if-before-eq0.false))
      ]
    ] in
    record {
      in_use = grind (arith, common_steps);
      buckets = grind (arith, common_steps);
      starts = grind (arith, common_steps);
      few = grind (arith, common_steps);
      lowest = grind (arith, common_steps);
      below = grind (arith, common_steps);
      top = grind (arith, common_steps);
      above = λ page high.
          let other : page ≡ c.args.page → ⊥ = (λ same. omega (arith, same, high, page_below)) in
          get_or-set_other c.if-before-eq0.self-inside.objects.items c.args.page page (c.index-before.result.now + 1) 0 other
          ∙ elim c.if-before-eq0.branch [
            | then-before-eq0 w ↦ ap (λ t. get_or t.objects.items page 0) w.self-inside-is
                ∙ c.self.invariant.above page (omega (arith, high, ap (λ t. t.top) w.self-inside-is, w.max-self-inside.ensures))
            | else-before-eq0 w ↦ ap (λ t. get_or t.objects.items page 0) w.self-inside-is
                ∙ c.self.invariant.above page (omega (arith, high, ap (λ t. t.top) w.self-inside-is))
          ];
    }
