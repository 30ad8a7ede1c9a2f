use Rattle.std.proofs.Common.{◌≡◌, ◌-◌, get_or, ap, arith, ◌∙◌}
use Rattle.std.proofs.lemmas.Grind.{common_steps}
use Rattle.std.proofs.lemmas.List.{get_or-set_other}
use Rattle.page_space.proofs.table.Table.leave_page.Goals as goal

pub invariant_of-self-else-after-eq0 : goal.invariant_of-self-else-after-eq0
invariant_of-self-else-after-eq0 c = record {
  in_use = grind (arith, common_steps);
  buckets = grind (arith, common_steps);
  starts = grind (arith, common_steps);
  few = grind (arith, common_steps);
  lowest = grind (arith, common_steps);
  below = grind (arith, common_steps);
  top = grind (arith, common_steps);
  above = λ page high.
      let other : page ≡ c.args.page → ⊥ =
      (λ same. omega (arith, c.requires.some, ap (λ t. get_or t.objects c.args.page 0) c.self.view_is, c.self.invariant.above c.args.page (omega (arith, same)))) in
      get_or-set_other c.self.inside.objects.items c.args.page page (c.index.result.now - 1) 0 other ∙ c.self.invariant.above page high;
}
