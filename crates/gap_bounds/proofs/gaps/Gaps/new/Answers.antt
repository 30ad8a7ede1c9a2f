use Rattle.std.proofs.Common.{◌≡◌, ℕ, false, get_or, replicate, ap, arith, rules}
use Rattle.gap_bounds.proofs.Known.{nothing_known, same_in}
use Rattle.gap_bounds.proofs.gaps.Gaps.new.Goals as goal

pub invariant_of-result : goal.invariant_of-result
invariant_of-result c =
    let first : c.in_ok-first.first.items ≡ replicate 72 0 = search rules in
    record {
      few = search rules;
      known = search rules;
      first = search rules;
      highest = λ class. omega (arith, ap (λ xs. get_or xs class 0) first, same_in {X = ℕ} 72 class 0);
    }

pub returns-clause-knows : goal.returns-clause-knows
returns-clause-knows c shape extents =
    let known : c.in_ok-known.known.items ≡ replicate c.args.pages false = search rules in
    let first : c.in_ok-first.first.items ≡ replicate 72 0 = search rules in
    nothing_known shape extents _ c.args.pages 72 known first
