use Rattle.std.proofs.Common.{◌≡◌, ℕ, ◌+◌, ◌-◌, ◌*◌, ◌%◌, ◌^◌, ◌<◌, ◌≤◌, false, cond, ltb, ap, sym, ◌∙◌, inl, inr, arith}
use Rattle.std.proofs.lemmas.Bool.{cases_lt, cases_Bool, ltb-true}
use Rattle.std.proofs.Math.Pow.{pow_mono}
use Rattle.gap_bounds.specs.Gaps.{least_of}
use Rattle.gap_bounds.proofs.classes.class_of.Goals as goal

pub returns : goal.returns
returns c =
    let p : ℕ = c.ilog2-power.result in
    let few : p ≤ 13 = elim (cases_lt 13 p) [
      | inl more ↦
          (let high : 2 ^ 14 ≤ 2 ^ p = pow_mono {i = 14} {j = p} (omega arith) in
          absurd (omega (arith, c.ilog2-power.ensures.power_le, c.requires)))
      | inr less ↦ less
    ] in
    let many : 6 ≤ p = elim (cases_lt p 6) [
      | inl less ↦
          (let low : 2 ^ p ≤ 2 ^ 5 = pow_mono {i = p} {j = 5} (omega arith) in
          absurd (omega (arith, c.ilog2-power.ensures.next_power_gt, c.if-size-lt64.false)))
      | inr more ↦ more
    ] in
    let value : 1 * 2 ^ p % 4294967296 ≡ 2 ^ p = omega (arith, c.ilog2-power.ensures.power_le, c.requires) in
    let past : ltb (p + 58) 64 ≡ false = elim (cases_Bool (ltb (p + 58) 64)) [
      | inl holds ↦ absurd (let less : p + 58 < 64 = ltb-true (p + 58) 64 holds in omega arith)
      | inr clear ↦ clear
    ] in
    let back : p + 58 - 58 ≡ p = omega arith in
    let least : least_of (p + 58) ≡ 2 ^ p = ap (λ t. cond t (p + 58) (2 ^ (p + 58 - 58))) past ∙ ap (λ k. 2 ^ k) back in
    let large : 2 ^ 6 ≤ 2 ^ p = pow_mono {i = 6} {j = p} many in
    record {
      number = omega arith;
      least_is = value ∙ sym least;
      below = omega (arith, value, c.ilog2-power.ensures.power_le);
      own = λ small. absurd (omega (arith, c.if-size-lt64.false));
      large = λ _. omega (arith, value, large);
    }
