use Rattle.std.proofs.Common.{◌≡◌, ℕ, ◌+◌, ◌*◌, ◌/◌, ◌<◌, ap, inl, inr, get_or, length, ◌∙◌, arith}
use Rattle.std.proofs.lemmas.Bool.{cases_lt}
use Rattle.std.proofs.lemmas.List.{get_or_default}
use Rattle.gap_bounds.proofs.bounds.Bounds.worth_from.Goals as goal

-- an address before the end of the group of another, and not before this one, is of the same group
same_group : (at a : ℕ) → (a < at → ⊥) → a < at / 256 * 256 + 256 → a / 64 / 4 ≡ at / 256
same_group at a low high = omega arith

pub loop-at-preserved-then-index-size : goal.loop-at-preserved-then-index-size
loop-at-preserved-then-index-size c = record {
  from = omega (arith, c.loop-at.invariant.from);
  passed = λ a low before within. elim (cases_lt a c.loop-at.at) [
    | inl earlier ↦ c.loop-at.invariant.passed a low earlier within
    | inr here ↦
        (let group : a / 64 / 4 ≡ c.loop-at.at / 256 = same_group c.loop-at.at a (λ less. omega arith) before in
        let row : c.loop-at.at / 256 < length c.self.inside.groups.items =
        omega (arith, c.loop-at-test.true, c.requires.end, c.self.invariant.whole, ap (λ xs. length xs) c.self.view_is) in
        let read : c.index.result.now ≡ get_or c.self.inside.groups.items (c.loop-at.at / 256) 0 =
        c.index.ensures ∙ get_or_default c.self.inside.groups.items (c.loop-at.at / 256) c.index.result.now 0 row in
        omega (
          arith,
          c.self.invariant.above (a / 64),
          ap (λ g. get_or c.self.inside.groups.items g 0) group,
          ap (λ xs. get_or xs (a / 64) 0) c.self.view_is,
          c.if-index-size.true,
          read,
        ))
  ];
}
