use Rattle.std.proofs.Common.{rules, ◌≡◌, ◌≢◌, ◌<◌, ℕ, ◌+◌, ◌++◌, ◌∷◌, [], length, IsPermutation, Contains, sym, subst, arith}
use Rattle.mark_worklist.specs.Families.{at}
use Rattle.mark_worklist.proofs.Taking.{moved, still-coming, numbered-more}
use Rattle.mark_worklist.proofs.joining.take_in.Goals as goal

pub loop-number-preserved : goal.loop-number-preserved
loop-number-preserved c =
    let inv = c.loop-number.invariant in
    let all = c.args.family.now.items ++ c.args.shares.items in
    let family = c.loop-number.family.items in
    let rest = c.loop-number.shares.items in
    let s = c.take_numbered-share.result in
    let place = c.take_numbered-share.ensures.place in
    let i = place.0 in
    let within : i < length rest = search rules in
    let long : length family ≡ c.loop-number.number + 1 = search rules in
    record {
      count = inv.count;
      taken = search rules;
      rest = search rules;
      room = search rules;
      same = subst (λ l. IsPermutation all (l ++ c.take_numbered-share.new.shares.items)) (sym c.push_reserved.ensures.items)
          (subst (λ l. IsPermutation all ((family ++ s ∷ []) ++ l)) (sym place.3) (moved rest i s within place.2 all family inv.same));
      numbered = subst (λ l. (k : ℕ) → k < c.loop-number.number + 1 + 1 → (at l k).number ≡ k) (sym c.push_reserved.ensures.items)
          (numbered-more family s (c.loop-number.number + 1) long c.take_numbered-share.ensures.number inv.numbered);
      coming = λ n l m.
          let other : s.number ≢ n = λ e. omega (arith, l, e, c.take_numbered-share.ensures.number) in
          let before : c.loop-number.number < n = omega (arith, l) in
          let t = still-coming rest i s within place.2 n other (inv.coming n before m) in
          (t.0, subst (λ l. Contains l t.0) (sym place.3) t.1, t.2);
    }
