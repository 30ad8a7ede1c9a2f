use Rattle.std.proofs.Common.{rules, ◌≡◌, ◌<◌, ◌≤◌, length, sym, subst, ◌∙◌, arith}
use Rattle.mark_worklist.specs.Hands.{all_parts}
use Rattle.mark_worklist.specs.Families.{at, IsShareOf}
use Rattle.mark_worklist.specs.Linking.{lists_of, IsLinked}
use Rattle.mark_worklist.proofs.Links.{are-names, is-share, first-ends}
use Rattle.mark_worklist.proofs.linking.linked.Goals as goal

pub returns : goal.returns
returns c =
    let shares = c.loop-giver.shares.items in
    let names = lists_of shares in
    let count : length names ≡ c.args.count = search rules in
    let last : c.loop-giver.giver ≡ length names = omega (arith, count, c.loop-giver-test.false, c.loop-giver.auto.giver-end) in
    let linked : IsLinked names (length names) 0 shares = subst (λ g. IsLinked names g 0 shares) last c.loop-giver.invariant.linked in
    let few : length names ≤ all_parts = omega (arith, count, c.requires.few) in
    let some : 0 < length names = omega (arith, count, c.requires.first) in
    let named = are-names names shares few linked some in
    record {
      made = (
        (search rules),
        λ k l.
            let l' : k < length names = omega (arith, l, count) in
            let s = linked.each k l' in
            (s.number, subst (λ n. IsShareOf n (at shares k)) (sym named) (is-share names shares few linked k l'), s.fresh),
      );
      ends = first-ends names shares few linked some ∙ count;
    }
