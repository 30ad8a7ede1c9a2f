use Rattle.std.proofs.Common.{rules, ◌≡◌, ◌<◌, ◌++◌, length, take, set, get_or, subst, ap, ◌∙◌, inl, inr, arith}
use Rattle.std.proofs.lemmas.List.{length-append, set-get_or, get_or_default, take_all}
use Rattle.std.proofs.lemmas.Bool.{cases_lt}
use Rattle.mark_worklist.specs.Hands.{HasLeft, IsLeft}
use Rattle.mark_worklist.specs.Families.{at, nobody}
use Rattle.mark_worklist.specs.Joining.{OwnLeft}
use Rattle.mark_worklist.proofs.Items.{all-own}
use Rattle.mark_worklist.proofs.Taking.{left-more}
use Rattle.mark_worklist.proofs.counting.count_left.Goals as goal

pub loop-i-preserved : goal.loop-i-preserved
loop-i-preserved c =
    let inv = c.loop-i.invariant in
    let shares = c.args.family.now.items in
    let counted = inv.counted in
    let left = c.count_left-left.ensures.left in
    let x = c.index_mut.result.now in
    let within : c.loop-i.i < length shares = search rules in
    let here : x ≡ at shares c.loop-i.i = c.index_mut.ensures.value ∙ ap (λ l. get_or l c.loop-i.i x) inv.same ∙ get_or_default shares c.loop-i.i x nobody within in
    record {
      end = inv.end;
      same = ap (set c.loop-i.family.items c.loop-i.i) (c.count_left-left.ensures.same ∙ c.index_mut.ensures.value) ∙ set-get_or c.loop-i.family.items c.loop-i.i x ∙ inv.same;
      room = inv.room;
      few = omega (arith, inv.few, c.count_left-left.ensures.few);
      counted = (
        counted.0 ++ left.0,
        length-append counted.0 left.0 ∙ omega (arith, counted.1, left.1),
        left-more shares c.loop-i.i counted.0 left.0 within counted.2 (subst (λ s. IsLeft s.own.hand left.0) here left.2),
      );
      each = λ k l. elim (cases_lt k c.loop-i.i) [
        | inl before ↦ inv.each k before
        | inr last ↦
            (let this : c.loop-i.i ≡ k = omega (arith, l, last) in
            subst (λ j. HasLeft (at shares j).own.hand) this (left.0, subst (λ s. IsLeft s.own.hand left.0) here left.2))
      ];
    }

pub returns-clause-left : goal.returns-clause-left
returns-clause-left c =
    let counted = c.loop-i.invariant.counted in
    let shares = c.args.family.now.items in
    let all : take c.loop-i.i shares ≡ shares = take_all c.loop-i.i shares (search rules) in
    (counted.0, counted.1, all-own shares counted.0 c.requires.joined c.requires.even (subst (λ l. OwnLeft l counted.0) all counted.2))

pub returns-clause-each : goal.returns-clause-each
returns-clause-each c = record {
  each = λ k d l.
      let shares = c.args.family.now.items in
      subst (λ s. HasLeft s.own.hand) (get_or_default shares k nobody d l) (c.loop-i.invariant.each k (search rules));
  even = c.requires.even;
}
