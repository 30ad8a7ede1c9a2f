use Rattle.std.proofs.Common.{rules, sym, subst}
use Rattle.mark_worklist.specs.Joining.{IsTakenOrLeft}
use Rattle.mark_worklist.specs.Lists.{IsOneMore}
use Rattle.mark_worklist.specs.Left.{IsLeftIn, IsLeftOn}
use Rattle.mark_worklist.proofs.Without.{one_without}
use Rattle.mark_worklist.proofs.shared.pop_left.Goals as goal

pub returns-in_err-a-in-Some-clause-left : goal.returns-in_err-a-in-Some-clause-left
returns-in_err-a-in-Some-clause-left c =
    let left = c.args.left.now.value in
    let before : IsLeftOn c.in-Some.list left = subst (λ o. IsLeftIn o left) c.in-Some.is c.requires.left in
    let p = c.in_err-a-in-Some.ensures.left before.joined before.known in
    record {
      joined = p.joined;
      known = p.known;
      taken = subst (IsTakenOrLeft c.pop.new.self) (sym (p.left left before.taken)) (p.none (search rules));
    }

pub returns-in_ok-a-in-Some-clause-left : goal.returns-in_ok-a-in-Some-clause-left
returns-in_ok-a-in-Some-clause-left c =
    let left = c.args.left.now.value in
    let before : IsLeftOn c.in-Some.list left = subst (λ o. IsLeftIn o left) c.in-Some.is c.requires.left in
    let p = c.in_ok-a-in-Some.ensures.left before.joined before.known in
    let t = p.left left before.taken in
    let one = one_without c.in_ok-a-in-Some.a left t.0 in
    subst (IsLeftOn c.pop.new.self) (sym c.without.ensures) (record {
      joined = p.joined;
      known = p.known;
      taken = subst (IsTakenOrLeft c.pop.new.self) (sym one.others) (t.1 one.before one.after one.all);
    })

pub returns-in_ok-a-in-Some-clause-items : goal.returns-in_ok-a-in-Some-clause-items
returns-in_ok-a-in-Some-clause-items c =
    let left = c.args.left.now.value in
    let before : IsLeftOn c.in-Some.list left = subst (λ o. IsLeftIn o left) c.in-Some.is c.requires.left in
    let p = c.in_ok-a-in-Some.ensures.left before.joined before.known in
    subst (λ l. IsOneMore l c.in_ok-a-in-Some.a left) (sym c.without.ensures) (one_without c.in_ok-a-in-Some.a left (p.left left before.taken).0)
