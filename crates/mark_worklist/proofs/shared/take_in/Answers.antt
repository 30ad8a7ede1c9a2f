use Rattle.std.proofs.Common.{◌≡◌, ◌++◌, ℕ, List, length, sym, ap, ◌∙◌, subst}
use Rattle.mark_worklist.specs.Joining.{IsTakenOrLeft}
use Rattle.mark_worklist.specs.Left.{shares_in, left_on, IsLeftOn}
use Rattle.mark_worklist.proofs.Without.{as_many_on, taken_on}
use Rattle.mark_worklist.proofs.shared.take_in.Goals as goal

pub returns-clause-count : goal.returns-clause-count
returns-clause-count c =
    let left = c.finish-tally.ensures.left in
    sym left.1 ∙ sym (as_many_on _ c.finish-tally.new.self left.0 left.3 left.3) ∙ ap length (sym c.left_on.ensures)

pub returns-clause-left : goal.returns-clause-left
returns-clause-left c =
    let left = c.finish-tally.ensures.left in
    subst (IsLeftOn c.finish-tally.new.self) (sym c.left_on.ensures) (record {
      joined = c.finish-tally.ensures.same.1;
      known = c.finish-tally.ensures.known;
      taken = taken_on c.finish-tally.new.self c.finish-tally.new.self left.0 left.3 left.3;
    })

pub returns-clause-items : goal.returns-clause-items
returns-clause-items c =
    let left = c.finish-tally.ensures.left in
    let old : c.in-Some.list ≡ shares_in c.args.shared.now = ap shares_in (sym c.in-Some.is) in
    let on : List ℕ = left_on c.finish-tally.new.self in
    let taken : IsTakenOrLeft (c.in-Some.list ++ c.args.shares.items) on =
    taken_on (c.in-Some.list ++ c.args.shares.items) c.finish-tally.new.self left.0 left.2 left.3 in
    subst (IsTakenOrLeft (shares_in c.args.shared.now ++ c.args.shares.items)) (sym c.left_on.ensures) (subst (λ l. IsTakenOrLeft (l ++ c.args.shares.items) on) old taken)
