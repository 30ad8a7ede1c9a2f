use Rattle.std.proofs.Common.{rules, ◌≡◌, ◌+◌, ◌-◌, length, refl, subst, ◌∙◌, arith}
use Rattle.mark_worklist.specs.Joining.{AreOpen}
use Rattle.mark_worklist.proofs.Items.{same-items, items-then}
use Rattle.mark_worklist.proofs.Joins.{joined-all}
use Rattle.mark_worklist.proofs.joining.join_lists.Goals as goal

pub loop-past-init : goal.loop-past-init
loop-past-init c =
    let before = c.requires.before in
    let all : length before.0 ≡ c.len-count.result - 0 = search rules in
    record {
      count = c.len-count.ensures;
      as_many = refl;
      room = refl;
      same = same-items _;
      state = (before.0, before.1, subst (λ d. AreOpen before.0 d c.args.family.now.items) all before.2);
    }

pub join_list-requires-clause-before : goal.join_list-requires-clause-before
join_list-requires-clause-before c =
    let state = c.loop-past.invariant.state in
    let next : c.len-count.result - c.loop-past.past ≡ c.len-count.result - 1 - c.loop-past.past + 1 = omega (arith, c.loop-past-test.true) in
    (state.0, state.1, subst (λ d. AreOpen state.0 d c.loop-past.family.items) next state.2)

pub loop-past-preserved : goal.loop-past-preserved
loop-past-preserved c =
    let inv = c.loop-past.invariant in
    let after = c.join_list.ensures.after in
    let next : c.len-count.result - 1 - c.loop-past.past ≡ c.len-count.result - (c.loop-past.past + 1) = omega arith in
    record {
      count = inv.count;
      as_many = c.join_list.ensures.as_many ∙ inv.as_many;
      room = c.join_list.ensures.room ∙ inv.room;
      same = items-then _ _ _ inv.same c.join_list.ensures.same;
      state = (after.0, after.1, subst (λ d. AreOpen after.0 d c.join_list.new.family.items) next after.2);
    }

pub returns : goal.returns
returns c =
    let inv = c.loop-past.invariant in
    let done : c.len-count.result - c.loop-past.past ≡ 0 = omega (arith, c.loop-past-test.false) in
    record {
      joined = joined-all inv.state.0 c.loop-past.family.items (subst (λ d. AreOpen inv.state.0 d c.loop-past.family.items) done inv.state.2);
      same = inv.same;
      as_many = inv.as_many;
      room = inv.room;
    }
