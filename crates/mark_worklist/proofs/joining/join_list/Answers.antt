use Rattle.std.proofs.Common.{rules, ◌≡◌, ◌≢◌, ◌<◌, ◌+◌, length, vec_len, vec_capacity, refl, sym, subst, ◌∙◌, arith}
use Rattle.mark_worklist.specs.Joining.{ArePartJoined, LoseNothing}
use Rattle.mark_worklist.proofs.Items.{same-items, items-then, back-items}
use Rattle.mark_worklist.proofs.Joins.{has-end, end-list, goes-back, passes, begins, ends}
use Rattle.mark_worklist.proofs.joining.join_list.Goals as goal
use Rattle.mark_worklist.proofs.joining.join_list.Goals.{then-giver-owner, else-giver-owner}

pub loop-giver-init : goal.loop-giver-init
loop-giver-init c =
    let before = c.requires.before in
    record {
      end = c.len-giver-end.ensures;
      as_many = refl;
      room = refl;
      same = same-items _;
      joined = (before.0, before.1, begins before.0 c.args.owner c.args.family.now.items before.2);
    }

pub give_back-requires-clause-some : goal.give_back-requires-clause-some
give_back-requires-clause-some c =
    let names = c.loop-giver.invariant.joined.0 in
    let h = c.loop-giver.invariant.joined.2 in
    let in-o : c.args.owner < length names = search rules in
    let in-g : c.loop-giver.giver < length names = search rules in
    has-end names c.args.owner c.loop-giver.giver (search rules) in-o in-g _ _ (h.each c.args.owner in-o) (h.each c.loop-giver.giver in-g)

pub give_back-requires-clause-list : goal.give_back-requires-clause-list
give_back-requires-clause-list c =
    let names = c.loop-giver.invariant.joined.0 in
    let h = c.loop-giver.invariant.joined.2 in
    let in-o : c.args.owner < length names = search rules in
    let in-g : c.loop-giver.giver < length names = search rules in
    end-list names c.args.owner c.loop-giver.giver (search rules) in-o in-g _ _ (h.each c.args.owner in-o) (h.each c.loop-giver.giver in-g)

pub loop-giver-preserved : goal.loop-giver-preserved
loop-giver-preserved c =
    let inv = c.loop-giver.invariant in
    let names = inv.joined.0 in
    let h = inv.joined.2 in
    let old = c.loop-giver.family.items in
    elim c.if-giver-owner.branch [
      | then-giver-owner w ↦ (
          let in-o : c.args.owner < length names = search rules in
          let in-g : c.loop-giver.giver < length names = search rules in
          let apart : c.loop-giver.giver ≢ c.args.owner = w.if-giver-owner.true in
          let new = w.give_back.new.family.items in
          let gave = w.give_back.ensures.gave in
          let same = back-items old new c.loop-giver.giver c.args.owner apart (omega (arith, in-g, h.as_many)) (omega (arith, in-o, h.as_many)) gave in
          let is = sym w.family-is in
          record {
            end = inv.end;
            as_many = subst (λ v. vec_len v ≡ vec_len c.args.family.now) is (w.give_back.ensures.as_many ∙ inv.as_many);
            room = subst (λ v. vec_capacity v ≡ vec_capacity c.args.family.now) is (w.give_back.ensures.room ∙ inv.room);
            same = subst (λ v. LoseNothing c.args.family.now.items v.items) is (items-then _ old new inv.same same);
            joined = (names, inv.joined.1, subst (λ v. ArePartJoined names c.args.owner (c.loop-giver.giver + 1) v.items) is (goes-back names c.args.owner c.loop-giver.giver apart in-o in-g old new h gave));
          })
      | else-giver-owner w ↦ (
          let at-owner : c.loop-giver.giver ≡ c.args.owner = w.if-giver-owner.false in
          let is = sym w.family-is in
          record {
            end = inv.end;
            as_many = subst (λ v. vec_len v ≡ vec_len c.args.family.now) is inv.as_many;
            room = subst (λ v. vec_capacity v ≡ vec_capacity c.args.family.now) is inv.room;
            same = subst (λ v. LoseNothing c.args.family.now.items v.items) is inv.same;
            joined = (
              names,
              inv.joined.1,
              subst (λ v. ArePartJoined names c.args.owner (c.loop-giver.giver + 1) v.items) is
                  (subst (λ g. ArePartJoined names c.args.owner (g + 1) old) (sym at-owner) (passes names c.args.owner old (subst (λ g. ArePartJoined names c.args.owner g old) at-owner h))),
            );
          })
    ]

pub returns : goal.returns
returns c =
    let inv = c.loop-giver.invariant in
    let names = inv.joined.0 in
    let h = inv.joined.2 in
    let last : c.loop-giver.giver ≡ length names = search rules in
    record {
      after = (names, inv.joined.1, ends names c.args.owner c.loop-giver.family.items (search rules) (subst (λ g. ArePartJoined names c.args.owner g c.loop-giver.family.items) last h));
      same = inv.same;
      as_many = inv.as_many;
      room = inv.room;
    }
