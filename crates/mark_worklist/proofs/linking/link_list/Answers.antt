use Rattle.std.proofs.Common.{rules, ◌+◌, vec_len, sym, subst, ◌∙◌, ap}
use Rattle.mark_worklist.specs.Linking.{lists_of, IsLinked}
use Rattle.mark_worklist.proofs.Links.{links, passes, has-parts, same-lists}
use Rattle.mark_worklist.proofs.linking.link_list.Goals as goal
use Rattle.mark_worklist.proofs.linking.link_list.Goals.{then-taker-giver+in_ok-give_end, else-taker-giver}

pub give_end-requires-clause-parts : goal.give_end-requires-clause-parts
give_end-requires-clause-parts c = has-parts (lists_of c.args.shares.now.items) c.args.giver c.loop-taker.taker (search rules) (search rules) (search rules) (search rules) _ (c.loop-taker.invariant.linked.each c.args.giver (search rules))

pub loop-taker-preserved : goal.loop-taker-preserved
loop-taker-preserved c =
    let names = lists_of c.args.shares.now.items in
    let linked = c.loop-taker.invariant.linked in
    elim c.if-taker-giver.branch [
      | then-taker-giver+in_ok-give_end w ↦ (
          let gave = w.in_ok-give_end.ensures.gave in
          record {
            as_many = ap vec_len w.shares-is ∙ w.in_ok-give_end.ensures.as_many ∙ c.loop-taker.invariant.as_many;
            end = search rules;
            names = ap (λ v. lists_of v.items) w.shares-is ∙ same-lists names c.args.giver c.loop-taker.taker (search rules) w.if-taker-giver.true (search rules) (search rules) _ _ gave ∙ c.loop-taker.invariant.names;
            linked = subst (λ v. IsLinked names c.args.giver (c.loop-taker.taker + 1) v.items) (sym w.shares-is) (links names c.args.giver c.loop-taker.taker (search rules) w.if-taker-giver.true (search rules) (search rules) _ _ linked gave);
          })
      | else-taker-giver w ↦ record {
        as_many = search rules;
        end = search rules;
        names = search rules;
        linked = subst (λ v. IsLinked names c.args.giver (c.loop-taker.taker + 1) v.items) (sym w.shares-is)
            (subst (λ t. IsLinked names c.args.giver (t + 1) c.loop-taker.shares.items) (sym w.if-taker-giver.false) (passes names c.args.giver _ (subst (λ t. IsLinked names c.args.giver t c.loop-taker.shares.items) w.if-taker-giver.false linked)));
      }
    ]
