use Rattle.std.proofs.Common.{rules}
use Rattle.mark_worklist.proofs.Links.{gave-end}
use Rattle.mark_worklist.proofs.linking.give_end.Goals as goal

pub returns : goal.returns
returns c = record {
  as_many = search rules;
  gave = gave-end c.args.shares.now.items c.args.giver c.args.taker c.index_mut.result.now c.index_mut-2.result.now c.other_end.new.self c.add_end.new.self c.in_ok-end.end
      (search rules) (search rules) c.requires.apart (search rules) (search rules) (search rules) (search rules) (search rules) (search rules, search rules);
}
