use Rattle.std.proofs.Common.{rules, ◌≤◌, ◌+◌, ◌^◌, length, arith}
use Rattle.mark_worklist.proofs.Items.{left-few}
use Rattle.mark_worklist.proofs.share.Share.count_left.Goals as goal

pub returns-clause-few : goal.returns-clause-few
returns-clause-few c =
    let left = c.count_left.ensures.left in
    let laid : length c.args.self.now.own.hand.put + length c.args.self.now.own.hand.brought ≤ 2 ^ 60 = search rules in
    omega (arith, left.1, laid, left-few c.args.self.now.own.hand left.0 (search rules))
