use Rattle.std.proofs.Common.{rules, ◌≡◌, ◌<◌, ◌≤◌, ◌∷◌, [], ◌++◌, length, vec_capacity, ap, ap₂, ◌∙◌, arith}
use Rattle.mark_worklist.specs.Hands.{all_parts}
use Rattle.mark_worklist.proofs.Wholes.{first-and-rest, fresh-all}
use Rattle.mark_worklist.proofs.lists.SharedList.new.Goals as goal

pub invariant_of-result : goal.invariant_of-result
invariant_of-result c =
    let list : c.push_reserved.new.self.items ≡ c.remove.result ∷ [] = search rules in
    let n = ap length list in
    let room : all_parts ≤ vec_capacity c.push_reserved.new.self = search rules in
    (omega (arith, n), room)

pub returns : goal.returns
returns c =
    let all = c.in_ok-others.others.items in
    let x = c.remove.result in
    let some : 0 < length all = search rules in
    let list : c.push_reserved.new.self.items ≡ x ∷ [] = search rules in
    let n = ap length list in
    let whole : c.push_reserved.new.self.items ++ c.remove.new.self.items ≡ all = ap₂ (λ a b. a ++ b) list c.remove.ensures.items ∙ first-and-rest all x some c.remove.ensures.value in
    let made = c.in_ok-others.ensures.made in
    fresh-all c.args.shares all c.push_reserved.new.self.items c.remove.new.self.items whole n made.0 (search rules) made.1
