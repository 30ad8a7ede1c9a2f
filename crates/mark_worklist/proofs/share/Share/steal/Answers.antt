use Rattle.std.proofs.Common.{rules, ◌≡◌, subst}
use Rattle.mark_worklist.specs.Shares.{Stole}
use Rattle.mark_worklist.proofs.Looks.{Looked, looked-at}
use Rattle.mark_worklist.proofs.Stolen.{looked-same, stolen, stolen-same}
use Rattle.mark_worklist.proofs.share.Share.steal.Goals as goal
use Rattle.mark_worklist.proofs.share.Share.steal.Goals.{After-wake}

-- one end gave an item, and some were moved from there
stole : (c : After-wake) → Stole c.args.self.now c.in-Some.a c.wake.new.self
stole c =
    let at = c.in-Some.ensures in
    stolen c.args.self.now c.loop-i.self _ c.move_from.new.self c.wake.new.self c.loop-i.i c.in-Some.a c.index_mut.result.now c.steal.new.self
    c.loop-i.invariant.inside c.loop-i.invariant.looked (search rules) (search rules) at.list at.moved at.taken (search rules) c.move_from.ensures.moved c.wake.ensures

pub returns-in-Some-clause-taken : goal.returns-in-Some-clause-taken
returns-in-Some-clause-taken c = stole c

pub returns-in-Some-clause-same : goal.returns-in-Some-clause-same
returns-in-Some-clause-same c = stolen-same c.args.self.now _ c.in-Some.a (stole c)

pub returns-clause-same : goal.returns-clause-same
returns-clause-same c = looked-same c.args.self.now _ (search rules) (search rules) (search rules)

pub loop-i-preserved : goal.loop-i-preserved
loop-i-preserved c =
    let old = c.args.self.now.others in
    let now = c.self-in-loop-i.inside.others.items in
    let items : c.loop-i.self.others ≡ now = search rules in
    let so = subst (λ l. Looked old l c.loop-i.i) items c.loop-i.invariant.looked in
    record {
      inside = search rules;
      count = search rules;
      looked = looked-at old now c.loop-i.i c.index_mut.result.now c.steal.new.self so (search rules) (search rules) (search rules);
    }
