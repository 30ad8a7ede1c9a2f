use Rattle.std.proofs.Common.{rules, ◌≡◌, subst}
use Rattle.mark_worklist.specs.Ends.{Moved}
use Rattle.mark_worklist.proofs.Stolen.{moved-from}
use Rattle.mark_worklist.proofs.share.Share.move_from.Goals as goal

pub returns-then-self : goal.returns-then-self
returns-then-self c =
    let x = c.index_mut.result.now in
    let e = c.move_some.new.self in
    let own : c.self.inside.own ≡ c.args.self.now.own = search rules in
    record {
      moved = moved-from c.args.self.now _ c.args.i 512 x e c.requires.within (search rules) (search rules)
          (subst (λ o. Moved 512 x o e c.move_some.new.own) own c.move_some.ensures);
    }
