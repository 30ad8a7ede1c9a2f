use Rattle.std.proofs.Common.{◌≡◌, ◌∙◌, sym, ap, map, arith}
use Rattle.std.specs.List.{range_with_len}
use Rattle.marker_core.specs.Looking.{is_pulled}
use Rattle.core_steps.proofs.MapLoop.{pushed_range}
use Rattle.core_steps.proofs.reaching.closing.Goals as goal

pub loop-n-preserved : goal.loop-n-preserved
loop-n-preserved c =
    pushed_range (is_pulled c.args.types.now c.args.bodies.now c.args.set.now) c.loop-n.next.items c.push.new.self.items c.loop-n.n
    c.is_pulled.result c.loop-n.invariant c.in_ok-push.ensures.items c.is_pulled.ensures

pub returns : goal.returns
returns c =
    let end : c.loop-n.n ≡ c.args.count = omega arith in
    c.loop-n.invariant
    ∙ ap (λ m. map (is_pulled c.args.types.now c.args.bodies.now c.args.set.now) (range_with_len 0 m)) end
    ∙ sym (c.closes_by_words.ensures c.args.count c.args.types.now c.args.bodies.now c.args.set.now c.requires.whole c.requires.apart)
