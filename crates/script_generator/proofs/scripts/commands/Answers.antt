use Rattle.std.proofs.Common.{◌≡◌, suc, ◌+◌, ◌∙◌, sym, ap, arith}
use Rattle.script_generator.specs.Generated.{next_number, number_after}
use Rattle.script_generator.proofs.MoreTurns.{another_turn}
use Rattle.script_generator.proofs.scripts.commands.Goals as goal

pub loop-before-preserved : goal.loop-before-preserved
loop-before-preserved c =
    let one_more : c.loop-before.before + 1 ≡ suc c.loop-before.before = omega arith in
    let number : c.next_number-number.result ≡ number_after c.args.seed (c.loop-before.before + 1) =
    c.next_number-number.ensures.next ∙ ap next_number c.loop-before.invariant.number ∙ ap (number_after c.args.seed) (sym one_more) in
    record {
      number = number;
      low = c.next_number-number.ensures.low;
      commands =
          another_turn c.args.seed c.loop-before.before (c.loop-before.before + 1) _ _ _ one_more c.loop-before.invariant.commands number
          c.in_ok-add_turn.ensures;
    }
