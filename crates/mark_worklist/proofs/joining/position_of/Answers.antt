use Rattle.std.proofs.Common.{rules, ◌≡◌, ◌<◌, length, ap, ◌∙◌}
use Rattle.std.proofs.lemmas.List.{get_or_default}
use Rattle.mark_worklist.specs.Families.{at, nobody}
use Rattle.mark_worklist.proofs.joining.position_of.Goals as goal

pub unreachable-requires : goal.unreachable-requires
unreachable-requires c =
    let shares = c.args.shares.now.items in
    let s = c.requires.0 in
    let k = c.requires.1.0 in
    let within : k < length shares = c.requires.1.1 in
    let is : at shares k ≡ s = get_or_default shares k nobody s within ∙ c.requires.1.2 in
    let behind : k < c.loop-i.i = search rules in
    c.loop-i.invariant.not_before k behind (ap (λ t. t.number) is ∙ c.requires.2)
