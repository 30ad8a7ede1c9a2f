use Rattle.std.proofs.Common.{◌≡◌, ◌<◌, length, take, sym, ap, ◌∙◌, subst, arith}
use Rattle.std.proofs.lemmas.List.{take-append-le}
use Rattle.heap_region.specs.Handled.{IsHandled}
use Rattle.heap_region.proofs.taking.look_in_turn.Goals as goal

pub look_again-requires-clause-handled : goal.look_again-requires-clause-handled
look_again-requires-clause-handled g c k above below =
    let low : k < length c.args.pass.now.seen = omega (arith, below, c.requires.all) in
    let found : take k c.look-held.result.history ≡ take k c.args.pass.now.seen =
    ap (take k) c.look-held.ensures.found.goes_on.all ∙ take-append-le k c.args.pass.now.seen c.look-held.ensures.found.goes_on.rest (omega (arith, low)) in
    subst (IsHandled c.args.objects.now.nodes) (sym found) (c.requires.handled k above below)
