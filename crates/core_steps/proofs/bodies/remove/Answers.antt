use Rattle.std.proofs.Common.{rules, ◌∙◌, not, eqb, filter, ap}
use Rattle.std.proofs.lemmas.Fn.{filter_same}
use Rattle.core_steps.proofs.bodies.remove.Goals as goal

pub returns : goal.returns
returns c =
    filter_same _ (λ p. not (eqb p c.args.a)) _ (λ x b f' k. search rules) _ _ c.retain.ensures.filtered
    ∙ ap (filter (λ p. not (eqb p c.args.a))) c.set.view_is
