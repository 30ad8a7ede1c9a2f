use Rattle.std.proofs.Common.{rules, ◌∙◌, not, eqb, filter, ap}
use Rattle.std.proofs.lemmas.Fn.{filter_same}
use Rattle.marker_core.specs.declared.states.Body.{Body}
use Rattle.core_steps.proofs.bodies.remove_body.Goals as goal

pub returns : goal.returns
returns c =
    filter_same _ (λ (b : Body). not (eqb b.place c.args.a)) _ (λ x b f' k. search rules) _ _ c.retain.ensures.filtered
    ∙ ap (filter (λ (b : Body). not (eqb b.place c.args.a))) c.bodies.view_is
