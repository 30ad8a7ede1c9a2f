use Rattle.std.proofs.Common.{rules, ℕ, ◌∙◌, ◌∷◌, not, eqb, filter, ap}
use Rattle.std.proofs.lemmas.Fn.{filter_same}
use Rattle.core_steps.proofs.mutator.refill.Goals as goal

pub returns : goal.returns
returns c =
    c.in_ok-insert.ensures.items
    ∙ ap (λ l. (c.args.a, c.args.w) ∷ l)
    (filter_same _ (λ (f : ℕ × ℕ). not (eqb f.0 c.args.a)) _ (λ x b f' k. search rules) _ _ c.retain.ensures.filtered
    ∙ ap (filter (λ (f : ℕ × ℕ). not (eqb f.0 c.args.a))) c.filled.view_is)
