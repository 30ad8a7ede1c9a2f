use Rattle.std.proofs.Common.{rules, ℕ, ◌∙◌, not, filter, ap}
use Rattle.std.proofs.lemmas.Fn.{filter_same}
use Rattle.marker_core.specs.Bodies.{body_has_word}
use Rattle.core_steps.proofs.objects.remove_words.Goals as goal

pub returns : goal.returns
returns c =
    filter_same _ (λ (f : ℕ × ℕ). not (body_has_word f.0 c.args.b.now)) _ (λ x b f' k. search rules) _ _ c.retain.ensures.filtered
    ∙ ap (filter (λ (f : ℕ × ℕ). not (body_has_word f.0 c.args.b.now))) c.filled.view_is
