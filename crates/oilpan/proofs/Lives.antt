-- That two lives are equal has one proof at most.
use Rattle.std.proofs.Common.{◌≡◌, ℕ, zero, suc, refl, sym, ap, ◌∙◌}
use mathlib.Core.HLevel.{collapsible→set}
use Rattle.std.proofs.Props.{props}
use Rattle.gc_graph.specs.State.{Life}
use Rattle.gc_graph.specs.State.Life.{Live, Dead, Gone}

abbrev number_of : Life → ℕ
number_of Live = 0
number_of Dead = 1
number_of Gone = 2

abbrev life_of : ℕ → Life
life_of zero = Live
life_of (suc zero) = Dead
life_of (suc (suc n)) = Gone

back : (life : Life) → life_of (number_of life) ≡ life
back Live = refl
back Dead = refl
back Gone = refl

numbers : IsSet ℕ
numbers = search props

pub Life_set : IsSet Life
Life_set =
    collapsible→set (λ x y p. sym (back x) ∙ ap life_of (ap number_of p) ∙ back y)
    (λ x y p q. ap (λ z. sym (back x) ∙ ap life_of z ∙ back y) (numbers (number_of x) (number_of y) (ap number_of p) (ap number_of q)))
