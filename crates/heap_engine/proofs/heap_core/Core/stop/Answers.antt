use Rattle.std.proofs.Common.{◌≡◌, ℕ, ap, ◌∙◌, subst}
use Rattle.std.specs.List.{Contains}
use Rattle.heap_cycle.specs.declared.parts.Parts.{Parts}
use Rattle.heap_cycle.specs.Owned.{HasBegun, OwnedView}
use Rattle.heap_engine.specs.declared.heap_core.Core.TheInside.{Inside}
use Rattle.heap_engine.proofs.heap_core.Core.stop.Given as given
use Rattle.heap_engine.proofs.heap_core.Core.stop.Goals as goal
use Rattle.heap_engine.proofs.heap_core.Core.stop.Goals.{then-not-self, else-not-self}

-- markers that are joined leave the region
region_stays : (g : given.Over) (c : goal.After-self-1 g) → c.if-not-self.self-inside.parts.region ≡ c.self.inside.parts.region
region_stays g c = elim c.if-not-self.branch [
  | then-not-self w ↦ ap (λ (h : Inside). h.parts.region) w.self-inside-is ∙ ap (λ (p : Parts). p.region) w.join_crew.ensures.others
  | else-not-self w ↦ ap (λ (h : Inside). h.parts.region) w.self-inside-is
]

pub returns-clause-begun : goal.returns-clause-begun
returns-clause-begun g c =
    rw (← c.self.view_is) (subst (λ (v : OwnedView). (j : ℕ) → Contains v.running j → HasBegun v j) (region_stays g c) c.close.ensures.begun)
