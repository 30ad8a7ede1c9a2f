use Rattle.std.proofs.Common.{◌≡◌, ℕ, List, Bool, true, false, not, cond, Option, None, Some, get_or, set, ap, sym, ◌∙◌}
use Rattle.std.proofs.lemmas.List.{set-get_or}
use Rattle.gc_graph.specs.Pause.{clear_slot}
use Rattle.marker_core.specs.Bodies.{holds}
use Rattle.weak_clearing.proofs.slots.clear_at.Goals as goal

abbrev cleared : List ℕ → Option ℕ → Option ℕ
cleared marked slot = clear_slot (λ a. not (holds marked a)) slot

told : (marked : List ℕ) (slot : Option ℕ) (place : ℕ) (b : Bool) → slot ≡ Some place → holds marked place ≡ b → cleared marked slot ≡ cond (not b) None (Some place)
told marked slot place b is mark = ap (cleared marked) is ∙ ap (λ t. cond (not t) None (Some place)) mark

pub returns-then-not-is_marked-clause-cleared : goal.returns-then-not-is_marked-clause-cleared
returns-then-not-is_marked-clause-cleared c =
    c.clear.ensures
    ∙ ap (set c.args.weak.now c.args.i) (sym (told c.args.seat.now.marked (get_or c.args.weak.now c.args.i None) c.in-Some.place false (sym c.get.ensures ∙ c.in-Some.is)
    (sym c.is_marked.ensures.mark ∙ c.if-not-is_marked.true)))

pub returns-else-not-is_marked-clause-cleared : goal.returns-else-not-is_marked-clause-cleared
returns-else-not-is_marked-clause-cleared c =
    let slot : get_or c.args.weak.now c.args.i None ≡ Some c.in-Some.place = sym c.get.ensures ∙ c.in-Some.is in
    sym (ap (set c.args.weak.now c.args.i) (told c.args.seat.now.marked (get_or c.args.weak.now c.args.i None) c.in-Some.place true slot
    (sym c.is_marked.ensures.mark ∙ c.if-not-is_marked.false) ∙ sym slot) ∙ set-get_or c.args.weak.now c.args.i None)
