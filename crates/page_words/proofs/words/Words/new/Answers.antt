use Rattle.std.proofs.Common.{rules, ◌≡◌, ℕ, ◌+◌, List, [], replicate, sym, ◌∙◌, subst}
use Rattle.atomic_table.specs.Table.{opening}
use Rattle.page_words.specs.Rule.{RuleView, owner_view, IsCore, IsOwner}
use Rattle.marker_core.specs.Layout.{stop_at}
use Rattle.page_words.proofs.NewWords.{new_words, new_seat}
use Rattle.page_words.proofs.words.Words.new.Goals as goal

pub of_words-requires : goal.of_words-requires
of_words-requires c =
    let zeros : c.in_ok-words.words.items ≡ replicate (stop_at c.args.count + 1) 0 = search rules in
    subst (λ (ws : List ℕ). IsCore (opening ws [] (owner_view c.chosen-view.result.value))) (sym (c.as_slice.ensures.value ∙ zeros))
    (subst (λ (v : RuleView). IsCore (opening (replicate (stop_at c.args.count + 1) 0) [] (owner_view v))) (sym c.chosen-view.ensures)
    (new_words c.idle_is_ok.ensures c.args.count c.args.types.now c.requires c.count-few.ensures.few c.count-few.ensures.narrow))

pub invariant_of-result-2 : goal.invariant_of-result-2
invariant_of-result-2 c =
    let made : c.in_ok-table.seat.me ≡ (owner_view c.chosen-view.result.value, []) = search rules in
    subst IsOwner (sym made)
    (subst (λ (v : RuleView). IsOwner (owner_view v, [])) (sym c.chosen-view.ensures)
    (new_seat c.idle_is_ok.ensures c.args.count c.args.types.now c.requires c.count-few.ensures.few c.count-few.ensures.narrow))
