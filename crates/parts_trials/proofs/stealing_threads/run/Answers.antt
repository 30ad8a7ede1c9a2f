use Rattle.std.proofs.Common.{rules, ◌≡◌, [], ◌∷◌, get_or, sym, subst, ◌∙◌, ap}
use Rattle.std.specs.List.{remove}
use Rattle.mark_worklist.specs.Joining.{AreAllShares}
use Rattle.parts_trials.proofs.TwoShares.{two-shares, none-left}
use Rattle.parts_trials.proofs.stealing_threads.run.Goals as goal

pub is_whole-requires : goal.is_whole-requires
is_whole-requires g c =
    let shares = c.in_ok-list.shares.items in
    let fresh = c.in_ok-list.ensures in
    let rest : c.remove-one.new.self.items ≡ [] = c.remove-one.ensures.items ∙ ap (λ l. remove l 0) c.remove-two.ensures.items ∙ none-left shares fresh.as_many in
    let list' = c.all_three-list.result.0 in
    let one' = c.all_three-list.result.1 in
    let two' = c.all_three-list.result.2 in
    let is : c.push_reserved-2.new.self.items ≡ two' ∷ one' ∷ [] = search rules in
    let is-one = c.remove-one.ensures.value ∙ ap (λ l. get_or l 0 c.remove-one.result) c.remove-two.ensures.items in
    subst (AreAllShares list') (sym is)
    (two-shares c.in_ok-list.list shares list' c.remove-one.result c.remove-two.result one' two' fresh c.remove-two.ensures.value is-one c.all_three-list.ensures.list c.all_three-list.ensures.one c.all_three-list.ensures.two)
