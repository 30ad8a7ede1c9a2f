use Rattle.std.proofs.Common.{rules, ◌≡◌, ◌+◌, ◌<◌, ◌∷◌, [], Bool, cond, length, ap, ◌∙◌, subst, arith, get_or-set_same}
use Rattle.callback_table.specs.Asking.{AsksInTurn}
use Rattle.callback_table.specs.WeakRegistry.{weak_registration_of, weak_registrations_of, places_of, AreLeftByAnswers}
use Rattle.callback_table.proofs.Asked.{callback_count, entry_is, one_gone, one_kept}
use Rattle.callback_table.proofs.InTurn.{asks_rest}
use Rattle.callback_table.proofs.weak_registry.WeakRegistry.prepare.Goals as goal
use Rattle.callback_table.proofs.weak_registry.WeakRegistry.prepare.Goals.{then-ask, else-ask}

pub loop-i-preserved : goal.loop-i-preserved
loop-i-preserved g c =
    let within : c.loop-i.i < length c.self.inside.entries.items = omega arith in
    let in_items : c.loop-i.i < length c.loop-i.self-inside.entries.items = omega (arith, c.loop-i.invariant.asked.length_is) in
    let asks : AsksInTurn (goal.F-pre g) (goal.F-step g) c.loop-i.mask (places_of (weak_registrations_of (c.index_mut.result.now ∷ _))) =
    subst (λ entries. AsksInTurn (goal.F-pre g) (goal.F-step g) c.loop-i.mask (places_of (weak_registrations_of entries)))
    (entry_is _ _ _ _ _ _ _ _ c.loop-i.invariant.asked within _ c.index_mut.ensures.value) c.loop-i.invariant.asks in
    let answered : Bool → Type 0 = λ is_kept. AreLeftByAnswers (goal.F-step g) c.loop-i.mask c.ask.new.mask (weak_registration_of c.index_mut.result.now ∷ [])
    (cond is_kept (weak_registration_of c.ask.new.entry ∷ []) []) in
    elim c.if-ask.branch [
      | then-ask w ↦
          (let counted : w.len-calls.result ≡ callback_count c.ask.new.entry =
          w.len-calls.ensures ∙ ap (λ entry. entry.callbacks.len) (w.index.ensures ∙ get_or-set_same _ _ _ _ in_items)
          ∙ c.ask.new.entry.callbacks.ok.0 in
          record {
            asks = asks_rest _ _ _ _ (weak_registration_of c.index_mut.result.now) _ _ asks c.ask.ensures.left;
            asked =
                one_kept _ _ _ _ _ _ _ _ c.loop-i.invariant.asked within _ c.index_mut.ensures.value c.ask.new.mask c.ask.new.entry _ _ _
                (subst answered w.if-ask.true c.ask.ensures.left) (ap (λ inside. inside.entries.items) w.self-inside-is ∙ w.swap.ensures.items)
                w.kept-is (w.calls-is ∙ ap (λ more. c.loop-i.calls + more) counted) c.ask.ensures.callbacks;
            ran = search rules;
          })
      | else-ask w ↦
          record {
            asks = asks_rest _ _ _ _ (weak_registration_of c.index_mut.result.now) _ _ asks c.ask.ensures.left;
            asked =
                one_gone _ _ _ _ _ _ _ _ c.loop-i.invariant.asked within _ c.index_mut.ensures.value c.ask.new.mask c.ask.new.entry _ _ _
                (subst answered w.if-ask.false c.ask.ensures.left) (ap (λ inside. inside.entries.items) w.self-inside-is) w.kept-is w.calls-is;
            ran = search rules;
          }
    ]
