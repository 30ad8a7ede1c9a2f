use Rattle.std.proofs.Common.{◌≡◌, ℕ, ◌+◌, ◌-◌, ◌<◌, List, [], ◌∷◌, ◌++◌, length, get_or, set, take, drop, map, refl, sym, ap, ◌∙◌, arith, length-set}
use Rattle.std.proofs.lemmas.List.{length-map, take-map, drop-map, map_push, take_all, drop_all, take_more_set, drop_more}
use Rattle.callback_table.specs.declared.weak_registry.WeakRegistered.{WeakRegistered}
use Rattle.callback_table.specs.WeakRegistry.{WeakRegistryView, weak_registration_of, weak_registrations_of, weakly_placed_at}
use Rattle.callback_table.proofs.weak_registry.WeakRegistry.place_last.Goals as goal

module _ (items : List WeakRegistered) (last place : ℕ) (e : WeakRegistered) (is_last : last + 1 ≡ length items) (read : e ≡ get_or items last e) where
  last_changed : (changed : WeakRegistered) → set items last changed ≡ take last items ++ changed ∷ []
  last_changed changed =
      sym (take_all (last + 1) (set items last changed) (omega (arith, length-set items last changed))) ∙ take_more_set items last changed (omega arith)

  last_dropped : drop last items ≡ e ∷ []
  last_dropped =
      drop_more items last e (omega arith) ∙ ap (λ x. x ∷ drop (last + 1) items) (sym read) ∙ ap (λ more. e ∷ more) (drop_all (last + 1) items (omega arith))

  last_placed : (changed : WeakRegistered) → weak_registration_of changed ≡ weakly_placed_at place (weak_registration_of e)
      → weak_registrations_of (set items last changed)
      ≡ take last (weak_registrations_of items) ++ map (weakly_placed_at place) (drop last (weak_registrations_of items))
  last_placed changed is =
      ap weak_registrations_of (last_changed changed) ∙ map_push weak_registration_of (take last items) changed
      ∙ ap (λ front. front ++ weak_registration_of changed ∷ []) (sym (take-map weak_registration_of last items))
      ∙ ap (λ entry. take last (weak_registrations_of items) ++ entry ∷ []) is
      ∙ ap (λ back. take last (weak_registrations_of items) ++ map (weakly_placed_at place) back)
      (sym (drop-map weak_registration_of last items ∙ ap weak_registrations_of last_dropped))

pub returns-clause-entries : goal.returns-clause-entries
returns-clause-entries c =
    let items : List WeakRegistered = c.self.inside.entries.items in
    let count : length (weak_registrations_of items) ≡ length items = length-map items weak_registration_of in
    let some : 0 < length (weak_registrations_of items) = omega (arith, c.requires, ap (λ (view : WeakRegistryView). length view.entries) c.self.view_is) in
    let long : c.len-last.result ≡ length items = c.len-last.ensures ∙ c.self.inside.entries.ok.0 in
    last_placed items (c.len-last.result - 1) c.args.place c.index_mut.result.now (omega arith) c.index_mut.ensures.value _ refl
    ∙ ap (λ n. take n (weak_registrations_of items) ++ map (weakly_placed_at c.args.place) (drop n (weak_registrations_of items)))
    (let e : c.len-last.result - 1 ≡ length (weak_registrations_of items) - 1 = omega arith in e)
    ∙ ap (λ (view : WeakRegistryView). take (length view.entries - 1) view.entries
    ++ map (weakly_placed_at c.args.place) (drop (length view.entries - 1) view.entries)) c.self.view_is
