-- What stood on one list goes on another, address by address.
use Rattle.std.proofs.Common.{◌≡◌, ℕ, false, List, sym, ap, ◌∙◌, subst, inl, inr}
use mathlib.Core.Logic.{◌⊎◌}
use Rattle.std.specs.List.{Contains}
use Rattle.std.proofs.lemmas.Bool.{true≢false}
use Rattle.mark_worklist.specs.Lists.{IsOneMore}
use Rattle.mark_worklist.specs.OneMore.{is_there, still_there, was_there}
use Rattle.mark_worklist.specs.Refusals.{PushesOrTells, TellsRefused, refusals_of}
use Rattle.mark_worklist.specs.Told.{told_then}
use Rattle.mark_worklist.specs.declared.marking.Marking.{Marking}
use Rattle.heap_objects.specs.Crews.{PutsOn, Relists}
use Rattle.heap_objects.proofs.WayChanges.{puts_then, pushed_puts, refused_puts}

-- one address more went over, or was refused
module _ (before : List ℕ) (l k : List ℕ) (a : ℕ) (m u n : Marking) (r : Relists before l m u) (one : IsOneMore k a l) (pushes : PushesOrTells u n a)
    (told : TellsRefused (refusals_of u) (refusals_of n)) where
  of_before : Contains before a
  of_before = r.some a (is_there k l a one)

  puts : PutsOn u.list n.list (Contains before)
  puts = elim pushes [
    | inl done ↦ pushed_puts u.list n.list a (Contains before) done.0 of_before
    | inr refused ↦ refused_puts u.list n.list (Contains before) (ap (λ (x : Marking). x.list) refused)
  ]

  on : n.on ≡ u.on
  on = elim pushes [ inl done ↦ ap (λ (x : Marking). x.on) done.1 | inr refused ↦ ap (λ (x : Marking). x.on) refused ]

  unrefused : n.overflow ≡ false → u.overflow ≡ false
  unrefused fine = elim pushes [
    | inl done ↦ sym (ap (λ (x : Marking). x.overflow) done.1) ∙ fine
    | inr refused ↦ absurd (true≢false (sym (ap (λ (x : Marking). x.overflow) refused) ∙ fine))
  ]

  kept : n.overflow ≡ false → (p : ℕ) → Contains l p → Contains k p ⊎ Contains n.list.items p
  kept fine p there = elim (was_there k l a one p there) [
    | inl still ↦ inl still
    | inr this ↦ elim pushes [
      | inl done ↦ inr (subst (Contains n.list.items) this (is_there u.list.items n.list.items a done.0.items))
      | inr refused ↦ absurd (true≢false (sym (ap (λ (x : Marking). x.overflow) refused) ∙ fine))
    ]
  ]

  stays : (p : ℕ) → Contains u.list.items p → Contains n.list.items p
  stays p there = elim pushes [
    | inl done ↦ still_there u.list.items n.list.items a done.0.items p there
    | inr refused ↦ subst (λ (x : Marking). Contains x.list.items p) (sym refused) there
  ]

  only : (p : ℕ) → Contains n.list.items p → Contains u.list.items p ⊎ Contains before p
  only p there = elim pushes [
    | inl done ↦ elim (was_there u.list.items n.list.items a done.0.items p there) [
      | inl earlier ↦ inl earlier
      | inr this ↦ inr (subst (Contains before) this of_before)
    ]
    | inr refused ↦ inl (subst (λ (x : Marking). Contains x.list.items p) refused there)
  ]

  pub relists_then : Relists before k m n
  relists_then = record {
    on = on ∙ r.on;
    puts = puts_then m.list u.list n.list (Contains before) r.puts puts;
    some = λ p there. r.some p (still_there k l a one p there);
    kept = λ fine p there. elim (r.kept (unrefused fine) p there) [
      | inl rest ↦ kept fine p rest
      | inr over ↦ inr (stays p over)
    ];
    only = λ p there. elim (only p there) [ inl earlier ↦ r.only p earlier | inr is ↦ inr is ];
    told = told_then (refusals_of m) (refusals_of u) (refusals_of n) r.told told;
    unrefused = λ fine. r.unrefused (unrefused fine);
  }
