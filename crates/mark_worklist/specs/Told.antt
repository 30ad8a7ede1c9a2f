-- What tells of refused pushes, from state to state.
use Rattle.std.proofs.Common.{rules, ◌≡◌, ◌≤◌, ℕ, Bool, true, refl, inl, inr, arith}
use Rattle.std.proofs.lemmas.Bool.{cases_lt}
use Rattle.mark_worklist.specs.Lists.{one_counted}
use Rattle.mark_worklist.specs.Shares.{last_count}
use Rattle.mark_worklist.specs.Refusals.{Refusals, TellsRefused}

-- where neither the flag of refusals nor their count changed, refusals are told rightly
pub told_same : (a : Refusals) → TellsRefused a a
told_same a = record { kept = λ h. h; no_fewer = omega arith; counted = λ more. absurd (omega (arith, more)); only = λ h. inl h }

-- one more was refused
pub told_once : (told : Bool) (count : ℕ) → count ≤ last_count
    → TellsRefused (record { told = told; count = count }) (record { told = true; count = one_counted count })
told_once told count fits = record { kept = λ h. refl; no_fewer = search rules; counted = λ more. refl; only = λ h. inr (search rules) }

-- refusals told rightly from one state to the next, and from that to a third, are from the first to the third
pub told_then : (a b c : Refusals) → TellsRefused a b → TellsRefused b c → TellsRefused a c
told_then a b c x y = record {
  kept = λ h. y.kept (x.kept h);
  no_fewer = omega (arith, x.no_fewer, y.no_fewer);
  counted = λ more. elim (cases_lt a.count b.count) [ inl first ↦ y.kept (x.counted first) | inr not_yet ↦ y.counted (omega (arith, more, not_yet)) ];
  only = λ h. elim (y.only h) [
    | inl before ↦ elim (x.only before) [
      | inl first ↦ inl first
      | inr rose ↦ inr (elim rose [ inl more ↦ inl (omega (arith, more, y.no_fewer)) | inr last ↦ inr (omega (arith, last, y.no_fewer)) ])
    ]
    | inr rose ↦ inr (elim rose [ inl more ↦ inl (omega (arith, more, x.no_fewer)) | inr last ↦ inr last ])
  ];
}

-- where the count is the same, the beginning is
pub told_from : (a c : Refusals) (k : ℕ) → k ≡ a.count → TellsRefused (record { told = a.told; count = k }) c → TellsRefused a c
told_from a c k same x = record {
  kept = x.kept;
  no_fewer = omega (arith, x.no_fewer, same);
  counted = λ more. x.counted (omega (arith, more, same));
  only = λ h. elim (x.only h) [
    | inl before ↦ inl before
    | inr rose ↦ inr (elim rose [ inl more ↦ inl (omega (arith, more, same)) | inr last ↦ inr last ])
  ];
}
