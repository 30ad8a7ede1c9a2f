-- What tells of refusals in several groups together.
use Rattle.std.proofs.Common.{◌≡◌, ◌<◌, ℕ, suc, ◌+◌, ◌||◌, List, [], ◌∷◌, length, sym, ap, subst, inl, inr, arith}
use Rattle.std.specs.List.{list_any}
use Rattle.std.proofs.lemmas.Bool.{cases_lt, or_cases, or_left, or_right}
use Rattle.std.proofs.lemmas.List.Sums.{sum_by-cons}
use Rattle.mark_worklist.specs.Refusals.{Refusals, TellsRefused}
use Rattle.marker_crew.specs.Notes.{NotesState, group_at, refusals_in}
use Rattle.heap_objects.specs.Crews.{refusals_of_all}

-- as many more were refused before
pub told_shifted : (e : ℕ) (a b : Refusals) → TellsRefused a b
    → TellsRefused (record { told = a.told; count = e + a.count }) (record { told = b.told; count = e + b.count })
told_shifted e a b x = record {
  kept = x.kept;
  no_fewer = omega (arith, x.no_fewer);
  counted = λ more. x.counted (omega (arith, more));
  only = λ told. elim (x.only told) [
    | inl before ↦ inl before
    | inr rose ↦ inr (elim rose [ inl more ↦ inl (omega (arith, more)) | inr last ↦ inr (omega (arith, last)) ])
  ];
}

pub told_behind : (e : ℕ) (a b : Refusals) → TellsRefused a b
    → TellsRefused (record { told = a.told; count = a.count + e }) (record { told = b.told; count = b.count + e })
told_behind e a b x = record {
  kept = x.kept;
  no_fewer = omega (arith, x.no_fewer);
  counted = λ more. x.counted (omega (arith, more));
  only = λ told. elim (x.only told) [
    | inl before ↦ inl before
    | inr rose ↦ inr (elim rose [ inl more ↦ inl (omega (arith, more)) | inr last ↦ inr (omega (arith, last)) ])
  ];
}

-- two that tell of refusals, together
abbrev both : Refusals → Refusals → Refusals
both a b = record { told = a.told || b.told; count = a.count + b.count }

told_both : (a b c d : Refusals) → TellsRefused a b → TellsRefused c d → TellsRefused (both a c) (both b d)
told_both a b c d x y = record {
  kept = λ told. elim (or_cases a.told c.told told) [
    | inl one ↦ or_left b.told d.told (x.kept one)
    | inr other ↦ or_right b.told d.told (y.kept other)
  ];
  no_fewer = omega (arith, x.no_fewer, y.no_fewer);
  counted = λ more. elim (cases_lt a.count b.count) [
    | inl one ↦ or_left b.told d.told (x.counted one)
    | inr same ↦ or_right b.told d.told (y.counted (omega (arith, more, same)))
  ];
  only = λ told. elim (or_cases b.told d.told told) [
    | inl one ↦ elim (x.only one) [
      | inl before ↦ inl (or_left a.told c.told before)
      | inr rose ↦ inr (elim rose [ inl more ↦ inl (omega (arith, more, y.no_fewer)) | inr last ↦ inr (omega (arith, last)) ])
    ]
    | inr other ↦ elim (y.only other) [
      | inl before ↦ inl (or_right a.told c.told before)
      | inr rose ↦ inr (elim rose [ inl more ↦ inl (omega (arith, more, x.no_fewer)) | inr last ↦ inr (omega (arith, last)) ])
    ]
  ];
}

all_cons : (x : NotesState) (groups : List NotesState) → refusals_of_all (x ∷ groups) ≡ both (refusals_in x) (refusals_of_all groups)
all_cons x groups = ap (λ n. record { told = x.overflow || list_any (λ (y : NotesState). y.overflow) groups; count = n }) (sum_by-cons (λ (y : NotesState). y.refused) x groups)

-- what is told of each group is told of all together
pub told_groups : (xs ys : List NotesState) → length ys ≡ length xs → ((i : ℕ) → i < length xs → TellsRefused (refusals_in (group_at xs i)) (refusals_in (group_at ys i)))
    → TellsRefused (refusals_of_all xs) (refusals_of_all ys)
told_groups [] [] long each = record { kept = λ told. told; no_fewer = omega arith; counted = λ more. absurd (omega (arith, more)); only = λ told. inl told }
told_groups [] (y ∷ ys) long each = absurd (omega (arith, long))
told_groups (x ∷ xs) [] long each = absurd (omega (arith, long))
told_groups (x ∷ xs) (y ∷ ys) long each =
    subst (λ a. TellsRefused a (refusals_of_all (y ∷ ys))) (sym (all_cons x xs))
    (subst (TellsRefused (both (refusals_in x) (refusals_of_all xs))) (sym (all_cons y ys))
    (told_both (refusals_in x) (refusals_in y) (refusals_of_all xs) (refusals_of_all ys) (each 0 (omega arith))
    (told_groups xs ys (omega (arith, long)) (λ i low. each (suc i) (omega (arith, low))))))
