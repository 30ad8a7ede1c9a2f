-- One list after the other is looked at.
use Rattle.std.proofs.Common.{◌≡◌, ◌≤◌, ◌<◌, ℕ, ◌+◌, List, [], ◌∷◌, ◌++◌, length, get_or, map, set, refl, sym, ap, ◌∙◌, subst, inl, inr, arith}
use Rattle.std.proofs.lemmas.List.{length-set, map-set, get_or-set_same, get_or-set_other, get_or_default, get_or-map}
use Rattle.std.proofs.Math.Seq.{map-set_same}
use Rattle.std.proofs.lemmas.Bool.{cases_lt}
use Rattle.mark_worklist.specs.Ends.{OtherState, FoundNone}

-- the ends before number i were looked at, and nothing was taken there; the others are as they were
pub record Looked (old new : List OtherState) (i : ℕ) : Type 0 where
  pub as_many : length new ≡ length old
  pub lists : map (λ e. e.list) new ≡ map (λ e. e.list) old
  pub taken : map (λ e. e.taken) new ≡ map (λ e. e.taken) old
  pub moved : map (λ e. e.moved) new ≡ map (λ e. e.moved) old
  pub looked : (k : ℕ) (d : OtherState) → k < i → FoundNone (get_or old k d) (get_or new k d)
  pub rest : (k : ℕ) (d : OtherState) → i ≤ k → k < length old → get_or new k d ≡ get_or old k d

pub looked-at_first : (old : List OtherState) → Looked old old 0
looked-at_first old = record { as_many = refl; lists = refl; taken = refl; moved = refl; looked = λ k d l. absurd (omega (arith, l)); rest = λ k d l m. refl }

module _ (old new : List OtherState) (i : ℕ) (x e : OtherState) (so : Looked old new i) (within : i < length old) (here : get_or new i x ≡ x) where
  inside : i < length new
  inside = omega (arith, within, so.as_many)

  was : (d : OtherState) → get_or old i d ≡ x
  was d = sym (so.rest i d (omega arith) within) ∙ get_or_default new i d x inside ∙ here

  at-end : (d : OtherState) → FoundNone x e → FoundNone (get_or old i d) (get_or (set new i e) i d)
  at-end d none = subst (λ y. FoundNone y (get_or (set new i e) i d)) (sym (was d)) (subst (FoundNone x) (sym (get_or-set_same new i e d inside)) none)

  -- this end gave nothing
  pub looked-at : FoundNone x e → Looked old (set new i e) (i + 1)
  looked-at none = record {
    as_many = length-set new i e ∙ so.as_many;
    lists = map-set_same (λ y. y.list) new i e x (none.list ∙ ap (λ y. y.list) (sym here)) ∙ so.lists;
    taken = map-set_same (λ y. y.taken) new i e x (none.taken ∙ ap (λ y. y.taken) (sym here)) ∙ so.taken;
    moved = map-set_same (λ y. y.moved) new i e x (none.moved ∙ ap (λ y. y.moved) (sym here)) ∙ so.moved;
    looked = λ k d l. elim (cases_lt k i) [
      | inl before ↦ subst (FoundNone (get_or old k d)) (sym (get_or-set_other new i k e d (λ same. omega (arith, before, same)))) (so.looked k d before)
      | inr after ↦ (let same : k ≡ i = omega (arith, l, after) in
          subst (λ j. FoundNone (get_or old j d) (get_or (set new i e) j d)) (sym same) (at-end d none))
    ];
    rest = λ k d l m. get_or-set_other new i k e d (λ same. omega (arith, l, same)) ∙ so.rest k d (omega (arith, l)) m;
  }

  pub other-lists : e.list ≡ x.list → map (λ y. y.list) (set new i e) ≡ map (λ y. y.list) old
  other-lists same = map-set_same (λ y. y.list) new i e x (same ∙ ap (λ y. y.list) (sym here)) ∙ so.lists

  pub other-moved : e.moved ≡ x.moved → map (λ y. y.moved) (set new i e) ≡ map (λ y. y.moved) old
  other-moved same = map-set_same (λ y. y.moved) new i e x (same ∙ ap (λ y. y.moved) (sym here)) ∙ so.moved

  -- this end gave an item
  pub one-taken : (a : ℕ) → e.taken ≡ x.taken ++ a ∷ []
      → map (λ y. y.taken) (set new i e) ≡ set (map (λ y. y.taken) old) i (get_or (map (λ y. y.taken) old) i [] ++ a ∷ [])
  one-taken a more =
      let now : map (λ y. y.taken) (set new i e) ≡ set (map (λ y. y.taken) old) i e.taken = map-set (λ y. y.taken) new i e ∙ ap (λ l. set l i e.taken) so.taken in
      let before : get_or (map (λ y. y.taken) old) i [] ≡ x.taken = get_or-map (λ y. y.taken) old i x [] within ∙ ap (λ y. y.taken) (was x) in
      now ∙ ap (λ l. set (map (λ y. y.taken) old) i l) (more ∙ ap (λ l. l ++ a ∷ []) (sym before))
