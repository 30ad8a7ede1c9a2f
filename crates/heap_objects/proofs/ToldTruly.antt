-- A pause that tells of the flags that it leaves tells truly of the counts.
use Rattle.std.proofs.Common.{◌≡◌, ℕ, ◌+◌, Bool, true, false, List, refl, sym, ◌∙◌, inl, inr}
use Rattle.std.specs.List.{list_any, sum_by}
use Rattle.std.proofs.lemmas.Bool.{true≢false, cases_Bool}
use Rattle.mark_worklist.specs.declared.marking.Marking.{Marking}
use Rattle.mark_worklist.specs.Refusals.{Refusals, TellsRefused}
use Rattle.marker_crew.specs.Notes.{NotesState}
use Rattle.heap_objects.specs.Refused.{RefusedCounts, MayHaveRisen, IsToldTruly}
use Rattle.heap_objects.specs.Crews.{refusals_of_all}

-- what comes to be told has its cause in the count
has_risen : (old new : Refusals) → old.told ≡ false → TellsRefused old new → new.told ≡ true → MayHaveRisen old.count new.count
has_risen old new was tells is = elim (tells.only is) [ inl before ↦ absurd (true≢false (sym before ∙ was)) | inr rose ↦ rose ]

-- a flag that is raised keeps a pause from telling that it didn't walk
raised : (walked flag : Bool) → (walked ≡ false → flag ≡ false) → flag ≡ true → walked ≡ true
raised walked flag whole is = elim (cases_Bool walked) [ inl did ↦ did | inr stayed ↦ absurd (true≢false (sym is ∙ whole stayed)) ]

-- no flag was raised
pub record AreUnraised (after : Marking) (groups : List NotesState) : Type 0 where
  pub pushes : after.overflow ≡ false
  pub notes : list_any (λ x. x.overflow) groups ≡ false

pub told_truly : (since : RefusedCounts) (earlier : ℕ) (after : Marking) (groups : List NotesState) (walked : Bool)
    → TellsRefused (record { told = false; count = since.pushes }) (record { told = after.overflow; count = earlier + after.list.refused })
    → TellsRefused (record { told = false; count = since.notes }) (refusals_of_all groups)
    → (walked ≡ true → AreUnraised after groups → ⊥) → (walked ≡ false → AreUnraised after groups)
    → IsToldTruly since (record { pushes = earlier + after.list.refused; notes = sum_by (λ x. x.refused) groups }) walked
told_truly since earlier after groups walked pushes noted only whole =
    let flag : Bool = list_any (λ (x : NotesState). x.overflow) groups in
    record {
      no_fewer_pushes = pushes.no_fewer;
      no_fewer_notes = noted.no_fewer;
      told = λ rose. elim rose [
        | inl push ↦ raised walked after.overflow (λ stayed. (whole stayed).pushes) (pushes.counted push)
        | inr note ↦ raised walked flag (λ stayed. (whole stayed).notes) (noted.counted note)
      ];
      only = λ did. elim (cases_Bool after.overflow) [
        | inl push ↦ inl (has_risen (record { told = false; count = since.pushes }) (record { told = after.overflow; count = earlier + after.list.refused }) refl pushes push)
        | inr none ↦ elim (cases_Bool flag) [
          | inl note ↦ inr (has_risen (record { told = false; count = since.notes }) (refusals_of_all groups) refl noted note)
          | inr none_noted ↦ absurd (only did (record { pushes = none; notes = none_noted }))
        ]
      ];
    }
