-- What is kept of marking once a pause has given its notes back, and what is told of refusals then.
use Rattle.std.proofs.Common.{◌≡◌, ◌+◌, ◌<◌, List, [], ◌∷◌, ◌++◌, length, take, drop, sym, ap, ◌∙◌, refl, inl, inr, arith}
use Rattle.std.specs.List.{refill, sum_by}
use Rattle.std.proofs.Math.Seq.{take-append_seam}
use Rattle.std.proofs.lemmas.Bool.{cases_Bool, true≢false}
use Rattle.std.proofs.lemmas.List.{get_or_default}
use Rattle.std.proofs.lemmas.List.Folds.{list_any_at, list_any_none}
use Rattle.std.proofs.lemmas.List.Sums.{sum_by-cons}
use Rattle.mark_worklist.specs.declared.marking.Marking.{Marking}
use Rattle.mark_worklist.specs.Shares.{ShareState}
use Rattle.atomic_pause.specs.Fixpoint.{IsUnrefused}
use Rattle.marker_crew.specs.Notes.{NotesState, no_notes, group_at}
use Rattle.marker_crew.specs.Crews.{Marker}
use Rattle.heap_objects.specs.declared.marking.Grey.{Grey}
use Rattle.heap_objects.specs.Marking.{grey_of, refused_in}
use Rattle.heap_objects.proofs.ToldTruly.{AreUnraised}

-- the groups that were lent come back as those that the pause left
pub refilled : (old new : List NotesState) → length new ≡ length old → refill (length old) old new ≡ new
refilled old new all = ap (λ n. take n (new ++ drop (length new) old)) (sym all) ∙ take-append_seam new (drop (length new) old)

pub no_shares : (shares : List ShareState) → length shares ≡ 0 → shares ≡ []
no_shares [] none = refl
no_shares (s ∷ shares) none = absurd (omega (arith, none))

-- ---- the flags of all groups, and each

pub unrefused_of : (m : Marking) (groups : List NotesState) → AreUnraised m groups → IsUnrefused m.overflow groups
unrefused_of m groups is = record {
  pushes = is.pushes;
  notes = λ i low. elim (cases_Bool (group_at groups i).overflow) [
    | inl told ↦ absurd (true≢false (sym (list_any_at (λ (x : NotesState). x.overflow) groups i no_notes low told) ∙ is.notes))
    | inr untold ↦ untold
  ];
}

pub unraised_of : (m : Marking) (groups : List NotesState) → IsUnrefused m.overflow groups → AreUnraised m groups
unraised_of m groups is = record {
  pushes = is.pushes;
  notes =
      list_any_none (λ (x : NotesState). x.overflow) groups
      (λ k d low. ap (λ (x : NotesState). x.overflow) (get_or_default groups k d no_notes low) ∙ is.notes k low);
}

-- ---- the counts

all_refused : (groups : List NotesState) → 0 < length groups
    → (group_at groups 0).refused + sum_by (λ x. x.refused) (drop 1 groups) ≡ sum_by (λ x. x.refused) groups
all_refused [] some = absurd (omega (arith, some))
all_refused (x ∷ groups) some = sym (sum_by-cons (λ (y : NotesState). y.refused) x groups)

-- how much was refused is told by the lists and all the groups
pub counts_left : (grey : Grey) (m : Marking) (groups : List NotesState) → grey.crew.running ≡ [] → 0 < length groups
    → refused_in (grey_of (record grey { marking = m; crew = record grey.crew { notes = groups } }))
    ≡ record { pushes = grey.earlier.value + m.list.refused; notes = sum_by (λ x. x.refused) groups }
counts_left grey m groups home some =
    let none : sum_by (λ (b : Marker). b.notes.refused) grey.crew.running ≡ 0 = ap (sum_by (λ (b : Marker). b.notes.refused)) home in
    let all : (group_at groups 0).refused + (sum_by (λ (x : NotesState). x.refused) (drop 1 groups) + sum_by (λ (b : Marker). b.notes.refused) grey.crew.running)
    ≡ sum_by (λ (x : NotesState). x.refused) groups = omega (arith, none, all_refused groups some) in
    ap (λ n. record { pushes = grey.earlier.value + m.list.refused; notes = n }) all
