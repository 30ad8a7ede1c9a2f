-- Items that are dealt with stay so.
use Rattle.std.proofs.Common.{◌≡◌, ℕ, sym, ap, ◌∙◌, subst, inl, inr}
use Rattle.std.specs.List.{Contains}
use Rattle.std.proofs.lemmas.Bool.{true≢false}
use Rattle.std.proofs.lemmas.List.Elements.{Contains-push}
use Rattle.pair_notes.specs.Notes.{NotesState, note_of, refusals_in}
use Rattle.mark_worklist.specs.Shares.{ShareState, taken_by_share}
use Rattle.marker_crew.specs.declared.draining.Drained.{Drained}
use Rattle.marker_crew.specs.Drains.{AreDealtWith, IsOneTaken}
use Rattle.marker_crew.specs.Stages.{DrainStage, MarkerWorks, IsDealtWithIn, Notes}
use Rattle.marker_crew.proofs.Working.{untold}

pub dealt_stays : (s t : DrainStage) (a : ℕ) → MarkerWorks s t → IsDealtWithIn s a → IsDealtWithIn t a
dealt_stays s t a works dealt fine = elim (dealt (untold (refusals_in s.notes) (refusals_in t.notes) works.notes_told fine)) [
  | inl traced ↦ inl (works.later.traced a traced)
  | inr other ↦ elim other [
    | inl done ↦ inr (inl (works.later.done a done))
    | inr note ↦ inr (inr (works.later.notes (note_of a 0) note))
  ]
]

pub all_dealt_stay : (before : ShareState) (s t : DrainStage) → MarkerWorks s t → taken_by_share t.share ≡ taken_by_share s.share → AreDealtWith before s → AreDealtWith before t
all_dealt_stay before s t works same dealt a there = elim (dealt a (subst (λ xs. Contains xs a) same there)) [
  | inl first ↦ inl first
  | inr is ↦ inr (dealt_stays s t a works is)
]

-- one item more was taken, and is dealt with
pub one_dealt : (before : ShareState) (s t : DrainStage) (h : ShareState) (a : ℕ) → MarkerWorks s t → AreDealtWith before s → IsOneTaken s.share a h → taken_by_share t.share ≡ taken_by_share h
    → IsDealtWithIn t a → AreDealtWith before t
one_dealt before s t h a works dealt taken same is b there = elim (taken.only b (subst (λ xs. Contains xs b) same there)) [
  | inl earlier ↦ elim (dealt b earlier) [ inl first ↦ inl first | inr done ↦ inr (dealt_stays s t b works done) ]
  | inr one ↦ inr (subst (IsDealtWithIn t) (sym one) is)
]

-- what was noted with word 0 is dealt with
pub note_deals : (t : DrainStage) (n : NotesState) (d : Drained) (a : ℕ) → Notes n d a 0 t.notes t.drained → IsDealtWithIn t a
note_deals t n d a made fine = elim made [
  | inl done ↦ inr (inr (subst (λ (x : NotesState). Contains x.notes (note_of a 0)) (sym done.0) (Contains-push n.notes (note_of a 0))))
  | inr refused ↦ absurd (true≢false (sym (ap (λ (x : NotesState). x.overflow) refused.0) ∙ fine))
]
