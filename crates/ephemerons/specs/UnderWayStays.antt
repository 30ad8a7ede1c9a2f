-- Marking stays under way where objects were marked and listed, and where nothing that it looks at has changed.
use Rattle.std.proofs.Common.{◌≡◌, ℕ, true, false, List, [], ◌∷◌, length, refl, ap, ◌∙◌, sym, subst, inl, inr, arith}
use mathlib.Core.Logic.{◌⊎◌}
use Rattle.std.specs.List.{Contains}
use Rattle.gc_graph.specs.State.{ObjectType}
use Rattle.mark_worklist.specs.declared.marking.Marking.{Marking}
use Rattle.marker_core.specs.Bodies.{holds}
use Rattle.page_words.specs.Seat.{SeatView, IsStill}
use Rattle.pair_notes.specs.declared.notes.Note.{Note}
use Rattle.pair_notes.specs.BodyGraph.{BodyHasPair}
use Rattle.pair_notes.specs.Notes.{NotesState}
use Rattle.ephemerons.specs.UnderWay.{IsUnderWay, ListsGrey}
use Rattle.ephemerons.specs.Fixpoint.{ListsMarks, Mode, mode_of}
use Rattle.ephemerons.specs.ListedMarks.{still_yet}

-- ---- the mode

none_of : {A : Type 0} (items : List A) → length items ≡ 0 → items ≡ []
none_of [] none = refl
none_of (x ∷ items) none = absurd (omega (arith, none))

-- a list without shares had none before
pub unshared_before : (m n : Marking) → mode_of n ≡ mode_of m → n.list.shares ≡ [] → m.list.shares ≡ []
unshared_before m n same none = none_of m.list.shares (ap (λ (o : Mode). o.shares) (sym same) ∙ ap length none)

-- ---- what is grey

pub grey_marked : (u v : SeatView) (m n : Marking) → ListsMarks u m v n → ListsGrey u m → ListsGrey v n
grey_marked u v m n marks grey = λ fine p marked white. elim (marks.fresh fine p marked) [
  | inl before ↦ marks.kept p (grey (marks.overflow fine) p before (subst (λ l. holds l p ≡ false) marks.traced white))
  | inr there ↦ there
]

-- ---- marking that is under way

pub pair_same : (u v : SeatView) (note : Note) → v.types ≡ u.types → v.bodies ≡ u.bodies
    → (note.word ≡ 0) ⊎ BodyHasPair u.types u.bodies note.holder note.word → (note.word ≡ 0) ⊎ BodyHasPair v.types v.bodies note.holder note.word
pair_same u v note types bodies is = elim is [
  | inl itself ↦ inl itself
  | inr pair ↦ inr (subst (λ (ts : List ObjectType). BodyHasPair ts v.bodies note.holder note.word) (sym types)
      (subst (λ bs. BodyHasPair u.types bs note.holder note.word) (sym bodies) pair))
]

-- the holder is traced yet where more is traced
pub holder_yet : (u v : SeatView) (note : Note) → ((p : ℕ) → holds u.traced p ≡ true → holds v.traced p ≡ true)
    → (note.word ≡ 0) ⊎ (holds u.traced note.holder ≡ true) → (note.word ≡ 0) ⊎ (holds v.traced note.holder ≡ true)
holder_yet u v note more is = elim is [ inl itself ↦ inl itself | inr traced ↦ inr (more note.holder traced) ]

-- objects were marked and listed
pub under_way_marked : (u v : SeatView) (m n : Marking) (x : NotesState) → ListsMarks u m v n → v.noted ≡ u.noted → IsUnderWay u m x → IsUnderWay v n x
under_way_marked u v m n x marks noted h = record {
  on = ap (λ (z : SeatView). z.on) marks.view ∙ h.on;
  told = ap (λ (o : Mode). o.on) marks.mode ∙ h.told;
  still = still_yet u v m n marks h.still;
  listed = λ p there. elim (marks.listed p there) [ inl before ↦ marks.marked p (h.listed p before) | inr fresh ↦ fresh.marked ];
  grey = λ fine unrefused p marked white. elim (marks.fresh fine p marked) [
    | inl before ↦ elim (h.grey (marks.overflow fine) unrefused p before (subst (λ l. holds l p ≡ false) marks.traced white)) [
      | inl there ↦ inl (marks.kept p there)
      | inr note ↦ inr note
    ]
    | inr there ↦ inl there
  ];
  unshared = λ none. grey_marked u v m n marks (h.unshared (unshared_before m n marks.mode none));
  noted = λ note there.
      pair_same u v note (ap (λ (z : SeatView). z.types) marks.view) (ap (λ (z : SeatView). z.bodies) marks.view) (h.noted note there);
  holders = λ note there. holder_yet u v note (λ p is. subst (λ l. holds l p ≡ true) (sym marks.traced) is) (h.holders note there);
  recorded = λ fine pair there. h.recorded fine pair (subst (λ l. Contains l pair) noted there);
}

-- nothing that it looks at has changed
pub record LooksSame (u v : SeatView) : Type 0 where
  pub on : v.on ≡ u.on
  pub still : IsStill v
  pub types : v.types ≡ u.types
  pub bodies : v.bodies ≡ u.bodies
  pub marked : v.marked ≡ u.marked
  pub traced : v.traced ≡ u.traced
  pub noted : v.noted ≡ u.noted

pub under_way_same : (u v : SeatView) (m : Marking) (x : NotesState) → LooksSame u v → IsUnderWay u m x → IsUnderWay v m x
under_way_same u v m x same h = record {
  on = same.on ∙ h.on;
  told = h.told;
  still = same.still;
  listed = λ p there. subst (λ l. holds l p ≡ true) (sym same.marked) (h.listed p there);
  grey = λ fine unrefused p marked white.
      h.grey fine unrefused p (subst (λ l. holds l p ≡ true) same.marked marked) (subst (λ l. holds l p ≡ false) same.traced white);
  unshared = λ none fine p marked white.
      h.unshared none fine p (subst (λ l. holds l p ≡ true) same.marked marked) (subst (λ l. holds l p ≡ false) same.traced white);
  noted = λ note there. pair_same u v note same.types same.bodies (h.noted note there);
  holders = λ note there. holder_yet u v note (λ p is. subst (λ l. holds l p ≡ true) (sym same.traced) is) (h.holders note there);
  recorded = λ fine pair there. h.recorded fine pair (subst (λ l. Contains l pair) same.noted there);
}
