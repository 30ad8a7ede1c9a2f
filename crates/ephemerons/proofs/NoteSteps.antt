-- A note that was made or refused, and notes that follow pairs.
use Rattle.std.proofs.Common.{◌≡◌, ◌≤◌, ℕ, Bool, true, false, List, [], ◌∷◌, ◌++◌, map, refl, sym, ap, ◌∙◌, subst, inl, inr, arith}
use Rattle.std.specs.List.{Contains}
use Rattle.std.proofs.lemmas.Bool.{true≢false, cases_Bool}
use Rattle.std.proofs.lemmas.List.{append-nil, append_assoc, map-append}
use Rattle.std.proofs.lemmas.List.Elements.{Contains-append_left, Contains-append_right, Contains-append_cases, Contains-push, Contains-push_cases}
use Rattle.gc_graph.specs.State.{ObjectType}
use Rattle.mark_worklist.specs.Shares.{last_count}
use Rattle.mark_worklist.specs.Told.{told_same, told_once, told_then}
use Rattle.marker_core.specs.declared.states.Body.{Body}
use Rattle.pair_notes.specs.declared.notes.Note.{Note}
use Rattle.marker_core.specs.declared.states.Part.TheVariants.{Read}
use Rattle.page_words.specs.Seat.{SeatView}
use Rattle.pair_notes.specs.BodyGraph.{BodyHasPair, pair_offsets}
use Rattle.pair_notes.specs.InHand.{IsAt}
use Rattle.pair_notes.specs.Notes.{NotesState, NotesGrow, refusals_in, note_of, noted, overflowed}
use Rattle.ephemerons.specs.Traces.{FollowPairs, note_from}

pub NotesGrow-then : (types : List ObjectType) (bodies : List Body) (r s t : NotesState) → NotesGrow types bodies r s → NotesGrow types bodies s t
    → NotesGrow types bodies r t
NotesGrow-then types bodies r s t x y = record {
  kept = λ note h. y.kept note (x.kept note h);
  pairs = λ note h. elim (y.pairs note h) [ inl before ↦ x.pairs note before | inr pair ↦ inr pair ];
  overflow = λ h. x.overflow (y.overflow h);
  told = told_then (refusals_in r) (refusals_in s) (refusals_in t) x.told y.told;
}

-- notes that follow pairs, and then notes that follow others
pub follow_then : (r s t : NotesState) (first later : List (ℕ × ℕ)) → (t.overflow ≡ false → s.overflow ≡ false) → FollowPairs r s first → FollowPairs s t later
    → FollowPairs r t (first ++ later)
follow_then r s t first later fine x y = record {
  made = x.made ++ y.made;
  notes = y.notes ∙ ap (λ l. l ++ y.made) x.notes ∙ append_assoc r.notes x.made y.made;
  all = λ quiet. ap (λ l. l ++ y.made) (x.all (fine quiet)) ∙ ap (λ l. map note_from first ++ l) (y.all quiet) ∙ sym (map-append note_from first later);
  some = λ note h. subst (λ l. Contains l note) (sym (map-append note_from first later)) (elim (Contains-append_cases x.made y.made note h) [
    | inl early ↦ Contains-append_left (map note_from first) (map note_from later) note (x.some note early)
    | inr late ↦ Contains-append_right (map note_from first) (map note_from later) note (y.some note late)
  ]);
}

pub follow_none : (s : NotesState) → FollowPairs s s []
follow_none s = record { made = []; notes = sym (append-nil s.notes); all = λ fine. refl; some = λ note h. h }

-- what a note that was asked for leaves
pub record Asked (types : List ObjectType) (bodies : List Body) (old new : NotesState) (holder word : ℕ) : Type 0 where
  pub grow : NotesGrow types bodies old new
  pub there : new.overflow ≡ false → Contains new.notes (note_of holder word)
  pub follow : FollowPairs old new ((holder, word) ∷ [])

was_noted : (types : List ObjectType) (bodies : List Body) (old : NotesState) (holder word : ℕ) → BodyHasPair types bodies holder word
    → Asked types bodies old (noted old holder word) holder word
was_noted types bodies old holder word pair = record {
  grow = record {
    kept = λ note h. Contains-append_left old.notes (note_of holder word ∷ []) note h;
    pairs = λ note h. elim (Contains-push_cases old.notes (note_of holder word) note h) [
      | inl before ↦ inl before
      | inr here ↦ inr (subst (λ (n : Note). BodyHasPair types bodies n.holder n.word) here pair)
    ];
    overflow = λ h. h;
    told = told_same (refusals_in old);
  };
  there = λ fine. Contains-push old.notes (note_of holder word);
  follow = record { made = note_of holder word ∷ []; notes = refl; all = λ fine. refl; some = λ note h. h };
}

was_refused : (types : List ObjectType) (bodies : List Body) (old : NotesState) (holder word : ℕ) → old.refused ≤ last_count
    → Asked types bodies old (overflowed old) holder word
was_refused types bodies old holder word fits = record {
  grow = record {
    kept = λ note h. h;
    pairs = λ note h. inl h;
    overflow = λ h. absurd (true≢false h);
    told = told_once old.overflow old.refused fits;
  };
  there = λ fine. absurd (true≢false fine);
  follow = record {
    made = [];
    notes = sym (append-nil old.notes);
    all = λ fine. absurd (true≢false fine);
    some = λ note h. absurd (omega (arith, h.1));
  };
}

asked : (types : List ObjectType) (bodies : List Body) (old new : NotesState) (holder word : ℕ) (done : Bool) → (done ≡ true → new ≡ noted old holder word)
    → (done ≡ false → new ≡ overflowed old) → old.refused ≤ last_count → BodyHasPair types bodies holder word → Asked types bodies old new holder word
asked types bodies old new holder word done made refused fits pair = elim (cases_Bool done) [
  | inl so ↦ subst (λ (s : NotesState). Asked types bodies old s holder word) (sym (made so)) (was_noted types bodies old holder word pair)
  | inr not_so ↦ subst (λ (s : NotesState). Asked types bodies old s holder word) (sym (refused not_so)) (was_refused types bodies old holder word fits)
]

-- it was asked for the pair in hand
pub pair_asked : (v : SeatView) (old new : NotesState) (holder offset : ℕ) (done : Bool) → IsAt pair_offsets v holder offset Read
    → (done ≡ true → new ≡ noted old holder offset) → (done ≡ false → new ≡ overflowed old) → old.refused ≤ last_count
    → Asked v.types v.bodies old new holder offset
pair_asked v old new holder offset done at made refused fits =
    asked v.types v.bodies old new holder offset done made refused fits (at.body, at.there, at.place_is, at.among)
