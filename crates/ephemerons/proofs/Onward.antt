-- Which headers were looked at from one stage to another.
use Rattle.std.proofs.Common.{◌≡◌, ℕ, zero, suc, true, List, [], ◌∷◌, ◌++◌, Option, Some, refl, sym, ap, ◌∙◌, subst, inl, inr}
use Rattle.std.specs.Prelude.{slice_set}
use mathlib.Core.Logic.{◌⊎◌}
use Rattle.std.specs.List.{Contains}
use Rattle.std.proofs.lemmas.List.Elements.{Contains-append_cases}
use Rattle.gc_graph.specs.Members.{Contains-map_some}
use Rattle.gc_graph.specs.State.{ObjectType}
use Rattle.object_headers.specs.Offsets.{reference_to}
use Rattle.type_table.specs.declared.traced.TracedWord.{TracedWord}
use Rattle.mark_worklist.specs.Lists.{IsOneMore}
use Rattle.mark_worklist.specs.OneMore.{at_the_end, is_there, still_there}
use Rattle.mark_worklist.specs.Refusals.{Refusals}
use Rattle.mark_worklist.specs.declared.marking.Marking.{Marking}
use Rattle.marker_core.specs.declared.states.Body.{Body}
use Rattle.marker_core.specs.Bodies.{holds}
use Rattle.page_words.specs.Seat.{SeatView}
use Rattle.pair_notes.specs.declared.notes.Note.{Note}
use Rattle.pair_notes.specs.BodyGraph.{pair_offsets, word_at}
use Rattle.pair_notes.specs.Marking.{MarksOn}
use Rattle.pair_notes.specs.Notes.{NotesState, IsNotedIn, group_at}
use Rattle.ephemerons.specs.Traces.{Traces, IsWaiting, note_from}
use Rattle.ephemerons.specs.Fixpoint.{Mode, Stage, stage, ListsMarks, IsStillHeld, with_held}
use Rattle.ephemerons.specs.LookedAt.{IsLookedAt, LooksOnlyAt, LooksWithin, AreHoldersMarked, LooksOnward}
use Rattle.ephemerons.specs.LookedPlaces.{looked_nowhere, looked_once, looked_then, looked_as, looks_then}

pub onward_then : (types : List ObjectType) (s t u : Stage) → MarksOn t.view u.view → LooksOnward types s t → LooksOnward types t u → LooksOnward types s u
onward_then types s t u on x y = record {
  within = λ held. looks_then types s.view t.view u.view on.bodies on.marked (x.within held) (y.within (x.holders held));
  holders = λ held. y.holders (x.holders held);
}

-- what holds where the holders are marked
pub onward_given : (types : List ObjectType) (s t : Stage) → (AreHoldersMarked s.view s.list s.groups → LooksOnward types s t) → LooksOnward types s t
onward_given types s t given = record { within = λ held. (given held).within held; holders = λ held. (given held).holders held }

-- nothing but looks at such headers
pub onward_looked : (types : List ObjectType) (v w : SeatView) (m : Marking) (groups : List NotesState) (i j : ℕ) → w.marked ≡ v.marked
    → LooksWithin types v w → LooksOnward types (stage v m groups i) (stage w m groups j)
onward_looked types v w m groups i j same looks = record {
  within = λ held. looks;
  holders = λ held. record {
    listed = λ p there. subst (λ l. holds l p ≡ true) (sym same) (held.listed p there);
    noted = λ note there. subst (λ l. holds l note.holder ≡ true) (sym same) (held.noted note there);
  };
}

pub onward_same : (types : List ObjectType) (s : Stage) → LooksOnward types s s
onward_same types s = record { within = λ held. looked_nowhere (IsLookedAt types s.view) s.view s.view refl; holders = λ held. held }

-- an object was taken from the list
pub onward_popped : (types : List ObjectType) (s t : Stage) (list : List ℕ) (a : ℕ) (refusals : Refusals) (mode : Mode) → IsOneMore list a s.list
    → (holds s.view.marked a ≡ true → LooksOnward types (record s { mode = mode; list = list; refusals = refusals }) t) → LooksOnward types s t
onward_popped types s t list a refusals mode one given = onward_given types s t (λ held.
    let x = given (held.listed a (is_there list s.list a one)) in
    let fewer : AreHoldersMarked s.view list s.groups = record { listed = λ p there. held.listed p (still_there list s.list a one p there); noted = held.noted } in
    record { within = λ _. x.within fewer; holders = λ _. x.holders fewer })

-- the list and what is held back from it have what they had
pub onward_still : (types : List ObjectType) (v : SeatView) (m n : Marking) (old new : Option ℕ) (groups : List NotesState) (t : ℕ) → IsStillHeld m old n new
    → LooksOnward types (stage v (with_held old m) groups t) (stage v (with_held new n) groups t)
onward_still types v m n old new groups t x = record {
  within = λ held. looked_nowhere (IsLookedAt types v) v v refl;
  holders = λ held. record { listed = λ p there. held.listed p (x.items.back p there); noted = held.noted };
}

-- the object that was held back is the next one
pub onward_held : (types : List ObjectType) (v : SeatView) (m : Marking) (a : ℕ) (groups : List NotesState) (t : ℕ) (after : Stage)
    → (holds v.marked a ≡ true → LooksOnward types (stage v m groups t) after) → LooksOnward types (stage v (with_held (Some a) m) groups t) after
onward_held types v m a groups t after given =
    onward_popped types (stage v (with_held (Some a) m) groups t) after m.list.items a _ _ (at_the_end m.list.items a) given

module _ (types : List ObjectType) (v u w : SeatView) (m n : Marking) (groups after : List NotesState) (i j : ℕ) (marked : u.marked ≡ v.marked) (marks : ListsMarks u m w n) where
  marked_yet : (p : ℕ) → holds v.marked p ≡ true → holds w.marked p ≡ true
  marked_yet p is = marks.marked p (subst (λ l. holds l p ≡ true) (sym marked) is)

  -- objects were marked and listed, and what was noted is of an object that was marked
  pub onward_marks : (a : ℕ) → ((note : Note) → IsNotedIn after note → IsNotedIn groups note ⊎ (note.holder ≡ a)) → holds v.marked a ≡ true
      → LooksWithin types v w → LooksOnward types (stage v m groups i) (stage w n after j)
  onward_marks a notes here looks = record {
    within = λ held. looks;
    holders = λ held. record {
      listed = λ p there. elim (marks.listed p there) [ inl before ↦ marked_yet p (held.listed p before) | inr fresh ↦ fresh.marked ];
      noted = λ note there. elim (notes note there) [
        | inl before ↦ marked_yet note.holder (held.noted note before)
        | inr of ↦ subst (λ p. holds w.marked p ≡ true) (sym of) (marked_yet a here)
      ];
    };
  }

  -- an object was claimed, and then its words were traced
  pub claimed_looks : (a : ℕ) → holds v.marked a ≡ true → LooksOnlyAt (λ p. a ≡ p) v u → LooksWithin types u w → LooksWithin types v w
  claimed_looks a here claimed traced =
      looked_then (IsLookedAt types w) v u w
      (looked_as (λ p. a ≡ p) (IsLookedAt types w) v u (λ p at. inl (subst (λ q. holds w.marked q ≡ true) at (marked_yet a here))) claimed) traced

-- ---- the notes

-- each note that was made while a body was traced is of a pair of it
pub noted_of_body : (u w : SeatView) (old new : NotesState) (place : ℕ) (words : List TracedWord) (b : Body) → Contains u.bodies b → b.place ≡ place
    → Traces u old w new place words → (note : Note) → Contains new.notes note → Contains old.notes note ⊎ (note.holder ≡ place)
noted_of_body u w old new place words b there at x note is =
    elim (Contains-append_cases old.notes x.notes.made note (subst (λ l. Contains l note) x.notes.notes is)) [
      | inl before ↦ inl before
      | inr made ↦
          (let of = Contains-map_some note_from x.pairs note (x.notes.some note made) in
          let waits : IsWaiting u b words of.0 = x.waiting b of.0 there at of.1 in
          inr (sym (ap (λ (n : Note). n.holder) of.2) ∙ waits.holder ∙ at))
    ]

-- in the first group, and in no other
pub noted_first : (groups : List NotesState) (g : NotesState) (a : ℕ)
    → ((note : Note) → Contains g.notes note → Contains (group_at groups 0).notes note ⊎ (note.holder ≡ a)) → (note : Note)
    → IsNotedIn (slice_set groups 0 g) note → IsNotedIn groups note ⊎ (note.holder ≡ a)
noted_first [] g a new note noted = inl noted
noted_first (f ∷ groups) g a new note (zero, low, there) = elim (new note there) [ inl before ↦ inl (zero, low, before) | inr of ↦ inr of ]
noted_first (f ∷ groups) g a new note (suc i, low, there) = inl (suc i, low, there)

-- ---- the key of a pair

-- its header was looked at, and the holder is marked
pub key_looked : (types : List ObjectType) (v w : SeatView) (b : Body) (offset key : ℕ) → Contains w.bodies b → holds w.marked b.place ≡ true
    → Contains (pair_offsets types b) offset → word_at b offset ≡ reference_to key → w.looked ≡ v.looked ++ key ∷ [] → LooksWithin types v w
key_looked types v w b offset key there marked pair named grown =
    looked_once (IsLookedAt types w) v w key grown
    (inr (record { holder = b; there = there; marked = marked; offset = offset; pair = pair; key = named }))
