-- Marking that is under way can be brought to its end once the owner is alone with the whole list: the list and the notes
-- account for all that is left to do, unless something was refused.
use Rattle.std.proofs.Common.{◌≡◌, ℕ, zero, suc, ◌+◌, ◌-◌, true, false, List, [], ◌∷◌, None, sym, ap, ◌∙◌, subst, inl, inr, arith}
use Rattle.std.specs.List.{Contains}
use Rattle.gc_graph.specs.State.{ObjectType}
use Rattle.gc_graph.specs.declared.kind.Kind.TheVariants.{Pair}
use Rattle.type_table.specs.Types.{declared_kinds}
use Rattle.mark_worklist.specs.declared.marking.Marking.{Marking}
use Rattle.marker_core.specs.Bodies.{holds, word_in}
use Rattle.page_words.specs.Seat.{SeatView, IsAlone, IsView}
use Rattle.pair_notes.specs.declared.notes.Note.{Note}
use Rattle.pair_notes.specs.BodyGraph.{BodyHasPair}
use Rattle.pair_notes.specs.Notes.{NotesState, HasPairsNoted, IsNotedIn, note_of}
use Rattle.ephemerons.specs.UnderWay.{IsReadyToEnd, IsUnderWay}
use Rattle.ephemerons.specs.Fixpoint.{IsAccounted, IsUnrefused}
use Rattle.pair_notes.specs.Fields.{field_at_offset}
use Rattle.pair_notes.specs.BodyLeads.{role_of_offset}

module _ (v : SeatView) (m : Marking) (x : NotesState) (view : IsView v) (h : IsUnderWay v m x) (alone : IsAlone v) where
  -- the pairs of traced objects
  pairs_noted : x.overflow ≡ false → (p : ℕ) → holds v.traced p ≡ true → HasPairsNoted v.types v p (IsNotedIn (x ∷ []))
  pairs_noted fine p traced offset b k q there at pair key value =
      let field = field_at_offset Pair (declared_kinds v.types b.ty) offset pair in
      let next : offset + 1 - 2 ≡ offset - 2 + 1 = omega (arith, field.2) in
      let back : offset - 2 + 2 ≡ offset = omega (arith, field.2) in
      let at_value : word_in b (offset - 2 + 1) ≡ q + 1 = ap (word_in b) (sym next) ∙ value in
      let target : word_in b (offset - 2 + 1) - 1 ≡ q = omega (arith, at_value) in
      elim ((view.marking h.on).traced_pairs alone.none_lent alone.no_hand alone.no_pending b (offset - 2) there
      (subst (λ a. holds v.traced a ≡ true) (sym at) traced) (role_of_offset v.types b Pair offset pair) (omega (arith, key)) (omega (arith, at_value))) [
        | inl marked ↦ inl (subst (λ a. holds v.marked a ≡ true) target marked)
        | inr noted ↦ inr (
          0,
          omega arith,
          subst (λ o. Contains x.notes (note_of p o)) back
              (subst (λ a. Contains x.notes (note_of a (offset - 2 + 2))) at (h.recorded fine (b.place, offset - 2 + 2) noted)),
        )
      ]

  pub under_way_is_accounted : (types : List ObjectType) → v.types ≡ types → IsUnrefused m.overflow (x ∷ []) → IsAccounted types None v m.list.items (x ∷ [])
  under_way_is_accounted types known fine = record {
    grey = λ p marked white. elim (h.grey fine.pushes (fine.notes 0 (omega arith)) p marked white) [
      | inl listed ↦ inr (inl listed)
      | inr noted ↦ inr (inr (0, omega arith, noted))
    ];
    pairs = λ p traced. subst (λ (ts : List ObjectType). HasPairsNoted ts v p (IsNotedIn (x ∷ []))) known (pairs_noted (fine.notes 0 (omega arith)) p traced);
  }

  in_the_group : (note : Note) → IsNotedIn (x ∷ []) note → Contains x.notes note
  in_the_group note (zero, low, there) = there
  in_the_group note (suc i, low, there) = absurd (omega (arith, low))

  pub under_way_is_ready : (types : List ObjectType) → v.types ≡ types → m.list.whole ≡ true
      → ((note : Note) → Contains x.notes note → note.word ≡ 0 → holds v.marked note.holder ≡ true) → IsReadyToEnd types v m (x ∷ [])
  under_way_is_ready types known whole objects = record {
    on = h.on;
    told = h.told;
    alone = alone;
    whole = whole;
    listed = h.listed;
    noted = λ note there.
        elim (h.noted note (in_the_group note there)) [
          | inl itself ↦ inl (itself, view.marked_are_bodies note.holder (objects note (in_the_group note there) itself))
          | inr pair ↦ inr (subst (λ (ts : List ObjectType). BodyHasPair ts v.bodies note.holder note.word) known pair)
        ];
    holders = λ note there.
        elim (h.holders note (in_the_group note there)) [
          | inl itself ↦ objects note (in_the_group note there) itself
          | inr traced ↦ view.traced_are_marked alone.none_lent note.holder traced
        ];
    accounted = under_way_is_accounted types known;
    own = omega arith;
  }
