-- Where no marker runs, marking can be brought to its end as it is.
use Rattle.std.proofs.Common.{◌≡◌, ℕ, zero, suc, ◌+◌, ◌<◌, false, List, [], ◌∷◌, length, drop, refl, sym, ap, ap₂, ◌∙◌, subst, inl, inr, ◌||◌, arith}
use Rattle.std.specs.List.{All, Contains, list_any, sum_by}
use Rattle.std.proofs.lemmas.List.Elements.{All-get_or, All-head, All-tail}
use Rattle.std.proofs.lemmas.List.Sums.{sum_by-cons}
use Rattle.mark_worklist.specs.declared.marking.Marking.{Marking}
use Rattle.page_words.specs.Seat.{SeatView, IsAlone, IsView}
use Rattle.marker_crew.specs.Note.{Note}
use Rattle.atomic_pause.specs.Accounted.{under_way_is_ready}
use Rattle.atomic_pause.specs.Fixpoint.{IsUnrefused}
use Rattle.marker_crew.specs.Notes.{NotesState, no_notes, group_at, IsNotedIn}
use Rattle.atomic_pause.specs.UnderWay.{IsReadyToEnd, IsUnderWay}
use Rattle.marker_crew.specs.Crews.{Marker}
use Rattle.heap_objects.specs.Crews.{refusals_of_all}
use Rattle.heap_objects.specs.Marking.{GreyView, IsCleared, notes_in}
use Rattle.heap_objects.specs.Marks.{CrewIsLent, IsHome}
use Rattle.heap_objects.proofs.JoinedSeats.{or_false}

-- ---- groups in which there is nothing

module _ (x : NotesState) (others : List NotesState) (cleared : All IsCleared others) where
  in_first : (note : Note) → IsNotedIn (x ∷ others) note → IsNotedIn (x ∷ []) note
  in_first note (zero, low, there) = (0, omega arith, there)
  in_first note (suc i, low, there) =
      (let clear : IsCleared (group_at others i) = All-get_or IsCleared others i no_notes (omega (arith, low)) cleared in
      absurd (omega (arith, (subst (λ l. Contains l note) clear.none_noted there).1)))

  in_all : (note : Note) → IsNotedIn (x ∷ []) note → IsNotedIn (x ∷ others) note
  in_all note (zero, low, there) = (0, omega arith, there)
  in_all note (suc i, low, there) = absurd (omega (arith, low))

  first_unrefused : (overflow : _) → IsUnrefused overflow (x ∷ others) → IsUnrefused overflow (x ∷ [])
  first_unrefused overflow fine = record { pushes = fine.pushes; notes = λ i low. first i low }
    where
      first : (i : ℕ) → i < length (x ∷ []) → (group_at (x ∷ []) i).overflow ≡ false
      first zero low = fine.notes 0 (omega arith)
      first (suc i) low = absurd (omega (arith, low))

  pub ready_with_others : (v : SeatView) (m : Marking) → IsReadyToEnd v.types v m (x ∷ []) → IsReadyToEnd v.types v m (x ∷ others)
  ready_with_others v m h = record {
    on = h.on;
    told = h.told;
    alone = h.alone;
    whole = h.whole;
    listed = h.listed;
    noted = λ note there. h.noted note (in_first note there);
    holders = λ note there. h.holders note (in_first note there);
    accounted = λ fine. (let is = h.accounted (first_unrefused m.overflow fine) in record {
      grey = λ p marked white. elim (is.grey p marked white) [
        | inl taken ↦ inl taken
        | inr rest ↦ inr (elim rest [ inl listed ↦ inl listed | inr note ↦ inr (in_all _ note) ])
      ];
      pairs = λ p traced offset b k q there at pair key value. elim (is.pairs p traced offset b k q there at pair key value) [
        | inl marked ↦ inl marked
        | inr note ↦ inr (in_all _ note)
      ];
    });
    own = omega arith;
  }

none_told : (others : List NotesState) → All IsCleared others → list_any (λ (y : NotesState). y.overflow) others ≡ false
none_told [] cleared = refl
none_told (y ∷ others) cleared = ap₂ (λ a b. a || b) (All-head IsCleared y others cleared).unrefused (none_told others (All-tail IsCleared y others cleared))

-- ---- the crew is at home

module _ (v : SeatView) (g : GreyView) (groups : List NotesState) (calm : g.running ≡ []) (way : IsUnderWay v g.marking g.notes) (crew : CrewIsLent v g) (view : IsView v)
    (own : group_at groups 0 ≡ g.notes) (rest : drop 1 groups ≡ g.others) (some : 0 < length groups) where
  home : IsHome g
  home = crew.home calm

  groups_are : groups ≡ g.notes ∷ g.others
  groups_are = parts groups some ∙ ap₂ (λ x xs. x ∷ xs) own rest
    where
      parts : (xs : List NotesState) → 0 < length xs → xs ≡ group_at xs 0 ∷ drop 1 xs
      parts [] none = absurd (omega (arith, none))
      parts (y ∷ ys) more = refl

  alone : IsAlone v
  alone = record { no_hand = way.still.no_hand; no_pending = way.still.no_pending; none_lent = crew.lent ∙ ap length calm }

  pub ready_alone : IsReadyToEnd v.types v g.marking groups
  ready_alone =
      subst (IsReadyToEnd v.types v g.marking) (sym groups_are)
      (ready_with_others g.notes g.others home.others v g.marking
      (under_way_is_ready v g.marking g.notes view way alone v.types refl home.whole (λ note there itself. absurd (home.paired note there itself))))

  pub groups_alone : length groups ≡ g.markers + 1
  groups_alone = omega (arith, ap length groups_are, home.many)

  pub told_alone : refusals_of_all groups ≡ notes_in g
  told_alone =
      ap refusals_of_all groups_are
      ∙ ap₂ (λ t c. record { told = t; count = c }) (ap (λ t. g.notes.overflow || t) (none_told g.others home.others) ∙ or_false g.notes.overflow)
      (sum_by-cons (λ (y : NotesState). y.refused) g.notes g.others
      ∙ ap (λ c. g.notes.refused + c) (let none : sum_by (λ (b : Marker). b.notes.refused) g.running ≡ 0 = ap (sum_by (λ (b : Marker). b.notes.refused)) calm in omega (arith, none)))
