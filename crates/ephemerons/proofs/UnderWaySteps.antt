-- Marking stays under way where an object was taken from the list, and was then traced or only looked at.
use Rattle.std.proofs.Common.{◌≡◌, ℕ, zero, suc, true, false, List, [], ◌∷◌, ◌++◌, Option, Some, None, refl, sym, ap, ◌∙◌, subst, inl, inr, arith}
use mathlib.Core.Logic.{◌⊎◌}
use Rattle.std.specs.Prelude.{MatchOption}
use Rattle.std.specs.List.{Contains}
use Rattle.std.proofs.lemmas.Bool.{true≢false, cases_Bool}
use Rattle.std.proofs.lemmas.List.{length_push}
use Rattle.std.proofs.lemmas.List.Elements.{Contains-append_left, Contains-append_right, Contains-append_cases, Contains-push, Contains-push_cases}
use Rattle.gc_graph.specs.Members.{Contains-map, Contains-map_some, pushed_is_held}
use Rattle.gc_graph.specs.State.{ObjectType}
use Rattle.type_table.specs.declared.traced.TracedWord.{TracedWord}
use Rattle.mark_worklist.specs.Lists.{IsOneMore}
use Rattle.mark_worklist.specs.OneMore.{is_there, still_there, was_there}
use Rattle.mark_worklist.specs.Refusals.{Refusals}
use Rattle.mark_worklist.specs.Told.{told_same}
use Rattle.mark_worklist.specs.declared.marking.Marking.{Marking}
use Rattle.marker_core.specs.Bodies.{holds, IsPlace}
use Rattle.page_words.specs.Seat.{SeatView, IsAlone, IsView, is_grey_at}
use Rattle.pair_notes.specs.declared.notes.Note.{Note}
use Rattle.pair_notes.specs.BodyGraph.{BodyHasPair}
use Rattle.pair_notes.specs.Notes.{NotesState, IsNotedIn, IsNote, group_at, note_of, refusals_in}
use Rattle.pair_notes.specs.InHand.{OnlyLooks}
use Rattle.ephemerons.specs.Traces.{Traces, note_from}
use Rattle.ephemerons.specs.UnderWay.{IsOfTraced, IsUnderWay}
use Rattle.ephemerons.specs.UnderWayStays.{holder_yet, pair_same, unshared_before}
use Rattle.ephemerons.specs.Fixpoint.{IsGround, Mode, Works, IsListed, IsStillHeld, mode_of, stage, with_held}
use Rattle.ephemerons.proofs.Ends.{few_untraced}
use Rattle.ephemerons.proofs.GreySteps.{ReadsFields, was_traced}
use Rattle.ephemerons.proofs.Lists.{holds_push_old}
use Rattle.ephemerons.proofs.Stages.{MarksOn-same, Works-same}
use Rattle.ephemerons.proofs.TrueOfViews.{are_references, traced_name_marked}

-- ---- the ground from which it goes on

noted_pairs : (v : SeatView) (m : Marking) (x : NotesState) → ((note : Note) → Contains x.notes note → note.word ≡ 0 → IsPlace v.bodies note.holder)
    → IsUnderWay v m x → (note : Note) → IsNotedIn (x ∷ []) note → IsNote v.types v.bodies note
noted_pairs v m x objects h note (zero, low, there) = elim (h.noted note there) [ inl itself ↦ inl (itself, objects note there itself) | inr pair ↦ inr pair ]
noted_pairs v m x objects h note (suc i, low, there) = absurd (omega (arith, low))

pub step_ground : (types : List ObjectType) (v : SeatView) (m : Marking) (x : NotesState) → IsView v → v.types ≡ types → IsAlone v → m.list.whole ≡ true
    → ((note : Note) → Contains x.notes note → note.word ≡ 0 → IsPlace v.bodies note.holder) → IsUnderWay v m x → IsGround types (stage v m (x ∷ []) 0)
step_ground types v m x view known alone whole objects h = record {
  on = h.on;
  told = h.told;
  whole = whole;
  known = known;
  alone = alone;
  references = are_references v view h.on types known;
  traced_name_marked = traced_name_marked v view h.on types known alone;
  listed = λ p there. view.marked_are_bodies p (h.listed p there);
  noted = λ note there. subst (λ (ts : List ObjectType). IsNote ts v.bodies note) known (noted_pairs v m x objects h note there);
  own = omega arith;
  few = omega (arith, few_untraced v view);
}

-- ---- an object is taken from the list

-- the list has what it had, with what is held back from it
pub moved_under_way : (v : SeatView) (m n : Marking) (x : NotesState) → mode_of n ≡ mode_of m → (n.overflow ≡ false → m.overflow ≡ false)
    → ((p : ℕ) → Contains n.list.items p → Contains m.list.items p) → (n.overflow ≡ false → (p : ℕ) → Contains m.list.items p → Contains n.list.items p)
    → IsUnderWay v m x → IsUnderWay v n x
moved_under_way v m n x mode overflow back there h = record {
  on = h.on;
  told = ap (λ (o : Mode). o.on) mode ∙ h.told;
  still = h.still;
  listed = λ p listed. h.listed p (back p listed);
  grey = λ fine unrefused p marked white. elim (h.grey (overflow fine) unrefused p marked white) [
    | inl listed ↦ inl (there fine p listed)
    | inr noted ↦ inr noted
  ];
  unshared = λ none fine p marked white. there fine p (h.unshared (unshared_before m n mode none) (overflow fine) p marked white);
  noted = h.noted;
  holders = h.holders;
  recorded = h.recorded;
}

pub held_under_way : (v : SeatView) (m n : Marking) (x : NotesState) (a : ℕ) → IsOneMore n.list.items a m.list.items → mode_of n ≡ mode_of m
    → n.overflow ≡ m.overflow → IsUnderWay v m x → IsUnderWay v (with_held (Some a) n) x
held_under_way v m n x a one mode overflow =
    moved_under_way v m (with_held (Some a) n) x mode (λ fine. sym overflow ∙ fine)
    (λ p there. elim (Contains-push_cases n.list.items a p there) [
      | inl old ↦ still_there n.list.items m.list.items a one p old
      | inr here ↦ subst (Contains m.list.items) here (is_there n.list.items m.list.items a one)
    ])
    (λ fine p there. elim (was_there n.list.items m.list.items a one p there) [
      | inl old ↦ Contains-append_left n.list.items (a ∷ []) p old
      | inr here ↦ subst (Contains (n.list.items ++ a ∷ [])) here (Contains-push n.list.items a)
    ])

-- the list and what is held back are together what they were
pub still_under_way : (v : SeatView) (m n : Marking) (old new : Option ℕ) (x : NotesState) → IsStillHeld m old n new → IsUnderWay v (with_held old m) x
    → IsUnderWay v (with_held new n) x
still_under_way v m n old new x still =
    moved_under_way v (with_held old m) (with_held new n) x still.mode (λ fine. sym (ap (λ (r : Refusals). r.told) still.refusals) ∙ fine) still.items.back
    (λ fine. still.items.there)

-- what was held back is listed, or its push is refused
pub listed_under_way : (v : SeatView) (m n : Marking) (held : Option ℕ) (x : NotesState) → MatchOption held (n ≡ m) (IsListed m n)
    → IsUnderWay v (with_held held m) x → IsUnderWay v n x
listed_under_way v m n None x same h = subst (λ (k : Marking). IsUnderWay v k x) (sym same) h
listed_under_way v m n (Some a) x listed h =
    moved_under_way v (with_held (Some a) m) n x listed.mode listed.overflow
    (λ p there. elim (listed.listed p there) [
      | inl old ↦ Contains-append_left m.list.items (a ∷ []) p old
      | inr here ↦ subst (Contains (m.list.items ++ a ∷ [])) here (Contains-push m.list.items a)
    ])
    (λ fine p there. elim (Contains-push_cases m.list.items a p there) [
      | inl old ↦ listed.kept p old
      | inr here ↦ subst (Contains n.list.items) here (listed.there fine)
    ]) h

pub listed_works : (types : List ObjectType) (v : SeatView) (m n : Marking) (held : Option ℕ) (groups : List NotesState) (t : ℕ)
    → MatchOption held (n ≡ m) (IsListed m n) → Works types None (stage v (with_held held m) groups t) (stage v n groups t)
listed_works types v m n None groups t same =
    subst (λ (k : Marking). Works types None (stage v m groups t) (stage v k groups t)) (sym same) (Works-same types (stage v m groups t))
listed_works types v m n (Some a) groups t listed = record {
  kept = MarksOn-same v;
  within = λ test closed held p marked. held p marked;
  mode = listed.mode;
  unrefused = λ fine. record { pushes = listed.overflow fine.pushes; notes = fine.notes };
  told = listed.told;
  notes_told = λ i. told_same (refusals_in (group_at groups i));
  many = refl;
  noted = λ note h. h;
  accounted = λ fine h. record {
    grey = λ p marked white. elim (h.grey p marked white) [
      | inl none ↦ inl none
      | inr known ↦ inr (elim known [
        | inl there ↦ inl (elim (Contains-push_cases m.list.items a p there) [
          | inl old ↦ listed.kept p old
          | inr here ↦ subst (Contains n.list.items) here (listed.there fine.pushes)
        ])
        | inr noted ↦ inr noted
      ])
    ];
    pairs = h.pairs;
  };
  lighter = omega (arith, listed.length, length_push m.list.items a);
  fewer = omega arith;
  counted = λ differ. refl;
}

-- ---- it was grey, and its words were traced

module _ (types : List ObjectType) (v u w : SeatView) (m n : Marking) (x y : NotesState) (a : ℕ) (r : ReadsFields types v u w m n x y a) where
  traced_is : w.traced ≡ v.traced ++ a ∷ []
  traced_is = r.marks.traced ∙ ap (λ (z : SeatView). z.traced) r.claimed

  bodies_are : w.bodies ≡ v.bodies
  bodies_are = ap (λ (z : SeatView). z.bodies) r.marks.view ∙ ap (λ (z : SeatView). z.bodies) r.claimed

  types_are : w.types ≡ v.types
  types_are = ap (λ (z : SeatView). z.types) r.marks.view ∙ ap (λ (z : SeatView). z.types) r.claimed

  was_marked : (p : ℕ) → holds u.marked p ≡ true → holds v.marked p ≡ true
  was_marked p h = subst (λ l. holds l p ≡ true) (ap (λ (z : SeatView). z.marked) r.claimed) h

  still_marked : (p : ℕ) → holds v.marked p ≡ true → holds w.marked p ≡ true
  still_marked p h = r.marks.marked p (subst (λ l. holds l p ≡ true) (sym (ap (λ (z : SeatView). z.marked) r.claimed)) h)

  still_traced : (p : ℕ) → holds v.traced p ≡ true → holds w.traced p ≡ true
  still_traced p old = subst (λ l. holds l p ≡ true) (sym traced_is) (holds_push_old v.traced a p old)

  was_white : (p : ℕ) → holds w.traced p ≡ false → holds v.traced p ≡ false
  was_white p white = elim (cases_Bool (holds v.traced p)) [
    | inl old ↦ absurd (true≢false (sym (still_traced p old) ∙ white))
    | inr fine ↦ fine
  ]

  own_traced : (p : ℕ) → a ≡ p → holds w.traced p ≡ true
  own_traced p here = subst (λ q. holds w.traced q ≡ true) here (subst (λ l. holds l a ≡ true) (sym traced_is) (pushed_is_held v.traced a))

  -- what was grey and is yet was and is listed, or noted
  still_listed : (p : ℕ) → holds w.traced p ≡ false → Contains (m.list.items ++ a ∷ []) p → Contains n.list.items p
  still_listed p white there = elim (Contains-push_cases m.list.items a p there) [
    | inl listed ↦ r.marks.kept p listed
    | inr here ↦ absurd (true≢false (sym (own_traced p here) ∙ white))
  ]

  -- the new notes are of pairs of traced objects, and what the hand noted is among them
  pub noted_under_way : ((note : Note) → Contains y.notes note → Contains x.notes note ⊎ IsOfTraced w.types w note)
      → (y.overflow ≡ false → (pair : ℕ × ℕ) → Contains w.noted pair → Contains y.notes (note_from pair)) → IsUnderWay v (with_held (Some a) m) x
      → IsUnderWay w n y
  noted_under_way noted recorded h = record {
    on = ap (λ (z : SeatView). z.on) r.marks.view ∙ ap (λ (z : SeatView). z.on) r.claimed ∙ h.on;
    told = ap (λ (o : Mode). o.on) r.marks.mode ∙ h.told;
    still = record { no_hand = r.no_hand; no_pending = r.no_pending };
    listed = λ p there. elim (r.marks.listed p there) [
      | inl old ↦ still_marked p (h.listed p (Contains-append_left m.list.items (a ∷ []) p old))
      | inr fresh ↦ fresh.marked
    ];
    grey = λ fine unrefused p marked white. elim (r.marks.fresh fine p marked) [
      | inl old ↦ elim (h.grey (r.marks.overflow fine) (r.notes.overflow unrefused) p (was_marked p old) (was_white p white)) [
        | inl listed ↦ inl (still_listed p white listed)
        | inr note ↦ inr (r.notes.kept (note_of p 0) note)
      ]
      | inr listed ↦ inl listed
    ];
    unshared = λ none fine p marked white. elim (r.marks.fresh fine p marked) [
      | inl old ↦ still_listed p white
          (h.unshared (unshared_before m n r.marks.mode none) (r.marks.overflow fine) p (was_marked p old) (was_white p white))
      | inr listed ↦ listed
    ];
    noted = λ note there.
        elim (noted note there) [ inl before ↦ pair_same v w note types_are bodies_are (h.noted note before) | inr new ↦ inr new.0 ];
    holders = λ note there.
        elim (noted note there) [ inl before ↦ holder_yet v w note still_traced (h.holders note before) | inr new ↦ inr new.1 ];
    recorded = recorded;
  }

  module _ (ty : ℕ) (words : List TracedWord) (noted : u.noted ≡ v.noted) (told : Traces u x w y a words) where
    -- what is noted of the words is of pairs of this object
    noted_of_this : (note : Note) → Contains told.notes.made note → a ≡ note.holder
    noted_of_this note new =
        let from = Contains-map_some note_from told.pairs note (told.notes.some note new) in
        let there : Contains u.bodies r.place.0 = subst (λ bs. Contains bs r.place.0) (sym (ap (λ (z : SeatView). z.bodies) r.claimed)) r.place.1 in
        sym r.place.2 ∙ sym (told.waiting r.place.0 from.0 there r.place.2 from.1).holder ∙ ap (λ (n : Note). n.holder) from.2

    pub grey_noted : (note : Note) → Contains y.notes note → Contains x.notes note ⊎ IsOfTraced types w note
    grey_noted note there =
        elim (Contains-append_cases x.notes told.notes.made note (subst (λ l. Contains l note) told.notes.notes there)) [
          | inl old ↦ inl old
          | inr new ↦ elim (r.notes.pairs note there) [
            | inl old ↦ inl old
            | inr pair ↦ inr (
              subst (λ bs. BodyHasPair types bs note.holder note.word) (sym bodies_are) pair,
              own_traced note.holder (noted_of_this note new),
            )
          ]
        ]

    pub grey_under_way : v.types ≡ types → IsUnderWay v (with_held (Some a) m) x → IsUnderWay w n y
    grey_under_way known h =
        noted_under_way
        (λ note there. elim (grey_noted note there) [
          | inl old ↦ inl old
          | inr new ↦ inr (subst (λ (ts : List ObjectType). IsOfTraced ts w note) (sym (types_are ∙ known)) new)
        ])
        (λ fine pair there.
        elim (Contains-append_cases v.noted told.pairs pair (subst (λ l. Contains l pair) (told.noted ∙ ap (λ l. l ++ told.pairs) noted) there)) [
          | inl old ↦ r.notes.kept (note_from pair) (h.recorded (r.notes.overflow fine) pair old)
          | inr new ↦ subst (λ l. Contains l (note_from pair)) (sym told.notes.notes)
              (Contains-append_right x.notes told.notes.made (note_from pair)
              (subst (λ l. Contains l (note_from pair)) (sym (told.notes.all fine)) (Contains-map note_from told.pairs pair new)))
        ])
        h

-- and none of them was a pair
pub strong_under_way : (types : List ObjectType) (v u w : SeatView) (m n : Marking) (x : NotesState) (a : ℕ) → ReadsFields types v u w m n x x a
    → w.noted ≡ v.noted → IsUnderWay v (with_held (Some a) m) x → IsUnderWay w n x
strong_under_way types v u w m n x a r same h =
    noted_under_way types v u w m n x x a r (λ note there. inl there) (λ fine pair there. h.recorded fine pair (subst (λ l. Contains l pair) same there)) h

-- ---- it was not grey, and was only looked at

pub black_under_way : (v w : SeatView) (m : Marking) (x : NotesState) (a : ℕ) → OnlyLooks v w → is_grey_at v a ≡ false → IsUnderWay v (with_held (Some a) m) x
    → IsUnderWay w m x
black_under_way v w m x a looks black h =
    let marks : w.marked ≡ v.marked = ap (λ (z : SeatView). z.marked) looks.marks in
    let traces : w.traced ≡ v.traced = ap (λ (z : SeatView). z.traced) looks.marks in
    let listed : (p : ℕ) → holds w.marked p ≡ true → holds w.traced p ≡ false → Contains (m.list.items ++ a ∷ []) p → Contains m.list.items p =
    λ p marked white there.
    let was_marked : holds v.marked p ≡ true = subst (λ l. holds l p ≡ true) marks marked in
    let was_white : holds v.traced p ≡ false = subst (λ l. holds l p ≡ false) traces white in
    elim (Contains-push_cases m.list.items a p there) [
      | inl old ↦ old
      | inr here ↦ absurd (true≢false (sym (was_traced v p (subst (λ q. is_grey_at v q ≡ false) here black) was_marked) ∙ was_white))
    ] in
    record {
      on = ap (λ (z : SeatView). z.on) looks.marks ∙ h.on;
      told = h.told;
      still = record { no_hand = looks.alone.no_hand; no_pending = looks.alone.no_pending };
      listed = λ p there. subst (λ l. holds l p ≡ true) (sym marks) (h.listed p (Contains-append_left m.list.items (a ∷ []) p there));
      grey = λ fine unrefused p marked white.
          elim (h.grey fine unrefused p (subst (λ l. holds l p ≡ true) marks marked) (subst (λ l. holds l p ≡ false) traces white)) [
            | inl there ↦ inl (listed p marked white there)
            | inr note ↦ inr note
          ];
      unshared = λ none fine p marked white.
          listed p marked white (h.unshared none fine p (subst (λ l. holds l p ≡ true) marks marked) (subst (λ l. holds l p ≡ false) traces white));
      noted = λ note there. pair_same v w note (ap (λ (z : SeatView). z.types) looks.marks) (ap (λ (z : SeatView). z.bodies) looks.marks) (h.noted note there);
      holders = λ note there. holder_yet v w note (λ p is. subst (λ l. holds l p ≡ true) (sym traces) is) (h.holders note there);
      recorded = λ fine pair there. h.recorded fine pair (subst (λ l. Contains l pair) looks.noted there);
    }
