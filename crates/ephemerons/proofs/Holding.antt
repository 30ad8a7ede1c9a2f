-- Marks with one object that is held back from the list, and counts as listed.
use Rattle.std.proofs.Common.{◌≡◌, ℕ, ◌<◌, true, false, List, [], ◌∷◌, ◌++◌, length, Option, Some, None, refl, sym, ap, ◌∙◌, subst, inl, inr, arith}
use Rattle.std.specs.Prelude.{MatchOption, IfSome, IfNone}
use Rattle.std.specs.Option.{is_some}
use Rattle.std.proofs.lemmas.Bool.{true≢false}
use Rattle.std.specs.List.{Contains}
use Rattle.std.proofs.lemmas.List.{length_push}
use Rattle.std.proofs.lemmas.List.Elements.{Contains-append_left, Contains-push, Contains-push_cases}
use Rattle.gc_graph.specs.State.{ObjectType}
use Rattle.mark_worklist.specs.Lists.{no_items, IsOneMore}
use Rattle.mark_worklist.specs.AsMany.{pushed_as_many, refused_as_many}
use Rattle.mark_worklist.specs.OneMore.{at_the_end, one_longer, is_there, still_there, was_there}
use Rattle.mark_worklist.specs.Refusals.{Refusals, PushesOrTells, TellsRefused, refusals_of}
use Rattle.mark_worklist.specs.declared.marking.Marking.{Marking}
use Rattle.marker_core.specs.Bodies.{IsPlace}
use Rattle.page_words.specs.Seat.{SeatView}
use Rattle.pair_notes.specs.Marking.{heap_and_marks}
use Rattle.pair_notes.specs.Notes.{NotesState, group_at, refusals_in}
use Rattle.ephemerons.specs.Fixpoint.{Mode, Stage, mode_of, stage, weight, IsGround, Works, ListsMarks, IsListed, IsStillHeld, weight_of, with_held}
use Rattle.mark_worklist.specs.Told.{told_same}
use Rattle.ephemerons.proofs.Stages.{mode_is, MarksOn-same, Works-popped}

pub no_marking : Marking
no_marking = record { on = false; overflow = false; list = no_items }

pub ListsMarks-same : (v : SeatView) (m : Marking) → ListsMarks v m v m
ListsMarks-same v m = record {
  view = refl;
  traced = refl;
  no_hand = λ none. none;
  no_pending = λ none. none;
  marked = λ p h. h;
  mode = refl;
  overflow = λ fine. fine;
  told = told_same (refusals_of m);
  kept = λ p h. h;
  listed = λ p h. inl h;
  fresh = λ fine p h. inl h;
  lighter = omega arith;
}

pub held_back : (m : Marking) (a : ℕ) → IsListed m (with_held (Some a) m) a
held_back m a = record {
  mode = refl;
  overflow = λ fine. fine;
  told = told_same (refusals_of m);
  kept = λ p h. Contains-append_left m.list.items (a ∷ []) p h;
  listed = λ p h. Contains-push_cases m.list.items a p h;
  there = λ fine. Contains-push m.list.items a;
  length = omega (arith, length_push m.list.items a);
}

-- a push lists the place, or is refused
listed_by_push : (m n : Marking) (a : ℕ) → PushesOrTells m n a → TellsRefused (refusals_of m) (refusals_of n) → IsListed m n a
listed_by_push m n a pushed told = elim pushed [
  | inl done ↦ record {
    mode = mode_is m n (ap (λ (x : Marking). x.on) done.1) done.0.whole (pushed_as_many m.list n.list a done.0);
    overflow = λ fine. sym (ap (λ (x : Marking). x.overflow) done.1) ∙ fine;
    told = told;
    kept = still_there m.list.items n.list.items a done.0.items;
    listed = was_there m.list.items n.list.items a done.0.items;
    there = λ fine. is_there m.list.items n.list.items a done.0.items;
    length = omega (arith, one_longer m.list.items n.list.items a done.0.items);
  }
  | inr refused ↦
      let same : n.list.items ≡ m.list.items = ap (λ (x : Marking). x.list.items) refused in
      let raised : n.overflow ≡ true = ap (λ (x : Marking). x.overflow) refused in
      record {
        mode = mode_is m n (ap (λ (x : Marking). x.on) refused) (ap (λ (x : Marking). x.list.whole) refused)
            (ap (λ (x : Marking). length x.list.shares) refused ∙ refused_as_many m.list);
        overflow = λ fine. absurd (true≢false (sym raised ∙ fine));
        told = told;
        kept = λ p h. subst (λ items. Contains items p) (sym same) h;
        listed = λ p h. inl (subst (λ items. Contains items p) same h);
        there = λ fine. absurd (true≢false (sym raised ∙ fine));
        length = omega (arith, ap length same);
      }
]

-- what was held back is listed by its push
pub held_listed : (m n : Marking) (held : Option ℕ) (a : ℕ) → held ≡ Some a → PushesOrTells m n a → TellsRefused (refusals_of m) (refusals_of n)
    → MatchOption held (n ≡ m) (IsListed m n)
held_listed m n held a is pushed told = subst (λ h. MatchOption h (n ≡ m) (IsListed m n)) (sym is) (listed_by_push m n a pushed told)

-- an object was marked, or none, and what was held back is listed
pub fresh_listed : (v w : SeatView) (m n : Marking) (fresh : Option ℕ) → ((k : Marking) → ListsMarks v k w (with_held fresh k))
    → MatchOption fresh (n ≡ m) (IsListed m n) → ListsMarks v m w n
fresh_listed v w m n None marks same = subst (ListsMarks v m w) (sym same) (marks m)
fresh_listed v w m n (Some a) marks listed =
    let x : ListsMarks v m w (with_held (Some a) m) = marks m in
    record {
      view = x.view;
      traced = x.traced;
      no_hand = x.no_hand;
      no_pending = x.no_pending;
      marked = x.marked;
      mode = listed.mode;
      overflow = listed.overflow;
      told = listed.told;
      kept = listed.kept;
      listed = λ p h. elim (listed.listed p h) [
        | inl before ↦ inl before
        | inr here ↦ x.listed p (subst (Contains (m.list.items ++ a ∷ [])) here (Contains-push m.list.items a))
      ];
      fresh = λ fine p h. elim (x.fresh (listed.overflow fine) p h) [
        | inl old ↦ inl old
        | inr there ↦ inr (elim (Contains-push_cases m.list.items a p there) [
          | inl before ↦ listed.kept p before
          | inr here ↦ subst (Contains n.list.items) here (listed.there fine)
        ])
      ];
      lighter = omega (arith, x.lighter, listed.length, length_push m.list.items a);
    }

pub fresh_lighter : (v w : SeatView) (m n : Marking) (fresh : Option ℕ) → ((k : Marking) → IfSome fresh (λ a. weight_of w (with_held (Some a) k) < weight_of v k))
    → MatchOption fresh (n ≡ m) (IsListed m n) → is_some fresh ≡ true → weight_of w n < weight_of v m
fresh_lighter v w m n None less same found = absurd (true≢false (sym found))
fresh_lighter v w m n (Some a) less listed found = omega (arith, less m, listed.length, length_push m.list.items a)

pub fresh_still : (v w : SeatView) (m n : Marking) (fresh : Option ℕ) → IfNone fresh (heap_and_marks w ≡ heap_and_marks v)
    → MatchOption fresh (n ≡ m) (IsListed m n) → is_some fresh ≡ false → (heap_and_marks w ≡ heap_and_marks v) × (n ≡ m)
fresh_still v w m n None still same none = (still, same)
fresh_still v w m n (Some a) still listed none = absurd (true≢false none)

-- ---- the list and what is held back have what they had

-- nothing is held back and nothing was listed
pub none_held : (m n : Marking) → mode_of n ≡ mode_of m → refusals_of n ≡ refusals_of m → m.list.items ≡ [] → n.list.items ≡ [] → IsStillHeld m None n None
none_held m n mode refusals before after = record {
  items = record {
    there = λ p h. absurd (omega (arith, h.1, ap length before));
    back = λ p h. absurd (omega (arith, h.1, ap length after));
    long = ap length after ∙ sym (ap length before);
  };
  mode = mode;
  refusals = refusals;
}

-- one that was listed is held back
pub one_held : (m n : Marking) (a : ℕ) → mode_of n ≡ mode_of m → refusals_of n ≡ refusals_of m → IsOneMore n.list.items a m.list.items → IsStillHeld m None n (Some a)
one_held m n a mode refusals one =
    let held = at_the_end n.list.items a in
    record {
      items = record {
        there = λ p h. elim (was_there n.list.items m.list.items a one p h) [
          | inl still ↦ still_there n.list.items (n.list.items ++ a ∷ []) a held p still
          | inr here ↦ subst (Contains (n.list.items ++ a ∷ [])) here (is_there n.list.items (n.list.items ++ a ∷ []) a held)
        ];
        back = λ p h. elim (was_there n.list.items (n.list.items ++ a ∷ []) a held p h) [
          | inl still ↦ still_there n.list.items m.list.items a one p still
          | inr here ↦ subst (Contains m.list.items) here (is_there n.list.items m.list.items a one)
        ];
        long = omega (arith, one_longer n.list.items m.list.items a one, one_longer n.list.items (n.list.items ++ a ∷ []) a held);
      };
      mode = mode;
      refusals = refusals;
    }

-- what a pop gave is held back
pub popped_held : (m n : Marking) (popped : Option ℕ) → mode_of n ≡ mode_of m → refusals_of n ≡ refusals_of m
    → MatchOption popped ((m.list.items ≡ []) × (n.list.items ≡ [])) (λ a. IsOneMore n.list.items a m.list.items) → IsStillHeld m None n popped
popped_held m n None mode refusals none = none_held m n mode refusals none.0 none.1
popped_held m n (Some a) mode refusals one = one_held m n a mode refusals one

-- and where it gave nothing, nothing is listed
pub popped_none : (m n : Marking) (popped : Option ℕ)
    → MatchOption popped ((m.list.items ≡ []) × (n.list.items ≡ [])) (λ a. IsOneMore n.list.items a m.list.items) → IfNone popped (n.list.items ≡ [])
popped_none m n None none = none.1
popped_none m n (Some a) one = tt

module _ (m n : Marking) (old new : Option ℕ) (x : IsStillHeld m old n new) (v : SeatView) (groups : List NotesState) (t : ℕ) where
  pub still_weighs : weight (stage v (with_held new n) groups t) ≡ weight (stage v (with_held old m) groups t)
  still_weighs = omega (arith, x.items.long)

  pub still_ground : (types : List ObjectType) → IsGround types (stage v (with_held old m) groups t) → IsGround types (stage v (with_held new n) groups t)
  still_ground types ground = record {
    on = ground.on;
    told = ap (λ (o : Mode). o.on) x.mode ∙ ground.told;
    whole = ap (λ (o : Mode). o.whole) x.mode ∙ ground.whole;
    known = ground.known;
    alone = ground.alone;
    references = ground.references;
    traced_name_marked = ground.traced_name_marked;
    listed = λ p h. ground.listed p (x.items.back p h);
    noted = ground.noted;
    own = ground.own;
    few = ground.few;
  }

  pub still_works : (types : List ObjectType) → Works types None (stage v (with_held old m) groups t) (stage v (with_held new n) groups t)
  still_works types = record {
    kept = MarksOn-same v;
    within = λ test closed held p marked. held p marked;
    mode = x.mode;
    unrefused = λ fine. record { pushes = sym (ap (λ (r : Refusals). r.told) x.refusals) ∙ fine.pushes; notes = fine.notes };
    told = subst (TellsRefused (refusals_of (with_held old m))) (sym x.refusals) (told_same (refusals_of (with_held old m)));
    notes_told = λ i. told_same (refusals_in (group_at groups i));
    many = refl;
    noted = λ note h. h;
    accounted = λ fine h. record {
      grey = λ p marked untraced. elim (h.grey p marked untraced) [
        | inl none ↦ inl none
        | inr known ↦ inr (elim known [ inl listed ↦ inl (x.items.there p listed) | inr noted ↦ inr noted ])
      ];
      pairs = h.pairs;
    };
    lighter = omega (arith, still_weighs);
    fewer = omega arith;
    counted = λ differ. refl;
  }

-- the object that was held back is the next one
pub held_works : (types : List ObjectType) (v : SeatView) (m : Marking) (groups : List NotesState) (t a : ℕ) (after : Stage)
    → Works types (Some a) (stage v m groups t) after → Works types None (stage v (with_held (Some a) m) groups t) after
held_works types v m groups t a after x =
    Works-popped types (stage v (with_held (Some a) m) groups t) after m.list.items a m.list.refused (mode_of m) (at_the_end m.list.items a) refl refl x

-- what holds at a stage holds without the object that is held back
pub held_ground : (types : List ObjectType) (v : SeatView) (m : Marking) (groups : List NotesState) (t a : ℕ)
    → IsGround types (stage v (with_held (Some a) m) groups t) → IsGround types (stage v m groups t)
held_ground types v m groups t a x = record {
  on = x.on;
  told = x.told;
  whole = x.whole;
  known = x.known;
  alone = x.alone;
  references = x.references;
  traced_name_marked = x.traced_name_marked;
  listed = λ p h. x.listed p (Contains-append_left m.list.items (a ∷ []) p h);
  noted = x.noted;
  own = x.own;
  few = x.few;
}

pub held_place : (types : List ObjectType) (v : SeatView) (m : Marking) (groups : List NotesState) (t a : ℕ)
    → IsGround types (stage v (with_held (Some a) m) groups t) → IsPlace v.bodies a
held_place types v m groups t a x = x.listed a (Contains-push m.list.items a)

pub held_heavier : (v : SeatView) (m : Marking) (groups : List NotesState) (t a : ℕ) → weight (stage v m groups t) < weight (stage v (with_held (Some a) m) groups t)
held_heavier v m groups t a = omega (arith, length_push m.list.items a)
