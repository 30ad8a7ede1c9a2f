-- Marking stays under way while fields are written, what is stored is marked, and objects are made.
use Rattle.std.proofs.Common.{◌≡◌, ℕ, Bool, true, false, not, List, [], ◌∷◌, ◌++◌, length, set, refl, sym, ap, ◌∙◌, subst, inl, inr, cond, arith, eqb, ◌<◌}
use mathlib.Core.Logic.{◌⊎◌}
use Rattle.std.specs.List.{Contains}
use Rattle.std.proofs.lemmas.Bool.{true≢false, cases_Bool, or_cases, or_left}
use Rattle.std.proofs.lemmas.List.Folds.{list_any-append}
use Rattle.std.proofs.lemmas.List.{get_or-set_same, length-set}
use Rattle.std.proofs.lemmas.List.Elements.{Contains-append_left, Contains-append_right, Contains-push_cases}
use Rattle.gc_graph.specs.Members.{Contains-head, Contains-map, in_from_holds, pushed_is_held, Contains-cons_cases}
use Rattle.mark_worklist.specs.OneMore.{still_there, was_there, is_there}
use Rattle.mark_worklist.specs.declared.marking.Marking.{Marking}
use Rattle.mark_worklist.specs.Lists.{ListState, IsPutOnList, with_own, list_refused_once, one_counted}
use Rattle.mark_worklist.specs.Refusals.{PushesOrTells}
use Rattle.mark_worklist.specs.Families.{at, nobody}
use Rattle.mark_worklist.specs.Joining.{IsSameList}
use Rattle.mark_worklist.specs.Kept.{same-list, list-then}
use Rattle.mark_worklist.specs.Shares.{ShareState, IsSameShare, put_of, taken_by_share, share_pushed, refused_once}
use Rattle.marker_core.specs.declared.states.Body.{Body}
use Rattle.marker_core.specs.Bodies.{holds, place_named, with_word}
use Rattle.marker_core.specs.Hands.{each_hand, hand_after_mark}
use Rattle.marker_core.specs.SeatSteps.{settled}
use Rattle.page_words.specs.Roles.{kind_lists}
use Rattle.page_words.specs.Seat.{SeatView, IsStill, rewritten, marked_at}
use Rattle.page_words.specs.WrittenBodies.{by_word, same_place}
use Rattle.page_space.specs.Occupying.{Occupies}
use Rattle.marker_crew.specs.BodyGraph.{BodyHasPair, pair_offsets}
use Rattle.marker_crew.specs.Notes.{NotesState}
use Rattle.atomic_pause.specs.UnderWay.{IsUnderWay, ListsGrey}
use Rattle.atomic_pause.specs.UnderWayStays.{holder_yet}
use Rattle.heap_objects.specs.Crews.{PutsOn}
use Rattle.member_fields.specs.Barrier.{HasBarrier, asks_for_mark, target_marked}

-- ---- one list and a place

pub held_push : (places : List ℕ) (p q : ℕ) → holds (places ++ p ∷ []) q ≡ true → (holds places q ≡ true) ⊎ (p ≡ q)
held_push places p q is = elim (or_cases _ _ (sym (list_any-append (λ r. eqb r q) places (p ∷ [])) ∙ is)) [
  | inl old ↦ inl old
  | inr new ↦ elim (Contains-cons_cases p [] q (in_from_holds (p ∷ []) q new)) [ inl same ↦ inr same | inr never ↦ absurd (omega (arith, never.1)) ]
]

pub push_holds : (places : List ℕ) (p q : ℕ) → holds places q ≡ true → holds (places ++ p ∷ []) q ≡ true
push_holds places p q is = list_any-append (λ r. eqb r q) places (p ∷ []) ∙ or_left _ _ is

-- ---- what stays, or only grows

-- whatever is asked of marking that is under way, but for the list
pub record Leaves (old new : SeatView) : Type 0 where
  pub on : new.on ≡ old.on
  pub still : IsStill old → IsStill new
  pub lent : new.lent ≡ old.lent
  pub heap : new.heap ≡ old.heap
  pub types : new.types ≡ old.types
  pub pairs : (p offset : ℕ) → BodyHasPair old.types old.bodies p offset → BodyHasPair new.types new.bodies p offset
  pub marked : (p : ℕ) → holds old.marked p ≡ true → holds new.marked p ≡ true
  pub traced : new.traced ≡ old.traced
  pub noted : new.noted ≡ old.noted
  pub missed : new.missed ≡ old.missed

-- the list and what is marked go together
pub record ListsOn (old : SeatView) (before : Marking) (new : SeatView) (after : Marking) : Type 0 where
  pub on : after.on ≡ before.on
  pub overflow : after.overflow ≡ false → before.overflow ≡ false
  pub kept : (p : ℕ) → Contains before.list.items p → Contains after.list.items p
  pub listed : (p : ℕ) → Contains after.list.items p → Contains before.list.items p ⊎ (holds new.marked p ≡ true)
  pub fresh : after.overflow ≡ false → (p : ℕ) → holds new.marked p ≡ true → (holds old.marked p ≡ true) ⊎ Contains after.list.items p
  pub puts : PutsOn before.list after.list (λ p. holds new.marked p ≡ true)

pub puts_same : (l : ListState) (is : ℕ → Type 0) → PutsOn l l is
puts_same l is = record {
  whole = refl;
  unshared = λ none. none;
  alone = λ whole. refl;
  family = λ out some. same-list l.shares;
  taken = λ out some. refl;
  put = λ out some p there. inl there;
  kept = λ out some p there. there;
  item = λ out some p there. inl there;
  refused = λ out some same. same;
}

pub lists_same : (old new : SeatView) (m : Marking) → new.marked ≡ old.marked → ListsOn old m new m
lists_same old new m same = record {
  on = refl;
  overflow = λ h. h;
  kept = λ p h. h;
  listed = λ p h. inl h;
  fresh = λ fine p h. inl (ap (λ l. holds l p) (sym same) ∙ h);
  puts = puts_same m.list (λ p. holds new.marked p ≡ true);
}

-- what is grey is listed
grey_on : (old new : SeatView) (m n : Marking) → Leaves old new → ListsOn old m new n → ListsGrey old m → ListsGrey new n
grey_on old new m n leaves lists grey = λ fine p marked white. elim (lists.fresh fine p marked) [
  | inl before ↦ lists.kept p (grey (lists.overflow fine) p before (ap (λ l. holds l p) (sym leaves.traced) ∙ white))
  | inr there ↦ there
]

pub way_on : (old new : SeatView) (m n : Marking) (x : NotesState) → Leaves old new → ListsOn old m new n → IsUnderWay old m x → IsUnderWay new n x
way_on old new m n x leaves lists way = record {
  on = leaves.on ∙ way.on;
  told = lists.on ∙ way.told;
  still = leaves.still way.still;
  listed = λ p there. elim (lists.listed p there) [ inl before ↦ leaves.marked p (way.listed p before) | inr is ↦ is ];
  grey = λ fine unrefused p marked white. elim (lists.fresh fine p marked) [
    | inl before ↦ elim (way.grey (lists.overflow fine) unrefused p before (ap (λ l. holds l p) (sym leaves.traced) ∙ white)) [
      | inl there ↦ inl (lists.kept p there)
      | inr note ↦ inr note
    ]
    | inr there ↦ inl there
  ];
  unshared = λ none. grey_on old new m n leaves lists (way.unshared (lists.puts.unshared none));
  noted = λ note there. elim (way.noted note there) [ inl itself ↦ inl itself | inr pair ↦ inr (leaves.pairs note.holder note.word pair) ];
  holders = λ note there. holder_yet old new note (λ p is. ap (λ l. holds l p) leaves.traced ∙ is) (way.holders note there);
  recorded = λ fine pair there. way.recorded fine pair (subst (λ l. Contains l pair) leaves.noted there);
}

-- ---- a field word is written

same_type : (a w : ℕ) (b : Body) → (with_word a w b).ty ≡ b.ty
same_type a w b = by_word (λ (c : Body). c.ty ≡ b.ty) a w b (λ has. refl) (λ none. refl)

pub rewritten_leaves : (v : SeatView) (a w : ℕ) → Leaves v (rewritten v a w)
rewritten_leaves v a w = record {
  on = refl;
  still = λ still. record { no_hand = still.no_hand; no_pending = still.no_pending };
  lent = refl;
  heap = refl;
  types = refl;
  pairs = λ p offset (b, there, at, pair). (
    with_word a w b,
    Contains-map (with_word a w) v.bodies b there,
    same_place a w b ∙ at,
    subst (λ ty. Contains (pair_offsets v.types (record b { ty = ty })) offset) (sym (same_type a w b)) pair,
  );
  marked = λ p h. h;
  traced = refl;
  noted = refl;
  missed = refl;
}

pub way_rewritten : (v : SeatView) (a w : ℕ) (m : Marking) (x : NotesState) → IsUnderWay v m x → IsUnderWay (rewritten v a w) m x
way_rewritten v a w m x = way_on v (rewritten v a w) m m x (rewritten_leaves v a w) (lists_same v (rewritten v a w) m refl)

-- ---- what was stored is marked

marked_leaves : (v : SeatView) (p : ℕ) (was asked : Bool) → Leaves v (cond asked (marked_at v p was) v)
marked_leaves v p was false = record {
  on = refl;
  still = λ still. still;
  lent = refl;
  heap = refl;
  types = refl;
  pairs = λ q offset h. h;
  marked = λ q h. h;
  traced = refl;
  noted = refl;
  missed = refl;
}
marked_leaves v p was true = record {
  on = refl;
  still = λ still. record {
    no_hand = ap (each_hand (hand_after_mark (kind_lists v.types) p)) still.no_hand;
    no_pending = ap (λ o. settled o p) still.no_pending;
  };
  lent = refl;
  heap = refl;
  types = refl;
  pairs = λ q offset h. h;
  marked = λ q h. go was q h;
  traced = refl;
  noted = refl;
  missed = refl;
} where
  go : (b : Bool) (q : ℕ) → holds v.marked q ≡ true → holds (cond b v.marked (v.marked ++ p ∷ [])) q ≡ true
  go true q h = h
  go false q h = push_holds v.marked p q h

-- one change after another
pub puts_then : (a b c : ListState) (asked : ℕ → Type 0) → PutsOn a b asked → PutsOn b c asked → PutsOn a c asked
puts_then a b c asked x y = record {
  whole = y.whole ∙ x.whole;
  unshared = λ none. x.unshared (y.unshared none);
  alone = λ whole. y.alone (x.whole ∙ whole) ∙ x.alone whole;
  family = λ out some. list-then a.shares b.shares c.shares (x.family out some) (y.family (x.whole ∙ out) (more out some));
  taken = λ out some. y.taken (x.whole ∙ out) (more out some) ∙ x.taken out some;
  put = λ out some p there. elim (y.put (x.whole ∙ out) (more out some) p there) [ inl before ↦ x.put out some p before | inr is ↦ inr is ];
  kept = λ out some p there. y.kept (x.whole ∙ out) (more out some) p (x.kept out some p there);
  item = λ out some p there. elim (y.item (x.whole ∙ out) (more out some) p there) [
    | inl before ↦ elim (x.item out some p before) [ inl first ↦ inl first | inr put ↦ inr (y.kept (x.whole ∙ out) (more out some) p put) ]
    | inr put ↦ inr put
  ];
  refused = λ out some same. y.refused (x.whole ∙ out) (more out some) (x.refused out some same);
} where
  more : a.whole ≡ false → 0 < length a.shares → 0 < length b.shares
  more out some = omega (arith, some, (x.family out some).as_many)

-- an address was pushed, or the push was refused
with_out : (change : ShareState → ShareState) (l : ListState) → l.whole ≡ false → with_own change l ≡ set l.shares 0 (change (at l.shares 0))
with_out change l out = ap (λ b. cond b l.shares (set l.shares 0 (change (at l.shares 0)))) out

with_none : (change : ShareState → ShareState) (l : ListState) → l.whole ≡ true → with_own change l ≡ l.shares
with_none change l whole = ap (λ b. cond b l.shares (set l.shares 0 (change (at l.shares 0)))) whole

module _ (change : ShareState → ShareState) (old new : ListState) (shares : new.shares ≡ with_own change old) (out : old.whole ≡ false) (some : 0 < length old.shares) where
  pub changed_at : at new.shares 0 ≡ change (at old.shares 0)
  changed_at = ap (λ l. at l 0) (shares ∙ with_out change old out) ∙ get_or-set_same old.shares 0 (change (at old.shares 0)) nobody some

  pub changed_many : length new.shares ≡ length old.shares
  changed_many = ap length (shares ∙ with_out change old out) ∙ length-set old.shares 0 (change (at old.shares 0))

  pub changed_family : ((s : ShareState) → IsSameShare s (change s)) → IsSameList old.shares new.shares
  changed_family same = record {
    as_many = changed_many;
    first = subst (IsSameShare (at old.shares 0)) (sym changed_at) (same (at old.shares 0));
  }

-- whatever is done to a share, a list with shares has some afterwards
still_unshared : (change : ShareState → ShareState) (l : ListState) → with_own change l ≡ [] → l.shares ≡ []
still_unshared change l none = elim (cases_Bool l.whole) [
  | inl whole ↦ sym (ap (λ b. cond b l.shares (set l.shares 0 (change (at l.shares 0)))) whole) ∙ none
  | inr out ↦ empty_of l.shares (omega (arith, length-set l.shares 0 (change (at l.shares 0)), ap length (sym (with_out change l out) ∙ none)))
] where
  empty_of : (shares : List ShareState) → length shares ≡ 0 → shares ≡ []
  empty_of [] none = refl
  empty_of (s ∷ shares) none = absurd (omega (arith, none))

pub pushed_puts : (l k : ListState) (a : ℕ) (asked : ℕ → Type 0) → IsPutOnList l a k → asked a → PutsOn l k asked
pushed_puts l k a asked is one = record {
  whole = is.whole;
  unshared = λ none. still_unshared (λ s. share_pushed s a) l (sym is.shares ∙ none);
  alone = λ whole. is.shares ∙ with_none (λ s. share_pushed s a) l whole;
  family = λ out some. changed_family (λ s. share_pushed s a) l k is.shares out some (λ s. record { number = refl; own = refl; parts = refl; even = λ even. even; others = refl });
  taken = λ out some. ap taken_by_share (changed_at (λ s. share_pushed s a) l k is.shares out some);
  put = λ out some p there. elim (Contains-push_cases (put_of (at l.shares 0)) a p (subst (λ s. Contains (put_of s) p) (changed_at (λ s. share_pushed s a) l k is.shares out some) there)) [
    | inl before ↦ inl before
    | inr this ↦ inr (subst asked this one)
  ];
  kept = λ out some p there.
      subst (λ s. Contains (put_of s) p) (sym (changed_at (λ s. share_pushed s a) l k is.shares out some)) (Contains-append_left (put_of (at l.shares 0)) (a ∷ []) p there);
  item = λ out some p there. elim (was_there l.items k.items a is.items p there) [
    | inl before ↦ inl before
    | inr this ↦ inr (subst (λ s. Contains (put_of s) p) (sym (changed_at (λ s. share_pushed s a) l k is.shares out some))
        (subst (Contains (put_of (at l.shares 0) ++ a ∷ [])) this (Contains-append_right (put_of (at l.shares 0)) (a ∷ []) a (Contains-head a []))))
  ];
  refused = λ out some same. is.refused ∙ same ∙ sym (ap (λ (s : ShareState). s.refused) (changed_at (λ s. share_pushed s a) l k is.shares out some));
}

pub refused_puts : (l k : ListState) (asked : ℕ → Type 0) → k ≡ list_refused_once l → PutsOn l k asked
refused_puts l k asked is = subst (λ n. PutsOn l n asked) (sym is) (record {
  whole = refl;
  unshared = λ none. still_unshared refused_once l none;
  alone = λ whole. with_none refused_once l whole;
  family = λ out some. changed_family refused_once l (list_refused_once l) refl out some (λ s. record { number = refl; own = refl; parts = refl; even = λ even. even; others = refl });
  taken = λ out some. ap taken_by_share (changed_at refused_once l (list_refused_once l) refl out some);
  put = λ out some p there. inl (subst (λ s. Contains (put_of s) p) (changed_at refused_once l (list_refused_once l) refl out some) there);
  kept = λ out some p there. subst (λ s. Contains (put_of s) p) (sym (changed_at refused_once l (list_refused_once l) refl out some)) there;
  item = λ out some p there. inl there;
  refused = λ out some same. ap one_counted same ∙ sym (ap (λ (s : ShareState). s.refused) (changed_at refused_once l (list_refused_once l) refl out some));
})

pushed_lists : (v w : SeatView) (m n : Marking) (p : ℕ) → w.marked ≡ v.marked ++ p ∷ [] → PushesOrTells m n p → ListsOn v m w n
pushed_lists v w m n p marked pushes = elim pushes [
  | inl done ↦
      (let items = done.0.items in
      record {
        on = ap (λ (k : Marking). k.on) done.1;
        overflow = λ h. sym (ap (λ (k : Marking). k.overflow) done.1) ∙ h;
        kept = still_there m.list.items n.list.items p items;
        listed = λ q there. elim (was_there m.list.items n.list.items p items q there) [
          | inl before ↦ inl before
          | inr this ↦ inr (subst (λ r. holds w.marked r ≡ true) this is_marked)
        ];
        fresh = λ fine q h. elim (held_push v.marked p q (ap (λ l. holds l q) (sym marked) ∙ h)) [
          | inl before ↦ inl before
          | inr this ↦ inr (subst (Contains n.list.items) this (is_there m.list.items n.list.items p items))
        ];
        puts = pushed_puts m.list n.list p (λ q. holds w.marked q ≡ true) done.0 is_marked;
      })
  | inr refused ↦
      (let told : n.overflow ≡ true = ap (λ (k : Marking). k.overflow) refused in
      let items : n.list.items ≡ m.list.items = ap (λ (k : Marking). k.list.items) refused in
      record {
        on = ap (λ (k : Marking). k.on) refused;
        overflow = λ h. absurd (true≢false (sym told ∙ h));
        kept = λ q there. subst (λ l. Contains l q) (sym items) there;
        listed = λ q there. inl (subst (λ l. Contains l q) items there);
        fresh = λ fine q h. absurd (true≢false (sym told ∙ fine));
        puts = refused_puts m.list n.list (λ q. holds w.marked q ≡ true) (ap (λ (k : Marking). k.list) refused);
      })
] where
  is_marked : holds w.marked p ≡ true
  is_marked = ap (λ l. holds l p) marked ∙ pushed_is_held v.marked p

pub barrier_lists : (t : ℕ) (v w : SeatView) (m n : Marking) → HasBarrier t v m w n → ListsOn v m w n
barrier_lists t v w m n barrier = elim (cases_Bool barrier.fresh) [
  | inl fresh ↦
      (let same : w ≡ marked_at v (place_named t) false =
      barrier.marked ∙ ap (λ f. target_marked v t (not f)) fresh ∙ ap (λ b. cond b (marked_at v (place_named t) false) v) (barrier.wanted fresh) in
      pushed_lists v w m n (place_named t) (ap (λ (u : SeatView). u.marked) same) (barrier.listed fresh))
  | inr old ↦
      (let same : w ≡ cond (asks_for_mark v t) (marked_at v (place_named t) true) v = barrier.marked ∙ ap (λ f. target_marked v t (not f)) old in
      subst (λ k. ListsOn v m w k) (sym (barrier.unlisted old)) (lists_same v w m (ap (λ (u : SeatView). u.marked) same ∙ still (asks_for_mark v t))))
] where
  still : (b : Bool) → (cond b (marked_at v (place_named t) true) v).marked ≡ v.marked
  still true = refl
  still false = refl

-- the heap is as it was
pub record HeapStays (old new : SeatView) : Type 0 where
  pub heap : new.heap ≡ old.heap
  pub types : new.types ≡ old.types
  pub bodies : new.bodies ≡ old.bodies
  pub may : new.may ≡ old.may
  pub dead : new.dead ≡ old.dead
  pub done : new.done ≡ old.done

marked_stays : (v : SeatView) (p : ℕ) (was asked : Bool) → HeapStays v (cond asked (marked_at v p was) v)
marked_stays v p was true = record { heap = refl; types = refl; bodies = refl; may = refl; dead = refl; done = refl }
marked_stays v p was false = record { heap = refl; types = refl; bodies = refl; may = refl; dead = refl; done = refl }

module _ (t : ℕ) (v w : SeatView) (m n : Marking) (barrier : HasBarrier t v m w n) where
  pub barrier_stays : HeapStays v w
  barrier_stays = subst (HeapStays v) (sym barrier.marked) (marked_stays v (place_named t) (not barrier.fresh) (asks_for_mark v t))

  pub barrier_leaves : Leaves v w
  barrier_leaves = subst (Leaves v) (sym barrier.marked) (marked_leaves v (place_named t) (not barrier.fresh) (asks_for_mark v t))

  pub barrier_told : m.on ≡ v.on → n.on ≡ w.on
  barrier_told told = (barrier_lists t v w m n barrier).on ∙ told ∙ sym barrier_leaves.on

pub way_stored : (t : ℕ) (v w : SeatView) (m n : Marking) (x : NotesState) → HasBarrier t v m w n → IsUnderWay v m x → IsUnderWay w n x
way_stored t v w m n x barrier =
    way_on v w m n x (barrier_leaves t v w m n barrier) (barrier_lists t v w m n barrier)

-- ---- an object is made

pub made_leaves : (v w : SeatView) (b : Body) → Occupies v w b → Leaves v w
made_leaves v w b is = record {
  on = is.on;
  still = λ still. record { no_hand = is.hand ∙ still.no_hand; no_pending = is.pending ∙ still.no_pending };
  lent = is.lent;
  heap = is.heap;
  types = is.types;
  pairs = λ p offset (c, there, at, pair). (
    c,
    subst (λ bs. Contains bs c) (sym is.bodies) (Contains-append_left v.bodies (b ∷ []) c there),
    at,
    subst (λ types. Contains (pair_offsets types c) offset) (sym is.types) pair,
  );
  marked = λ p h. ap (λ l. holds l p) is.marked ∙ h;
  traced = is.traced;
  noted = is.noted;
  missed = is.missed;
}

pub way_made : (v w : SeatView) (b : Body) (m : Marking) (x : NotesState) → Occupies v w b → IsUnderWay v m x → IsUnderWay w m x
way_made v w b m x is = way_on v w m m x (made_leaves v w b is) (lists_same v w m is.marked)
