-- A grey object was claimed, and its words were traced.
use Rattle.std.proofs.Common.{◌≡◌, ℕ, ◌+◌, ◌<◌, ◌≤◌, true, false, not, List, [], ◌∷◌, ◌++◌, length, Some, None, refl, sym, ap, ◌∙◌, subst, inl, inr, arith}
use Rattle.std.specs.Prelude.{slice_set}
use Rattle.std.specs.List.{Contains, count_by, range_with_len}
use Rattle.std.proofs.lemmas.Bool.{true≢false, cases_Bool, not-true, not-false, and_parts, and_cases}
use Rattle.gc_graph.specs.State.{ObjectType}
use Rattle.mark_worklist.specs.declared.marking.Marking.{Marking}
use Rattle.marker_core.specs.declared.states.Body.{Body}
use Rattle.marker_core.specs.Bodies.{IsPlace, holds}
use Rattle.page_words.specs.Seat.{Heap, SeatView, IsView, is_grey_at}
use Rattle.pair_notes.specs.BodyGraph.{AreReferences}
use Rattle.pair_notes.specs.Marking.{heap_and_marks, GrowsWithin, HasStrongMarked, traced_count}
use Rattle.pair_notes.specs.Notes.{NotesState, NotesGrow, HasPairsNoted, group_at, refusals_in, IsNotedIn, IsNote, note_of}
use Rattle.pair_notes.specs.InHand.{with_trace, OnlyLooks}
use Rattle.ephemerons.specs.Fixpoint.{Mode, Stage, stage, weight, IsGround, IsAccounted, IsUnrefused, Works, Looks, ListsMarks, unmarked_count, untraced_places}
use Rattle.ephemerons.proofs.Lists.{holds_push_old, holds_push_cases}
use Rattle.gc_graph.specs.Members.{pushed_is_held, to_range}
use Rattle.ephemerons.proofs.Weights.{one_fewer, one_more}
use Rattle.page_words.specs.BodyPlaces.{place_below}
use Rattle.ephemerons.proofs.GroupSteps.{GroupsGrow, first_grows}
use Rattle.mark_worklist.specs.Told.{told_same}
use Rattle.ephemerons.proofs.Looks.{looked_ground, looked_works}
use Rattle.ephemerons.proofs.Stages.{MarksOn-same}

untraced : (v : SeatView) (a : ℕ) → is_grey_at v a ≡ true → holds v.traced a ≡ false
untraced v a grey = not-true (holds v.traced a) ((and_parts (holds v.marked a) (not (holds v.traced a)) grey).1)

pub was_traced : (v : SeatView) (a : ℕ) → is_grey_at v a ≡ false → holds v.marked a ≡ true → holds v.traced a ≡ true
was_traced v a black marked =
    elim (and_cases (holds v.marked a) (not (holds v.traced a)) black) [
      | inl unmarked ↦ absurd (true≢false (sym marked ∙ unmarked))
      | inr known ↦ not-false (holds v.traced a) known
    ]

pub fewer_untraced : (v : SeatView) (a : ℕ) → IsView v → IsPlace v.bodies a → is_grey_at v a ≡ true → untraced_places (with_trace v a) + 1 ≤ untraced_places v
fewer_untraced v a view place grey =
    one_fewer (range_with_len 0 v.count) v.traced a (to_range 0 v.count a (omega arith) (omega (arith, place_below v a view place))) (untraced v a grey)

-- the object at a is grey in v and was claimed, which gave u; and w is the view after its words were traced, and g are the notes
-- then
pub record ReadsFields (types : List ObjectType) (v u w : SeatView) (m n : Marking) (old g : NotesState) (a : ℕ) : Type 0 where
  pub view : IsView v
  pub place : IsPlace v.bodies a
  pub grey : is_grey_at v a ≡ true
  pub claimed : heap_and_marks u ≡ heap_and_marks (with_trace v a)
  pub marks : ListsMarks u m w n
  pub within : GrowsWithin types u w
  pub strong : HasStrongMarked types w a
  pub notes : NotesGrow types v.bodies old g
  pub pairs : g.overflow ≡ false → HasPairsNoted types w a (Contains g.notes)
  pub no_hand : w.hand ≡ None
  pub no_pending : w.pending ≡ None

module _ (types : List ObjectType) (v u w : SeatView) (m n : Marking) (groups : List NotesState) (g : NotesState) (t a : ℕ) where
  abbrev before : Stage
  before = stage v m groups t

  abbrev after : Stage
  after = stage w n (slice_set groups 0 g) (t + 1)

  abbrev Reads : Type 0
  Reads = ReadsFields types v u w m n (group_at groups 0) g a

  marked_is : Reads → u.marked ≡ v.marked
  marked_is r = ap (λ (z : SeatView). z.marked) r.claimed

  bodies_are : Reads → w.bodies ≡ v.bodies
  bodies_are r = ap (λ (z : SeatView). z.bodies) r.marks.view ∙ ap (λ (z : SeatView). z.bodies) r.claimed

  heap_is : Reads → w.heap ≡ v.heap
  heap_is r = ap (λ (z : SeatView). z.heap) r.marks.view ∙ ap (λ (z : SeatView). z.heap) r.claimed

  count_is : Reads → w.count ≡ v.count
  count_is r = ap (λ (h : Heap). h.count) (heap_is r)

  types_are : Reads → w.types ≡ v.types
  types_are r = ap (λ (z : SeatView). z.types) r.marks.view ∙ ap (λ (z : SeatView). z.types) r.claimed

  on_is : Reads → w.on ≡ v.on
  on_is r = ap (λ (z : SeatView). z.on) r.marks.view ∙ ap (λ (z : SeatView). z.on) r.claimed

  lent_is : Reads → w.lent ≡ v.lent
  lent_is r = ap (λ (z : SeatView). z.lent) r.marks.view ∙ ap (λ (z : SeatView). z.lent) r.claimed

  traced_is : Reads → w.traced ≡ v.traced ++ a ∷ []
  traced_is r = r.marks.traced ∙ ap (λ (z : SeatView). z.traced) r.claimed

  same_unmarked : Reads → unmarked_count u ≡ unmarked_count v
  same_unmarked r = ap unmarked_count r.claimed

  same_untraced : Reads → untraced_places w ≡ untraced_places (with_trace v a)
  same_untraced r =
      ap (λ k. count_by (λ p. not (holds w.traced p)) (range_with_len 0 k)) (count_is r)
      ∙ ap (λ ts. count_by (λ p. not (holds ts p)) (range_with_len 0 v.count)) (traced_is r)

  same_traced_count : Reads → traced_count w ≡ traced_count (with_trace v a)
  same_traced_count r =
      ap (λ bs. count_by (λ (b : Body). holds w.traced b.place) bs) (bodies_are r)
      ∙ ap (λ ts. count_by (λ (b : Body). holds ts b.place) v.bodies) (traced_is r)

  still_marked : Reads → (p : ℕ) → holds v.marked p ≡ true → holds w.marked p ≡ true
  still_marked r p h = r.marks.marked p (subst (λ l. holds l p ≡ true) (sym (marked_is r)) h)

  groups_grow : Reads → IsGround types before → GroupsGrow types v.bodies groups (slice_set groups 0 g) g
  groups_grow r ground = first_grows types v.bodies groups g ground.own r.notes

  pub grey_lighter : Reads → weight after < weight before
  grey_lighter r = omega (arith, r.marks.lighter, same_unmarked r, same_untraced r, fewer_untraced v a r.view r.place r.grey)

  grey_fewer : Reads → t + 1 + untraced_places w ≤ t + untraced_places v
  grey_fewer r = omega (arith, same_untraced r, fewer_untraced v a r.view r.place r.grey)

  pub grey_ground : Reads → IsGround types before → IsGround types after
  grey_ground r ground =
      let grow = groups_grow r ground in
      let bodies = bodies_are r in
      record {
        on = on_is r ∙ ground.on;
        told = ap (λ (o : Mode). o.on) r.marks.mode ∙ ground.told;
        whole = ap (λ (o : Mode). o.whole) r.marks.mode ∙ ground.whole;
        known = types_are r ∙ ground.known;
        alone = record { no_hand = r.no_hand; no_pending = r.no_pending; none_lent = lent_is r ∙ ground.alone.none_lent };
        references = subst (AreReferences types) (sym bodies) ground.references;
        traced_name_marked = λ p is. elim (holds_push_cases v.traced a p (subst (λ l. holds l p ≡ true) (traced_is r) is)) [
          | inl old ↦ (λ b offset q there at strong names.
              still_marked r q (ground.traced_name_marked p old b offset q (subst (λ bs. Contains bs b) bodies there) at strong names))
          | inr here ↦ subst (HasStrongMarked types w) here r.strong
        ];
        listed = λ p listed. subst (λ bs. IsPlace bs p) (sym bodies) (elim (r.marks.listed p listed) [
          | inl old ↦ ground.listed p old
          | inr fresh ↦ subst (λ bs. IsPlace bs p) (ap (λ (z : SeatView). z.bodies) r.claimed) fresh.place
        ]);
        noted = λ note h. subst (λ bs. IsNote types bs note) (sym bodies) (elim (grow.pairs note h) [ inl old ↦ ground.noted note old | inr pair ↦ inr pair ]);
        own = omega (arith, grow.many, ground.own);
        few = omega (arith, grey_fewer r, ground.few);
      }

  grey_accounted : Reads → IsGround types before → IsUnrefused n.overflow (slice_set groups 0 g)
      → IsAccounted types (Some a) v m.list.items groups → IsAccounted types None w n.list.items (slice_set groups 0 g)
  grey_accounted r ground fine h =
      let grow = groups_grow r ground in
      let own : 0 < length (slice_set groups 0 g) = omega (arith, grow.many, ground.own) in
      let quiet : g.overflow ≡ false = subst (λ (s : NotesState). s.overflow ≡ false) grow.own (fine.notes 0 own) in
      record {
        grey = λ p marked new. elim (r.marks.fresh fine.pushes p marked) [
          | inl old ↦ elim (h.grey p (subst (λ l. holds l p ≡ true) (marked_is r) old) (still_untraced r p new)) [
            | inl taken ↦ absurd (was_taken r p new taken)
            | inr known ↦ inr (elim known [ inl listed ↦ inl (r.marks.kept p listed) | inr noted ↦ inr (grow.kept (note_of p 0) noted) ])
          ]
          | inr listed ↦ inr (inl listed)
        ];
        pairs = λ p is offset b k q there at pair key value. elim (holds_push_cases v.traced a p (subst (λ l. holds l p ≡ true) (traced_is r) is)) [
          | inl old ↦ elim (h.pairs p old offset b k q (subst (λ bs. Contains bs b) (bodies_are r) there) at pair key value) [
            | inl marked ↦ inl (still_marked r q marked)
            | inr noted ↦ inr (grow.kept (note_of p offset) noted)
          ]
          | inr here ↦ elim (r.pairs quiet offset b k q there (at ∙ sym here) pair key value) [
            | inl marked ↦ inl marked
            | inr noted ↦ inr (subst (λ x. IsNotedIn (slice_set groups 0 g) (note_of x offset)) here
                (0, own, subst (λ (s : NotesState). Contains s.notes (note_of a offset)) (sym grow.own) noted))
          ]
        ];
      } where
        still_untraced : Reads → (p : ℕ) → holds w.traced p ≡ false → holds v.traced p ≡ false
        still_untraced r p new = elim (cases_Bool (holds v.traced p)) [
          | inl old ↦ absurd (true≢false (sym (subst (λ l. holds l p ≡ true) (sym (traced_is r)) (holds_push_old v.traced a p old)) ∙ new))
          | inr fine ↦ fine
        ]

        was_taken : Reads → (p : ℕ) → holds w.traced p ≡ false → Some a ≡ Some p → ⊥
        was_taken r p new taken =
            let same : a ≡ p = cc in
            true≢false (sym (subst (λ l. holds l p ≡ true) (sym (traced_is r)) (subst (λ q. holds (v.traced ++ a ∷ []) q ≡ true) same (pushed_is_held v.traced a))) ∙ new)

  pub grey_works : Reads → IsGround types before → Works types (Some a) before after
  grey_works r ground =
      let grow = groups_grow r ground in
      record {
        kept = record {
          heap = heap_is r;
          types = types_are r;
          on = on_is r;
          bodies = bodies_are r;
          filled = ap (λ (z : SeatView). z.filled) r.marks.view ∙ ap (λ (z : SeatView). z.filled) r.claimed;
          dead = ap (λ (z : SeatView). z.dead) r.marks.view ∙ ap (λ (z : SeatView). z.dead) r.claimed;
          may = ap (λ (z : SeatView). z.may) r.marks.view ∙ ap (λ (z : SeatView). z.may) r.claimed;
          lent = lent_is r;
          marked = still_marked r;
          traced = λ p old. subst (λ l. holds l p ≡ true) (sym (traced_is r)) (holds_push_old v.traced a p old);
        };
        within = subst (λ (z : SeatView). GrowsWithin types z w) r.claimed r.within;
        mode = r.marks.mode;
        unrefused = λ fine. record { pushes = r.marks.overflow fine.pushes; notes = grow.overflow fine.notes };
        told = r.marks.told;
        notes_told = grow.told;
        many = grow.many;
        noted = grow.kept;
        accounted = grey_accounted r ground;
        lighter = (let less = grey_lighter r in omega arith);
        fewer = grey_fewer r;
        counted = λ differ. omega (arith, same_traced_count r, one_more v.bodies v.traced a differ r.place (untraced v a r.grey));
      }

  pub grey_looks : Reads → IsGround types before → Looks types (Some a) before after true
  grey_looks r ground = record {
    works = grey_works r ground;
    lighter = λ told. grey_lighter r;
    still = λ none. absurd (true≢false none);
  }

-- an object that was taken from the list and isn't grey is accounted for
pub Works-black : (types : List ObjectType) (s : Stage) (a : ℕ) → is_grey_at s.view a ≡ false → Works types (Some a) s s
Works-black types s a black = record {
  kept = MarksOn-same s.view;
  within = λ test closed held p marked. held p marked;
  mode = refl;
  unrefused = λ h. h;
  told = told_same s.refusals;
  notes_told = λ i. told_same (refusals_in (group_at s.groups i));
  many = refl;
  noted = λ note h. h;
  accounted = λ fine h. record {
    grey = λ p marked new. elim (h.grey p marked new) [ inl taken ↦ absurd (not_grey p marked new taken) | inr known ↦ inr known ];
    pairs = h.pairs;
  };
  lighter = omega arith;
  fewer = omega arith;
  counted = λ differ. refl;
} where
  not_grey : (p : ℕ) → holds s.view.marked p ≡ true → holds s.view.traced p ≡ false → Some a ≡ Some p → ⊥
  not_grey p marked new taken =
      let same : a ≡ p = cc in
      true≢false (sym (was_traced s.view p (subst (λ q. is_grey_at s.view q ≡ false) same black) marked) ∙ new)

module _ (types : List ObjectType) (v w : SeatView) (m : Marking) (groups : List NotesState) (t a : ℕ) (looks : OnlyLooks v w) (black : is_grey_at v a ≡ false) where
  pub black_ground : IsGround types (stage v m groups t) → IsGround types (stage w m groups t)
  black_ground = looked_ground types (stage v m groups t) (stage w m groups t) (ap (λ (x : SeatView). stage x m groups t) looks.marks) looks.alone

  pub black_looks : Looks types (Some a) (stage v m groups t) (stage w m groups t) false
  black_looks = record {
    works = looked_works types (Some a) (stage v m groups t) (stage w m groups t) (ap (λ (x : SeatView). stage x m groups t) looks.marks)
        (Works-black types (stage v m groups t) a black);
    lighter = λ found. absurd (true≢false (sym found));
    still = λ none. ap (λ (x : SeatView). stage x m groups t) looks.marks;
  }
