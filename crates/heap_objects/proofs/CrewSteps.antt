-- Marking is under way after a step that the owner did beside its markers.
use Rattle.std.proofs.Common.{◌≡◌, ◌≢◌, ℕ, ◌+◌, ◌-◌, ◌<◌, ◌≤◌, List, true, false, ◌++◌, length, set, refl, sym, ap, ◌∙◌, subst, inl, inr, arith}
use mathlib.Core.Logic.{◌⊎◌}
use Rattle.std.specs.List.{Contains, sum_by}
use Rattle.std.proofs.lemmas.Bool.{true≢false, cases_lt, false_from_ne_true}
use Rattle.std.proofs.lemmas.List.{get_or-set_same, length-set}
use Rattle.std.proofs.lemmas.List.Elements.{All-weaker, Contains-append_cases, Contains-append_left, Contains-append_right}
use Rattle.gc_graph.specs.Members.{holds_from, in_from_holds}
use Rattle.gc_graph.specs.declared.kind.Kind.TheVariants.{Pair}
use Rattle.type_table.specs.Types.{declared_kinds, offsets_of_kind}
use Rattle.mark_worklist.specs.Lists.{ListState, as_own}
use Rattle.mark_worklist.specs.Refusals.{TellsRefused}
use Rattle.mark_worklist.specs.declared.marking.Marking.{Marking}
use Rattle.marker_core.specs.Bodies.{IsPlace, holds}
use Rattle.marker_core.specs.Views.{times}
use Rattle.marker_core.specs.Tracing.{IsPairAt}
use Rattle.page_words.specs.Roles.{kind_lists}
use Rattle.page_words.specs.Markers.{MarkerSeatView, lent_from, new_marker, joined_with}
use Rattle.page_words.specs.Seat.{Heap, SeatView, IsStill, IsView}
use Rattle.mark_worklist.specs.Families.{at, nobody}
use Rattle.mark_worklist.specs.Joining.{IsSameList}
use Rattle.mark_worklist.specs.Kept.{list-then}
use Rattle.mark_worklist.specs.Shares.{ShareState, IsSameShare, put_of, taken_by_share, last_count}
use Rattle.marker_crew.specs.Note.{Note}
use Rattle.marker_crew.specs.BodyGraph.{BodyHasPair, PlacesDiffer}
use Rattle.marker_crew.specs.BodyLeads.{offset_told}
use Rattle.marker_crew.specs.Marking.{traced_count}
use Rattle.marker_crew.specs.Notes.{NotesState, note_of, refusals_in}
use Rattle.atomic_pause.specs.UnderWay.{IsUnderWay}
use Rattle.atomic_pause.specs.UnderWayStays.{holder_yet}
use Rattle.marker_crew.specs.Crews.{Marker}
use Rattle.marker_crew.specs.declared.draining.Drained.{Drained}
use Rattle.marker_crew.specs.Drains.{nothing_yet, AreDealtWith}
use Rattle.marker_crew.specs.Stages.{drain_stage, MarkerWorks}
use Rattle.heap_objects.specs.Crews.{IsSameHeap, IsStepped}
use Rattle.heap_objects.specs.Marking.{GreyView, HasFound, pushes_in}
use Rattle.heap_objects.specs.Marks.{CrewIsLent, IsNewMarker, IsOut}
use Rattle.heap_objects.proofs.CrewStays.{has_shares}
use Rattle.heap_objects.proofs.ToldSums.{told_behind}
use Rattle.heap_objects.proofs.TracedMore.{held_cases, held_first, held_second, none_first, traced_more}

-- what a view noted is a pair of an object, and its offset is none of the header's
module _ (w : SeatView) (view : IsView w) (on : w.on ≡ true) (p offset : ℕ) (there : Contains w.noted (p, offset)) where
  pair : IsPairAt (kind_lists w.types) w.bodies p offset
  pair = (view.marking on).noted_are_pairs p offset there

  pub noted_pair : BodyHasPair w.types w.bodies p offset
  noted_pair =
      let at : offset - 2 + 2 ≡ offset = omega (arith, pair.past_serial) in
      (pair.body, pair.there, pair.place, subst (Contains (offsets_of_kind Pair (declared_kinds w.types pair.body.ty))) at (offset_told w.types pair.body (offset - 2) Pair refl pair.key))

  pub noted_behind : offset ≡ 0 → ⊥
  noted_behind none = omega (arith, pair.past_serial, none)

-- the owner stepped with a seat that it lent and took back
module _ (v : SeatView) (g : GreyView) (m : MarkerSeatView) (k : ShareState) (o : NotesState) (d : Drained) (n : Marking) (w : SeatView)
    (way : IsUnderWay v g.marking g.notes) (crew : CrewIsLent v g) (some : 0 < length g.running) (differ : PlacesDiffer v.bodies)
    (pushes_told : TellsRefused (record { told = false; count = g.since.pushes }) (pushes_in g))
    (seat : w ≡ joined_with (lent_from v) m) (view : IsView w)
    (works : MarkerWorks (drain_stage (new_marker v) (at g.marking.list.shares 0) g.notes nothing_yet) (drain_stage m k o d))
    (taken : AreDealtWith (at g.marking.list.shares 0) (drain_stage m k o d))
    (list : n.list ≡ as_own (set g.marking.list.shares 0 k)) (on : n.on ≡ g.marking.on)
    (overflow : (n.overflow ≡ false → g.marking.overflow ≡ false) × (g.marking.overflow ≡ true → n.overflow ≡ true))
    (raised : k.refused ≢ g.marking.list.refused → n.overflow ≡ true)
    (only : n.overflow ≡ true → (g.marking.overflow ≡ true) ⊎ (k.refused ≢ g.marking.list.refused))
    (had : HasFound v g) (found : List ℕ) (found_is : found ≡ w.done) where
  out : IsOut v g
  out = crew.out some

  one : length g.marking.list.shares ≡ 1
  one = has_shares v g out

  abbrev h : ShareState
  h = at g.marking.list.shares 0

  own_now : at n.list.shares 0 ≡ k
  own_now = ap (λ (l : ListState). at l.shares 0) list ∙ get_or-set_same g.marking.list.shares 0 k nobody (omega (arith, one))

  items_now : n.list.items ≡ put_of k
  items_now = ap (λ (l : ListState). l.items) list ∙ ap put_of (get_or-set_same g.marking.list.shares 0 k nobody (omega (arith, one)))

  refused_now : n.list.refused ≡ k.refused
  refused_now = ap (λ (l : ListState). l.refused) list ∙ ap (λ (s : ShareState). s.refused) (get_or-set_same g.marking.list.shares 0 k nobody (omega (arith, one)))

  -- ---- the view

  marked_is : w.marked ≡ v.marked ++ m.marked
  marked_is = ap (λ (x : SeatView). x.marked) seat

  traced_is : w.traced ≡ v.traced ++ m.traced
  traced_is = ap (λ (x : SeatView). x.traced) seat

  noted_is : w.noted ≡ v.noted ++ m.noted
  noted_is = ap (λ (x : SeatView). x.noted) seat

  is_on : w.on ≡ true
  is_on = ap (λ (x : SeatView). x.on) seat ∙ way.on

  marked_before : (p : ℕ) → holds v.marked p ≡ true → holds w.marked p ≡ true
  marked_before p is = ap (λ l. holds l p) marked_is ∙ held_first v.marked m.marked p is

  marked_now : (p : ℕ) → Contains m.marked p → holds w.marked p ≡ true
  marked_now p there = ap (λ l. holds l p) marked_is ∙ held_second v.marked m.marked p (holds_from m.marked p there)

  traced_before : (p : ℕ) → holds v.traced p ≡ true → holds w.traced p ≡ true
  traced_before p is = ap (λ l. holds l p) traced_is ∙ held_first v.traced m.traced p is

  traced_now : (p : ℕ) → Contains m.traced p → holds w.traced p ≡ true
  traced_now p there = ap (λ l. holds l p) traced_is ∙ held_second v.traced m.traced p (holds_from m.traced p there)

  noted_now : (pair : ℕ × ℕ) → Contains m.noted pair → Contains w.noted pair
  noted_now pair there = subst (λ l. Contains l pair) (sym noted_is) (Contains-append_right v.noted m.noted pair there)

  -- what the view found traced
  found_before : (p : ℕ) → Contains g.found p → Contains found p
  found_before p there = subst (λ l. Contains l p) (sym (found_is ∙ ap (λ (x : SeatView). x.done) seat)) (Contains-append_left v.done m.done p (had some p there))

  found_now : (p : ℕ) → Contains m.done p → Contains found p
  found_now p there = subst (λ l. Contains l p) (sym (found_is ∙ ap (λ (x : SeatView). x.done) seat)) (Contains-append_right v.done m.done p there)

  -- what the view missed
  missed_before : (p : ℕ) → Contains v.missed p → Contains w.missed p
  missed_before p there = subst (λ l. Contains l p) (sym (ap (λ (x : SeatView). x.missed) seat)) (Contains-append_left v.missed m.missed p there)

  missed_now : (p : ℕ) → Contains m.missed p → Contains w.missed p
  missed_now p there = subst (λ l. Contains l p) (sym (ap (λ (x : SeatView). x.missed) seat)) (Contains-append_right v.missed m.missed p there)

  count_is : w.count ≡ v.count
  count_is = ap (λ (x : SeatView). x.count) seat

  put_is_marked : (p : ℕ) → Contains (put_of k) p → holds w.marked p ≡ true
  put_is_marked p there = elim (works.put p there) [ inl before ↦ marked_before p (out.marked p before) | inr now ↦ marked_now p now ]

  -- ---- what was refused

  notes_before : o.overflow ≡ false → g.notes.overflow ≡ false
  notes_before none = false_from_ne_true g.notes.overflow (λ is. true≢false (sym (works.notes_told.kept is) ∙ none))

  same_count : n.overflow ≡ false → k.refused ≡ g.marking.list.refused → last_count ≤ k.refused → ⊥
  same_count fine same last =
      let risen : g.since.pushes < (pushes_in g).count = omega (arith, out.since, same, last) in
      true≢false (sym (pushes_told.counted risen) ∙ overflow.0 fine)

  fine_drained : n.overflow ≡ false → o.overflow ≡ false → d.overflow ≡ false
  fine_drained fine none = false_from_ne_true d.overflow (λ is. elim (works.cause is) [
    | inl never ↦ true≢false (sym never)
    | inr cause ↦ elim cause [
      | inr noted ↦ true≢false (sym noted ∙ none)
      | inl risen ↦ true≢false (sym (raised (λ same. elim risen [
        | inl more ↦ omega (arith, more, same, out.refused)
        | inr last ↦ same_count fine same last
      ])) ∙ fine)
    ]
  ])

  -- ---- marking is under way

  grey : n.overflow ≡ false → o.overflow ≡ false → (p : ℕ) → holds w.marked p ≡ true → holds w.traced p ≡ false → Contains n.list.items p ⊎ Contains o.notes (note_of p 0)
  grey fine none p marked white =
      let untraced : holds (v.traced ++ m.traced) p ≡ false = ap (λ l. holds l p) (sym traced_is) ∙ white in
      elim (held_cases v.marked m.marked p (ap (λ l. holds l p) (sym marked_is) ∙ marked)) [
        | inl before ↦ elim (way.grey (overflow.0 fine) (notes_before none) p before (none_first v.traced m.traced p untraced)) [
          | inl listed ↦ inl (subst (λ l. Contains l p) (sym items_now) (works.later.put p (out.put p listed)))
          | inr noted ↦ inr (works.later.notes (note_of p 0) noted)
        ]
        | inr now ↦ elim (works.listed (fine_drained fine none) p (in_from_holds m.marked p now)) [
          | inl never ↦ absurd (omega (arith, never.1))
          | inr put ↦ inl (subst (λ l. Contains l p) (sym items_now) put)
        ]
      ]

  noted : (note : Note) → Contains o.notes note → (note.word ≡ 0) ⊎ BodyHasPair w.types w.bodies note.holder note.word
  noted note there = elim (works.notes note there) [
    | inl before ↦ elim (way.noted note before) [
      | inl itself ↦ inl itself
      | inr pair ↦ inr (subst (λ (x : SeatView). BodyHasPair x.types x.bodies note.holder note.word) (sym seat) pair)
    ]
    | inr new ↦ elim new [
      | inl pair ↦ inr (noted_pair w view is_on note.holder note.word (noted_now (note.holder, note.word) pair.0))
      | inr itself ↦ inl itself.0
    ]
  ]

  holders : (note : Note) → Contains o.notes note → (note.word ≡ 0) ⊎ (holds w.traced note.holder ≡ true)
  holders note there = elim (works.notes note there) [
    | inl before ↦ holder_yet v w note traced_before (way.holders note before)
    | inr new ↦ elim new [ inl pair ↦ inr (traced_now note.holder pair.1) | inr itself ↦ inl itself.0 ]
  ]

  recorded : o.overflow ≡ false → (pair : ℕ × ℕ) → Contains w.noted pair → Contains o.notes (note_of pair.0 pair.1)
  recorded none pair there = elim (Contains-append_cases v.noted m.noted pair (subst (λ l. Contains l pair) noted_is there)) [
    | inl before ↦ works.later.notes (note_of pair.0 pair.1) (way.recorded (notes_before none) pair before)
    | inr now ↦ elim (works.noted none pair.0 pair.1 now) [ inl never ↦ absurd (omega (arith, never.1)) | inr note ↦ note ]
  ]

  goes_on : IsUnderWay w n o
  goes_on = record {
    on = is_on;
    told = on ∙ way.told;
    still = subst (λ (x : SeatView). IsStill x) (sym seat) (record { no_hand = way.still.no_hand; no_pending = way.still.no_pending });
    listed = λ p there. put_is_marked p (subst (λ l. Contains l p) items_now there);
    grey = grey;
    unshared = λ none. absurd (omega (arith, one, length-set g.marking.list.shares 0 k, ap length (sym (ap (λ (l : ListState). l.shares) list) ∙ none)));
    noted = noted;
    holders = holders;
    recorded = recorded;
  }

  -- ---- the crew is out

  family : IsSameList g.marking.list.shares n.list.shares
  family = record {
    as_many = ap (λ (l : ListState). length l.shares) list ∙ length-set g.marking.list.shares 0 k;
    first = subst (λ s. IsSameShare h s) (sym own_now) works.later.lists;
  }

  lone : (note : Note) → Contains o.notes note → note.word ≡ 0 → Contains (taken_by_share k) note.holder × (Contains w.missed note.holder ⊎ (w.count ≤ note.holder))
  lone note there itself = elim (works.notes note there) [
    | inl before ↦
        (let was = out.lone note before itself in (
          works.later.taken note.holder was.0,
          elim was.1 [ inl missed ↦ inl (missed_before note.holder missed) | inr far ↦ inr (omega (arith, far, count_is)) ],
        ))
    | inr new ↦ elim new [
      | inl pair ↦ absurd (noted_behind w view is_on note.holder note.word (noted_now (note.holder, note.word) pair.0) itself)
      | inr is ↦ (
        is.1.0,
        elim is.1.1 [
          | inl missed ↦ inl (missed_now note.holder missed)
          | inr far ↦ inr (omega (arith, far, ap (λ (h : Heap). h.count) works.later.heap, count_is))
        ],
      )
    ]
  ]

  dealt : o.overflow ≡ false → (p : ℕ) → Contains (taken_by_share k) p → (holds w.traced p ≡ true) ⊎ (Contains found p ⊎ Contains o.notes (note_of p 0))
  dealt none p there = elim (taken p there) [
    | inl before ↦ elim (out.taken (notes_before none) p before) [
      | inl traced ↦ inl (traced_before p traced)
      | inr other ↦ inr (elim other [ inl was ↦ inl (found_before p was) | inr note ↦ inr (works.later.notes (note_of p 0) note) ])
    ]
    | inr new ↦ elim (new none) [
      | inl traced ↦ inl (traced_now p traced)
      | inr other ↦ inr (elim other [ inl is ↦ inl (found_now p is) | inr note ↦ inr note ])
    ]
  ]

  abbrev later : GreyView
  later = record g { marking = n; notes = o; found = found }

  still_out : IsOut w later
  still_out = record {
    many = out.many;
    shared = ap (λ (l : ListState). l.whole) list;
    first = out.first;
    fresh = out.fresh;
    family = list-then out.first g.marking.list.shares n.list.shares out.family family;
    began = All-weaker (IsNewMarker v) (IsNewMarker w) (λ began new. record { seat = subst (λ (x : SeatView). began.seat ≡ new_marker x) (sym seat) new.seat; notes = new.notes }) g.running out.began;
    others = out.others;
    refused = refused_now ∙ sym (ap (λ (s : ShareState). s.refused) own_now);
    since = out.since;
    put = λ p there. subst (λ s. Contains (put_of s) p) (sym own_now) (subst (λ l. Contains l p) items_now there);
    marked = λ p there. put_is_marked p (subst (λ s. Contains (put_of s) p) own_now there);
    taken = λ none p there. dealt none p (subst (λ s. Contains (taken_by_share s) p) own_now there);
    lone = λ note there itself. (let is = lone note there itself in (subst (λ s. Contains (taken_by_share s) note.holder) (sym own_now) is.0, is.1));
  }

  lent : w.lent ≡ length g.running
  lent = ap (λ (x : SeatView). x.lent) seat ∙ (let back : v.lent + 1 - 1 ≡ v.lent = omega arith in back ∙ crew.lent)

  counted : traced_count w ≡ traced_count v + d.traced
  counted =
      let same : w.bodies ≡ v.bodies = ap (λ (x : SeatView). x.bodies) seat in
      let more = traced_more v.traced m.traced v.bodies differ (λ a. subst (λ l. times a l ≤ 1) traced_is (view.traced_once a))
      (λ a there. subst (λ bs. IsPlace bs a) same (view.traced_are_bodies a (traced_now a there))) in
      ap (λ (x : SeatView). traced_count x) seat ∙ more ∙ ap (λ c. traced_count v + c) (let is : length m.traced ≡ d.traced = omega (arith, works.counted) in is)

  pushes : TellsRefused (pushes_in g) (pushes_in later)
  pushes = record {
    kept = overflow.1;
    no_fewer = omega (arith, refused_now, out.refused, works.refused_pushes);
    counted = λ more. raised (λ same. omega (arith, more, same, refused_now));
    only = λ is. elim (only is) [
      | inl before ↦ inl before
      | inr other ↦ inr (inl (let more : g.marking.list.refused < k.refused = below other in omega (arith, more, refused_now)))
    ];
  } where
    below : k.refused ≢ g.marking.list.refused → g.marking.list.refused < k.refused
    below other = elim (cases_lt g.marking.list.refused k.refused) [ inl less ↦ less | inr no_less ↦ absurd (other (omega (arith, no_less, out.refused, works.refused_pushes))) ]

  pub has_stepped_beside : IsStepped v g w later d.traced
  has_stepped_beside = record {
    same = subst (λ (x : SeatView). IsSameHeap v x) (sym seat) (record { heap = refl; types = refl; on = refl; bodies = refl; filled = refl; dead = refl; may = refl });
    way = goes_on;
    crew = record { lent = lent; home = λ none. absurd (omega (arith, some, ap length none)); out = λ is. still_out };
    counted = counted;
    pushes = pushes;
    notes = told_behind (sum_by (λ (x : NotesState). x.refused) g.others + sum_by (λ (b : Marker). b.notes.refused) g.running) (refusals_in g.notes) (refusals_in o) works.notes_told;
    found = λ is p there. subst (λ l. Contains l p) found_is there;
    took = λ is p there. subst (λ s. Contains (taken_by_share s) p) (sym own_now) (works.later.taken p there);
    rest = refl;
  }
