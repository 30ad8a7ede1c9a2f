-- What the markers leave to the owner once they are joined: what is grey is left on the list or noted, and so is each open pair.
use Rattle.std.proofs.Common.{◌≡◌, ◌≢◌, ℕ, zero, suc, ◌+◌, ◌-◌, ◌<◌, ◌≤◌, true, false, List, [], ◌∷◌, ◌++◌, length, map, get_or, min, None, refl, sym, ap, ap₂, ◌∙◌, subst, inl, inr, ◌||◌, arith}
use mathlib.Core.Logic.{◌⊎◌}
use Rattle.std.specs.List.{Contains, flat_map, list_any, sum_by}
use Rattle.std.proofs.lemmas.Bool.{true≢false, cases_lt, false_from_ne_true}
use Rattle.std.proofs.lemmas.List.{length-append, length-map, get_or-map, get_or-append_right, get_or_append_left}
use Rattle.std.proofs.lemmas.List.Concat.{length-flat_map}
use Rattle.std.proofs.lemmas.List.Elements.{Contains-append_cases, Contains-append_right}
use Rattle.std.proofs.lemmas.List.Sums.{sum_by-cons, sum_by-append}
use Rattle.gc_graph.specs.Members.{holds_from, in_from_holds}
use Rattle.gc_graph.specs.State.{ObjectType}
use Rattle.gc_graph.specs.declared.kind.Kind.TheVariants.{Pair}
use Rattle.type_table.specs.Types.{declared_kinds}
use Rattle.mark_worklist.specs.Refusals.{TellsRefused}
use Rattle.mark_worklist.specs.Told.{told_same, told_then}
use Rattle.mark_worklist.specs.declared.marking.Marking.{Marking}
use Rattle.marker_core.specs.Bodies.{IsPlace, holds, word_in}
use Rattle.marker_core.specs.Views.{times}
use Rattle.page_words.specs.Markers.{MarkerSeatView, new_marker}
use Rattle.page_words.specs.Seat.{SeatView, IsView}
use Rattle.mark_worklist.specs.Families.{at, nobody, IsFresh}
use Rattle.mark_worklist.specs.Joining.{IsTakenOrLeft, put_by, taken_by, refused_by}
use Rattle.mark_worklist.specs.Shares.{ShareState, put_of, taken_by_share, times_listed, last_count}
use Rattle.marker_crew.specs.Note.{Note}
use Rattle.marker_crew.specs.BodyGraph.{BodyHasPair, PlacesDiffer}
use Rattle.marker_crew.specs.BodyLeads.{role_of_offset}
use Rattle.marker_crew.specs.Fields.{field_at_offset}
use Rattle.atomic_pause.specs.Fixpoint.{IsUnrefused}
use Rattle.marker_crew.specs.Marking.{traced_count}
use Rattle.marker_crew.specs.Notes.{NotesState, no_notes, note_of, group_at, IsNote, IsNotedIn, HasPairsNoted, refusals_in}
use Rattle.atomic_pause.specs.UnderWay.{IsReadyToEnd, IsUnderWay}
use Rattle.marker_crew.specs.Crews.{Marker, Ending, HasDrained, joined_with_all}
use Rattle.marker_crew.specs.Drains.{nothing_yet}
use Rattle.heap_objects.specs.declared.marking.Grey.{Grey}
use Rattle.heap_objects.specs.Crews.{IsJoined, IsSameHeap, refusals_of_all}
use Rattle.heap_objects.specs.Marking.{GreyView, HasFound, pushes_in, notes_in}
use Rattle.heap_objects.specs.Marks.{CrewIsLent, IsNewMarker, IsOut}
use Rattle.heap_objects.proofs.CrewStays.{has_shares}
use Rattle.heap_objects.proofs.CrewSteps.{noted_pair}
use Rattle.heap_objects.proofs.Flattened.{in_one, in_all, times_some, some_times}
use Rattle.heap_objects.proofs.ToldSums.{told_groups}
use Rattle.heap_objects.proofs.TracedMore.{held_cases, held_first, held_second, traced_more}
use Rattle.heap_objects.proofs.JoinedSeats.{with_seats, joined_is, or_false, sum_mapped, sum_alike, one_of_sum, single, nothing_taken}

-- ---- the markers

-- each marker's beginning and end
module _ (v : SeatView) (g : GreyView) (ends : List Ending) (w : SeatView) (n : Marking)
    (way : IsUnderWay v g.marking g.notes) (crew : CrewIsLent v g) (some : 0 < length g.running) (differ : PlacesDiffer v.bodies)
    (pushes_told : TellsRefused (record { told = false; count = g.since.pushes }) (pushes_in g))
    (notes_told : TellsRefused (record { told = false; count = g.since.notes }) (notes_in g))
    (many : length ends ≡ length g.running)
    (each : (k : ℕ) (b : Marker) (e : Ending) → k < length ends → HasDrained (get_or g.running k b) (get_or ends k e))
    (seat : w ≡ joined_with_all v (map (λ e. e.seat) ends)) (lent : w.lent ≡ 0) (view : IsView w)
    (on : n.on ≡ g.marking.on) (whole : n.list.whole ≡ true)
    (taken : IsTakenOrLeft (g.marking.list.shares ++ map (λ e. e.share) ends) n.list.items)
    (refused : n.list.refused ≡ min (refused_by (g.marking.list.shares ++ map (λ e. e.share) ends)) last_count)
    (kept : g.marking.overflow ≡ true → n.overflow ≡ true)
    (raised : n.list.refused ≢ g.marking.list.refused → n.overflow ≡ true)
    (only : n.overflow ≡ true → (g.marking.overflow ≡ true) ⊎ (n.list.refused ≢ g.marking.list.refused)) (found : HasFound v g) where
  out : IsOut v g
  out = crew.out some

  one : length g.marking.list.shares ≡ 1
  one = has_shares v g out

  abbrev seats : List MarkerSeatView
  seats = map (λ e. e.seat) ends

  abbrev shares : List ShareState
  shares = map (λ e. e.share) ends

  abbrev groups : List NotesState
  groups = g.notes ∷ map (λ e. e.notes) ends

  is : w ≡ with_seats v seats
  is = seat ∙ joined_is v seats

  -- a marker as it began and ended
  abbrev began : ℕ → Marker
  began k = get_or g.running k (record { seat = new_marker v; share = nobody; notes = no_notes })

  abbrev nothing : Ending
  nothing = record { seat = new_marker v; share = nobody; notes = no_notes; drained = nothing_yet }

  abbrev ended : ℕ → Ending
  ended k = get_or ends k nothing

  drained : (k : ℕ) → k < length ends → HasDrained (began k) (ended k)
  drained k low = each k (record { seat = new_marker v; share = nobody; notes = no_notes }) nothing low

  new : (k : ℕ) → k < length ends → IsNewMarker v (began k)
  new k low = out.began k (record { seat = new_marker v; share = nobody; notes = no_notes }) (omega (arith, low, many))

  seat_at : (k : ℕ) → k < length ends → get_or seats k (new_marker v) ≡ (ended k).seat
  seat_at k low = get_or-map (λ (e : Ending). e.seat) ends k nothing (new_marker v) low

  share_at : (k : ℕ) → k < length ends → get_or shares k nobody ≡ (ended k).share
  share_at k low = get_or-map (λ (e : Ending). e.share) ends k nothing nobody low

  seats_many : length seats ≡ length ends
  seats_many = length-map ends (λ (e : Ending). e.seat)

  shares_many : length shares ≡ length ends
  shares_many = length-map ends (λ (e : Ending). e.share)

  -- ---- what the view has then

  is_on : w.on ≡ true
  is_on = ap (λ (x : SeatView). x.on) is ∙ way.on

  -- what a marker has, of one kind
  from_end : {X : Type 0} (f : MarkerSeatView → List X) (x : X) → Contains (flat_map f seats) x → (k : ℕ) × (k < length ends) × Contains (f (ended k).seat) x
  from_end f x there =
      let found = in_one f seats (new_marker v) x there in
      let low : found.0 < length ends = omega (arith, found.1, seats_many) in
      (found.0, low, subst (λ s. Contains (f s) x) (seat_at found.0 low) found.2)

  to_all : {X : Type 0} (f : MarkerSeatView → List X) (x : X) (k : ℕ) → k < length ends → Contains (f (ended k).seat) x → Contains (flat_map f seats) x
  to_all f x k low there = in_all f seats (new_marker v) x k (omega (arith, low, seats_many)) (subst (λ s. Contains (f s) x) (sym (seat_at k low)) there)

  marked_from : (p : ℕ) → holds w.marked p ≡ true → (holds v.marked p ≡ true) ⊎ ((k : ℕ) × (k < length ends) × Contains (ended k).seat.marked p)
  marked_from p held = elim (held_cases v.marked (flat_map (λ m. m.marked) seats) p (ap (λ (x : SeatView). holds x.marked p) (sym is) ∙ held)) [
    | inl before ↦ inl before
    | inr new ↦ inr (from_end (λ m. m.marked) p (in_from_holds (flat_map (λ m. m.marked) seats) p new))
  ]

  marked_before : (p : ℕ) → holds v.marked p ≡ true → holds w.marked p ≡ true
  marked_before p held = ap (λ (x : SeatView). holds x.marked p) is ∙ held_first v.marked (flat_map (λ m. m.marked) seats) p held

  marked_by : (p k : ℕ) → k < length ends → Contains (ended k).seat.marked p → holds w.marked p ≡ true
  marked_by p k low there =
      ap (λ (x : SeatView). holds x.marked p) is
      ∙ held_second v.marked (flat_map (λ m. m.marked) seats) p (holds_from (flat_map (λ m. m.marked) seats) p (to_all (λ m. m.marked) p k low there))

  traced_before : (p : ℕ) → holds v.traced p ≡ true → holds w.traced p ≡ true
  traced_before p held = ap (λ (x : SeatView). holds x.traced p) is ∙ held_first v.traced (flat_map (λ m. m.traced) seats) p held

  traced_by : (p k : ℕ) → k < length ends → Contains (ended k).seat.traced p → holds w.traced p ≡ true
  traced_by p k low there =
      ap (λ (x : SeatView). holds x.traced p) is
      ∙ held_second v.traced (flat_map (λ m. m.traced) seats) p (holds_from (flat_map (λ m. m.traced) seats) p (to_all (λ m. m.traced) p k low there))

  -- what a marker found traced was traced
  done_by : (p k : ℕ) → k < length ends → Contains (ended k).seat.done p → holds w.traced p ≡ true
  done_by p k low there =
      (view.marking is_on).done_are_traced lent p
      (ap (λ (x : SeatView). holds x.done p) is
      ∙ held_second v.done (flat_map (λ m. m.done) seats) p (holds_from (flat_map (λ m. m.done) seats) p (to_all (λ m. m.done) p k low there)))

  -- and so was what the owner found
  found_traced : (p : ℕ) → Contains g.found p → holds w.traced p ≡ true
  found_traced p there =
      (view.marking is_on).done_are_traced lent p
      (ap (λ (x : SeatView). holds x.done p) is ∙ held_first v.done (flat_map (λ m. m.done) seats) p (holds_from v.done p (found some p there)))

  noted_by : (pair : ℕ × ℕ) (k : ℕ) → k < length ends → Contains (ended k).seat.noted pair → Contains w.noted pair
  noted_by pair k low there =
      subst (λ (x : SeatView). Contains x.noted pair) (sym is) (Contains-append_right v.noted (flat_map (λ m. m.noted) seats) pair (to_all (λ m. m.noted) pair k low there))

  -- ---- the notes

  group_of : (k : ℕ) → k < length ends → group_at groups (suc k) ≡ (ended k).notes
  group_of k low = get_or-map (λ (e : Ending). e.notes) ends k nothing no_notes low

  noted_in : (k : ℕ) (note : Note) → k < length ends → Contains (ended k).notes.notes note → IsNotedIn groups note
  noted_in k note low there =
      (suc k, omega (arith, low, length-map ends (λ (e : Ending). e.notes)), subst (λ (x : NotesState). Contains x.notes note) (sym (group_of k low)) there)

  own_noted : (note : Note) → Contains g.notes.notes note → IsNotedIn groups note
  own_noted note there = (0, omega arith, there)

  -- ---- what was put and taken

  at_own : at (g.marking.list.shares ++ shares) 0 ≡ at g.marking.list.shares 0
  at_own = get_or_append_left g.marking.list.shares shares nobody 0 (omega (arith, one))

  at_end : (k : ℕ) → k < length ends → at (g.marking.list.shares ++ shares) (suc k) ≡ (ended k).share
  at_end k low =
      get_or-append_right g.marking.list.shares shares 1 (suc k) nobody one (omega arith) ∙ ap (at shares) (let back : suc k - 1 ≡ k = omega arith in back) ∙ share_at k low

  all_many : length (g.marking.list.shares ++ shares) ≡ suc (length ends)
  all_many = omega (arith, length-append g.marking.list.shares shares, one, shares_many)

  put_by_own : (p : ℕ) → Contains (put_of (at g.marking.list.shares 0)) p → Contains (put_by (g.marking.list.shares ++ shares)) p
  put_by_own p there =
      in_all put_of (g.marking.list.shares ++ shares) nobody p 0 (omega (arith, all_many)) (subst (λ s. Contains (put_of s) p) (sym at_own) there)

  put_by_end : (p k : ℕ) → k < length ends → Contains (put_of (ended k).share) p → Contains (put_by (g.marking.list.shares ++ shares)) p
  put_by_end p k low there =
      in_all put_of (g.marking.list.shares ++ shares) nobody p (suc k) (omega (arith, all_many, low)) (subst (λ s. Contains (put_of s) p) (sym (at_end k low)) there)

  -- an item of one of them
  of_share : (f : ShareState → List ℕ) (p : ℕ) → Contains (flat_map f (g.marking.list.shares ++ shares)) p
      → Contains (f (at g.marking.list.shares 0)) p ⊎ ((k : ℕ) × (k < length ends) × Contains (f (ended k).share) p)
  of_share f p there = cases (in_one f (g.marking.list.shares ++ shares) nobody p there)
    where
      cases : (k : ℕ) × (k < length (g.marking.list.shares ++ shares)) × Contains (f (at (g.marking.list.shares ++ shares) k)) p
          → Contains (f (at g.marking.list.shares 0)) p ⊎ ((k : ℕ) × (k < length ends) × Contains (f (ended k).share) p)
      cases (zero, low, found) = inl (subst (λ s. Contains (f s) p) at_own found)
      cases (suc k, low, found) = inr (k, omega (arith, low, all_many), subst (λ s. Contains (f s) p) (at_end k (omega (arith, low, all_many))) found)

  -- ---- what a share had that began

  share_began : (k : ℕ) → k < length ends → at (out.first ++ map (λ (b : Marker). b.share) g.running) (suc k) ≡ (began k).share
  share_began k low =
      get_or-append_right out.first (map (λ (b : Marker). b.share) g.running) 1 (suc k) nobody out.fresh.alone (omega arith)
      ∙ ap (at (map (λ (b : Marker). b.share) g.running)) (let back : suc k - 1 ≡ k = omega arith in back)
      ∙ get_or-map (λ (b : Marker). b.share) g.running k (record { seat = new_marker v; share = nobody; notes = no_notes }) nobody (omega (arith, low, many))

  fresh : (k : ℕ) → k < length ends → IsFresh (began k).share
  fresh k low =
      subst IsFresh (share_began k low)
      (out.fresh.fresh (suc k) nobody
      (omega (arith, low, many, length-append out.first (map (λ (b : Marker). b.share) g.running), out.fresh.alone, length-map g.running (λ (b : Marker). b.share))))

  none_in : {X : Type 0} (l : List X) (x : X) → l ≡ [] → Contains l x → ⊥
  none_in l x none there = omega (arith, (subst (λ k. Contains k x) none there).1)

  none_taken : (k : ℕ) → k < length ends → (p : ℕ) → Contains (taken_by_share (began k).share) p → ⊥
  none_taken k low p there = none_in (taken_by_share (began k).share) p (nothing_taken (began k).share (fresh k low)) there

  -- ---- what was put was marked

  put_is_marked : (p : ℕ) → Contains (put_by (g.marking.list.shares ++ shares)) p → holds w.marked p ≡ true
  put_is_marked p there = elim (of_share put_of p there) [
    | inl own ↦ marked_before p (out.marked p own)
    | inr (k, low, put) ↦ elim ((drained k low).works.put p put) [
      | inl before ↦ absurd (none_in (put_of (began k).share) p (fresh k low).put before)
      | inr marked ↦ marked_by p k low marked
    ]
  ]

  taken_is_put : (p : ℕ) → Contains (taken_by (g.marking.list.shares ++ shares)) p → Contains (put_by (g.marking.list.shares ++ shares)) p
  taken_is_put p there =
      some_times p (put_by (g.marking.list.shares ++ shares)) (omega (arith, times_some p (taken_by (g.marking.list.shares ++ shares)) there, taken.even p))

  left_is_put : (p : ℕ) → Contains n.list.items p → Contains (put_by (g.marking.list.shares ++ shares)) p
  left_is_put p there = some_times p (put_by (g.marking.list.shares ++ shares)) (omega (arith, times_some p n.list.items there, taken.even p))

  taken_by_own : (p : ℕ) → Contains (taken_by_share (at g.marking.list.shares 0)) p → Contains (taken_by (g.marking.list.shares ++ shares)) p
  taken_by_own p there =
      in_all taken_by_share (g.marking.list.shares ++ shares) nobody p 0 (omega (arith, all_many)) (subst (λ s. Contains (taken_by_share s) p) (sym at_own) there)

  taken_by_end : (p k : ℕ) → k < length ends → Contains (taken_by_share (ended k).share) p → Contains (taken_by (g.marking.list.shares ++ shares)) p
  taken_by_end p k low there =
      in_all taken_by_share (g.marking.list.shares ++ shares) nobody p (suc k) (omega (arith, all_many, low)) (subst (λ s. Contains (taken_by_share s) p) (sym (at_end k low)) there)

  place_of_put : (p : ℕ) → Contains (put_by (g.marking.list.shares ++ shares)) p → IsPlace w.bodies p
  place_of_put p there = view.marked_are_bodies p (put_is_marked p there)

  -- ---- what was refused

  own_refused : refused_by (g.marking.list.shares ++ shares) ≡ g.marking.list.refused + refused_by shares
  own_refused =
      sum_by-append (λ (s : ShareState). s.refused) g.marking.list.shares shares
      ∙ ap (λ c. c + refused_by shares) (single g.marking.list.shares one ∙ sym out.refused)

  more_refused : (k : ℕ) → k < length ends → (ended k).share.refused ≤ refused_by shares
  more_refused k low = subst (λ s. s.refused ≤ refused_by shares) (share_at k low) (one_of_sum (λ (s : ShareState). s.refused) shares k nobody (omega (arith, low, shares_many)))

  -- the count had its last value, so that a refusal was told before
  told_last : last_count ≤ g.marking.list.refused → n.overflow ≡ true
  told_last last = kept (pushes_told.counted (omega (arith, out.since, last)))

  told_more : 0 < refused_by shares → n.overflow ≡ true
  told_more more = elim (cases_lt g.marking.list.refused last_count) [
    | inl less ↦ raised (λ same. least g.marking.list.refused (refused_by (g.marking.list.shares ++ shares)) less (omega (arith, own_refused, more)) (sym refused ∙ same))
    | inr last ↦ told_last (omega (arith, last))
  ] where
    least : (own all : ℕ) → own < last_count → own < all → min all last_count ≡ own → ⊥
    least own all less more same = omega (arith, less, more, same)

  module _ (fine : IsUnrefused n.overflow groups) where
    pushes_fine : g.marking.overflow ≡ false
    pushes_fine = false_from_ne_true g.marking.overflow (λ told. true≢false (sym (kept told) ∙ fine.pushes))

    notes_fine : g.notes.overflow ≡ false
    notes_fine = fine.notes 0 (omega arith)

    group_fine : (k : ℕ) → k < length ends → (ended k).notes.overflow ≡ false
    group_fine k low =
        ap (λ (x : NotesState). x.overflow) (sym (group_of k low))
        ∙ fine.notes (suc k) (omega (arith, low, length-map ends (λ (e : Ending). e.notes)))

    drain_fine : (k : ℕ) → k < length ends → (ended k).drained.overflow ≡ false
    drain_fine k low = false_from_ne_true (ended k).drained.overflow (λ told. elim ((drained k low).works.cause told) [
      | inl never ↦ true≢false (sym never)
      | inr cause ↦ elim cause [
        | inr noted ↦ true≢false (sym noted ∙ group_fine k low)
        | inl risen ↦ true≢false (sym (told_more (elim risen [
          | inl more ↦ omega (arith, more, more_refused k low)
          | inr last ↦ omega (arith, last, more_refused k low)
        ])) ∙ fine.pushes)
      ]
    ])

    -- ---- what is grey

    untraced : (p : ℕ) → holds w.traced p ≡ false → holds v.traced p ≡ false
    untraced p white = false_from_ne_true (holds v.traced p) (λ held. true≢false (sym (traced_before p held) ∙ white))

    dealt : (p : ℕ) → holds w.traced p ≡ false → Contains (taken_by (g.marking.list.shares ++ shares)) p → IsNotedIn groups (note_of p 0)
    dealt p white there = elim (of_share taken_by_share p there) [
      | inl own ↦ elim (out.taken notes_fine p own) [
        | inl traced ↦ absurd (true≢false (sym (traced_before p traced) ∙ white))
        | inr other ↦ elim other [
          | inl was ↦ absurd (true≢false (sym (found_traced p was) ∙ white))
          | inr note ↦ own_noted (note_of p 0) note
        ]
      ]
      | inr (k, low, took) ↦ elim ((drained k low).taken p took) [
        | inl before ↦ absurd (none_taken k low p before)
        | inr is ↦ elim (is (group_fine k low)) [
          | inl traced ↦ absurd (true≢false (sym (traced_by p k low traced) ∙ white))
          | inr other ↦ elim other [
            | inl done ↦ absurd (true≢false (sym (done_by p k low done) ∙ white))
            | inr note ↦ noted_in k (note_of p 0) low note
          ]
        ]
      ]
    ]

    left_or_noted : (p : ℕ) → holds w.traced p ≡ false → Contains (put_by (g.marking.list.shares ++ shares)) p
        → Contains n.list.items p ⊎ IsNotedIn groups (note_of p 0)
    left_or_noted p white put = elim (cases_lt 0 (times_listed p n.list.items)) [
      | inl left ↦ inl (some_times p n.list.items (omega (arith, left)))
      | inr none ↦ inr (dealt p white (some_times p (taken_by (g.marking.list.shares ++ shares))
          (omega (arith, none, taken.even p, times_some p (put_by (g.marking.list.shares ++ shares)) put))))
    ]

    grey : (p : ℕ) → holds w.marked p ≡ true → holds w.traced p ≡ false → Contains n.list.items p ⊎ IsNotedIn groups (note_of p 0)
    grey p marked white = elim (marked_from p marked) [
      | inl before ↦ elim (way.grey pushes_fine notes_fine p before (untraced p white)) [
        | inl listed ↦ left_or_noted p white (put_by_own p (out.put p listed))
        | inr note ↦ inr (own_noted (note_of p 0) note)
      ]
      | inr (k, low, there) ↦ elim ((drained k low).works.listed (drain_fine k low) p there) [
        | inl before ↦ absurd (none_in (began k).seat.marked p (ap (λ (m : MarkerSeatView). m.marked) (new k low).seat) before)
        | inr put ↦ left_or_noted p white (put_by_end p k low put)
      ]
    ]

    -- ---- what is noted

    recorded : (pair : ℕ × ℕ) → Contains w.noted pair → IsNotedIn groups (note_of pair.0 pair.1)
    recorded pair there = elim (Contains-append_cases v.noted (flat_map (λ m. m.noted) seats) pair (subst (λ (x : SeatView). Contains x.noted pair) is there)) [
      | inl before ↦ own_noted (note_of pair.0 pair.1) (way.recorded notes_fine pair before)
      | inr later ↦ by_marker (from_end (λ m. m.noted) pair later)
    ] where
      by_marker : (k : ℕ) × (k < length ends) × Contains (ended k).seat.noted pair → IsNotedIn groups (note_of pair.0 pair.1)
      by_marker (k, low, noted) = elim ((drained k low).works.noted (group_fine k low) pair.0 pair.1 noted) [
        | inl before ↦ absurd (none_in (began k).seat.noted (pair.0, pair.1) (ap (λ (m : MarkerSeatView). m.noted) (new k low).seat) before)
        | inr note ↦ noted_in k (note_of pair.0 pair.1) low note
      ]

    no_hand : w.hand ≡ None
    no_hand = ap (λ (x : SeatView). x.hand) is ∙ way.still.no_hand

    no_pending : w.pending ≡ None
    no_pending = ap (λ (x : SeatView). x.pending) is ∙ way.still.no_pending

    pairs : (p : ℕ) → holds w.traced p ≡ true → HasPairsNoted w.types w p (IsNotedIn groups)
    pairs p traced offset b key q there at_place pair first second =
        let field = field_at_offset Pair (declared_kinds w.types b.ty) offset pair in
        let next : offset + 1 - 2 ≡ offset - 2 + 1 = omega (arith, field.2) in
        let back : offset - 2 + 2 ≡ offset = omega (arith, field.2) in
        let at_value : word_in b (offset - 2 + 1) ≡ q + 1 = ap (word_in b) (sym next) ∙ second in
        let target : word_in b (offset - 2 + 1) - 1 ≡ q = omega (arith, at_value) in
        elim ((view.marking is_on).traced_pairs lent no_hand no_pending b (offset - 2) there
        (subst (λ a. holds w.traced a ≡ true) (sym at_place) traced) (role_of_offset w.types b Pair offset pair) (omega (arith, first)) (omega (arith, at_value))) [
          | inl marked ↦ inl (subst (λ a. holds w.marked a ≡ true) target marked)
          | inr noted ↦ inr (subst (λ o. IsNotedIn groups (note_of p o)) back
              (subst (λ a. IsNotedIn groups (note_of a (offset - 2 + 2))) at_place (recorded (b.place, offset - 2 + 2) noted)))
        ]

  -- ---- marking can be brought to its end

  noted : (note : Note) → IsNotedIn groups note → IsNote w.types w.bodies note
  noted note (zero, low, there) = elim (way.noted note there) [
    | inl itself ↦ inl (itself, place_of_put note.holder (taken_is_put note.holder (taken_by_own note.holder (out.lone note there itself).0)))
    | inr pair ↦ inr (subst (λ (x : SeatView). BodyHasPair x.types x.bodies note.holder note.word) (sym is) pair)
  ]
  noted note (suc k, low, there) =
      let below : k < length ends = omega (arith, low, length-map ends (λ (e : Ending). e.notes)) in
      elim ((drained k below).works.notes note (subst (λ (x : NotesState). Contains x.notes note) (group_of k below) there)) [
        | inl before ↦ absurd (none_in (began k).notes.notes note (new k below).notes.none_noted before)
        | inr new ↦ elim new [
          | inl pair ↦ inr (noted_pair w view is_on note.holder note.word (noted_by (note.holder, note.word) k below pair.0))
          | inr itself ↦ inl (itself.0, place_of_put note.holder (taken_is_put note.holder (taken_by_end note.holder k below itself.1.0)))
        ]
      ]

  traced_is_marked : (p : ℕ) → holds w.traced p ≡ true → holds w.marked p ≡ true
  traced_is_marked p traced = view.traced_are_marked lent p traced

  holders : (note : Note) → IsNotedIn groups note → holds w.marked note.holder ≡ true
  holders note (zero, low, there) = elim (way.holders note there) [
    | inl itself ↦ put_is_marked note.holder (taken_is_put note.holder (taken_by_own note.holder (out.lone note there itself).0))
    | inr traced ↦ traced_is_marked note.holder (traced_before note.holder traced)
  ]
  holders note (suc k, low, there) =
      let below : k < length ends = omega (arith, low, length-map ends (λ (e : Ending). e.notes)) in
      elim ((drained k below).works.notes note (subst (λ (x : NotesState). Contains x.notes note) (group_of k below) there)) [
        | inl before ↦ absurd (none_in (began k).notes.notes note (new k below).notes.none_noted before)
        | inr new ↦ elim new [
          | inl pair ↦ traced_is_marked note.holder (traced_by note.holder k below pair.1)
          | inr itself ↦ put_is_marked note.holder (taken_is_put note.holder (taken_by_end note.holder k below itself.1.0))
        ]
      ]

  same_types : w.types ≡ v.types
  same_types = ap (λ (x : SeatView). x.types) is

  pub ready : IsReadyToEnd v.types w n groups
  ready = subst (λ (ts : List ObjectType). IsReadyToEnd ts w n groups) same_types (record {
    on = is_on;
    told = on ∙ way.told;
    alone = record {
      no_hand = ap (λ (x : SeatView). x.hand) is ∙ way.still.no_hand;
      no_pending = ap (λ (x : SeatView). x.pending) is ∙ way.still.no_pending;
      none_lent = lent;
    };
    whole = whole;
    listed = λ p there. put_is_marked p (left_is_put p there);
    noted = noted;
    holders = holders;
    accounted = λ fine. record { grey = λ p marked white. inr (grey fine p marked white); pairs = pairs fine };
    own = omega arith;
  })

  pub same_heap : IsSameHeap v w
  same_heap = subst (IsSameHeap v) (sym is) (record { heap = refl; types = refl; on = refl; bodies = refl; filled = refl; dead = refl; may = refl })

  -- ---- the counts

  traced_all : length (flat_map (λ (m : MarkerSeatView). m.traced) seats) ≡ sum_by (λ (e : Ending). e.drained.traced) ends
  traced_all =
      length-flat_map (λ (m : MarkerSeatView). m.traced) seats ∙ sum_mapped (λ (m : MarkerSeatView). length m.traced) (λ (e : Ending). e.seat) ends
      ∙ sum_alike (λ (e : Ending). length e.seat.traced) (λ (e : Ending). e.drained.traced) ends nothing
      (λ k low. (let none : length (began k).seat.traced ≡ 0 = ap (λ (m : MarkerSeatView). length m.traced) (new k low).seat in omega (arith, none, (drained k low).works.counted)))

  pub counted : traced_count w ≡ traced_count v + sum_by (λ (e : Ending). e.drained.traced) ends
  counted =
      let more : List ℕ = flat_map (λ (m : MarkerSeatView). m.traced) seats in
      let traced_is : w.traced ≡ v.traced ++ more = ap (λ (x : SeatView). x.traced) is in
      let same : w.bodies ≡ v.bodies = ap (λ (x : SeatView). x.bodies) is in
      ap traced_count is
      ∙ traced_more v.traced more v.bodies differ (λ a. subst (λ l. times a l ≤ 1) traced_is (view.traced_once a))
      (λ a there. subst (λ bs. IsPlace bs a) same (view.traced_are_bodies a (ap (λ l. holds l a) traced_is ∙ held_second v.traced more a (holds_from more a there))))
      ∙ ap (λ c. traced_count v + c) traced_all

  -- ---- what is told of refusals

  pub pushes : g.marking.list.refused ≤ last_count
      → TellsRefused (record { told = false; count = g.since.pushes }) (record { told = n.overflow; count = g.earlier + n.list.refused })
  pushes few = told_then (record { told = false; count = g.since.pushes }) (pushes_in g) (record { told = n.overflow; count = g.earlier + n.list.refused }) pushes_told (record {
    kept = kept;
    no_fewer = omega (arith, no_fewer);
    counted = λ more. raised (λ same. omega (arith, more, same));
    only = λ told. elim (only told) [
      | inl before ↦ inl before
      | inr other ↦ inr (inl (elim (cases_lt g.marking.list.refused n.list.refused) [
        | inl more ↦ omega (arith, more)
        | inr no_more ↦ absurd (other (omega (arith, no_more, no_fewer)))
      ]))
    ];
  }) where
    no_fewer : g.marking.list.refused ≤ n.list.refused
    no_fewer = omega (arith, few, own_refused, refused)

  -- the groups as they began
  abbrev before : List NotesState
  before = g.notes ∷ map (λ (b : Marker). b.notes) g.running

  told_before : refusals_of_all before ≡ notes_in g
  told_before = told_is (none_told g.running (λ k low. (out.began k (record { seat = new_marker v; share = nobody; notes = no_notes }) low).notes.unrefused)) counts
    where
      counts : sum_by (λ (x : NotesState). x.refused) before ≡ g.notes.refused + (sum_by (λ (x : NotesState). x.refused) g.others + sum_by (λ (b : Marker). b.notes.refused) g.running)
      counts =
          let none : sum_by (λ (x : NotesState). x.refused) g.others ≡ 0 = ap (sum_by (λ (x : NotesState). x.refused)) out.others in
          omega (
            arith,
            none,
            sum_by-cons (λ (x : NotesState). x.refused) g.notes (map (λ (b : Marker). b.notes) g.running),
            sum_mapped (λ (x : NotesState). x.refused) (λ (b : Marker). b.notes) g.running,
          )

      told_is : list_any (λ (x : NotesState). x.overflow) (map (λ (b : Marker). b.notes) g.running) ≡ false
          → sum_by (λ (x : NotesState). x.refused) before ≡ g.notes.refused + (sum_by (λ (x : NotesState). x.refused) g.others + sum_by (λ (b : Marker). b.notes.refused) g.running)
          → refusals_of_all before ≡ notes_in g
      told_is none same =
          ap₂ (λ t c. record { told = t; count = c }) (ap (λ t. g.notes.overflow || t) none ∙ or_false g.notes.overflow) same

      none_told : (running : List Marker) → ((k : ℕ) → k < length running → (get_or running k (record { seat = new_marker v; share = nobody; notes = no_notes })).notes.overflow ≡ false)
          → list_any (λ (x : NotesState). x.overflow) (map (λ (b : Marker). b.notes) running) ≡ false
      none_told [] each = refl
      none_told (b ∷ running) each = ap₂ (λ x y. x || y) (each 0 (omega arith)) (none_told running (λ k low. each (suc k) (omega (arith, low))))

  group_began : (k : ℕ) → k < length ends → group_at before (suc k) ≡ (began k).notes
  group_began k low = get_or-map (λ (b : Marker). b.notes) g.running k (record { seat = new_marker v; share = nobody; notes = no_notes }) no_notes (omega (arith, low, many))

  pub notes_all : TellsRefused (record { told = false; count = g.since.notes }) (refusals_of_all groups)
  notes_all =
      told_then (record { told = false; count = g.since.notes }) (refusals_of_all before) (refusals_of_all groups)
      (subst (TellsRefused (record { told = false; count = g.since.notes })) (sym told_before) notes_told)
      (told_groups before groups (omega (arith, length-map ends (λ (e : Ending). e.notes), length-map g.running (λ (b : Marker). b.notes), many)) each_told)
    where
      each_told : (i : ℕ) → i < length before → TellsRefused (refusals_in (group_at before i)) (refusals_in (group_at groups i))
      each_told zero low = told_same (refusals_in g.notes)
      each_told (suc k) low =
          let below : k < length ends = omega (arith, low, many, length-map g.running (λ (b : Marker). b.notes)) in
          subst (λ (x : NotesState). TellsRefused (refusals_in x) (refusals_in (group_at groups (suc k)))) (sym (group_began k below))
          (subst (λ (x : NotesState). TellsRefused (refusals_in (began k).notes) (refusals_in x)) (sym (group_of k below)) (drained k below).works.notes_told)

  pub has_joined : g.marking.list.refused ≤ last_count → (after : Grey) → after.marking ≡ n → after.crew.notes ≡ groups → after.crew.running ≡ []
      → after.crew.markers ≡ g.markers → after.traced ≡ g.traced → after.since.value ≡ g.since → after.earlier.value ≡ g.earlier
      → IsJoined v g w after (sum_by (λ (e : Ending). e.drained.traced) ends)
  has_joined few after marking notes running markers traced since earlier = record {
    same = same_heap;
    ready =
        subst (λ (m : Marking). IsReadyToEnd v.types w m after.crew.notes) (sym marking)
        (subst (IsReadyToEnd v.types w n) (sym notes) ready);
    counted = counted;
    home = running;
    markers = markers;
    unshared = λ none. absurd (omega (arith, none, some, out.many));
    groups = omega (arith, ap length notes, length-map ends (λ (e : Ending). e.notes), many, out.many);
    traced = traced;
    since = since;
    earlier = earlier;
    pushes =
        subst (λ (m : Marking). TellsRefused (record { told = false; count = g.since.pushes }) (record { told = m.overflow; count = g.earlier + m.list.refused }))
        (sym marking) (pushes few);
    notes = subst (λ (l : List NotesState). TellsRefused (record { told = false; count = g.since.notes }) (refusals_of_all l)) (sym notes) notes_all;
  }
