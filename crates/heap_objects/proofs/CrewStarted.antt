-- Marking is under way once the markers have started.
use Rattle.std.proofs.Common.{◌≡◌, ℕ, suc, ◌+◌, ◌<◌, ◌≤◌, Bool, false, List, [], ◌∷◌, ◌++◌, length, map, replicate, take, drop, refl, sym, ap, ap₂, ◌∙◌, subst, inl, inr, arith}
use Rattle.std.specs.List.{All, Contains, sum_by}
use Rattle.std.proofs.lemmas.List.{get_or_append_left, length-append}
use Rattle.std.proofs.lemmas.List.Elements.{All-cons, All-head, All-tail, All-weaker}
use Rattle.std.proofs.lemmas.List.Sums.{sum_by-cons}
use Rattle.gc_graph.specs.declared.action.ActionKind.{ActionKind}
use Rattle.gc_graph.specs.State.{Shape, ObjectType, Node}
use Rattle.mark_worklist.specs.Lists.{ListState, IsShared}
use Rattle.mark_worklist.specs.Refusals.{TellsRefused, refusals_of}
use Rattle.mark_worklist.specs.Told.{told_then}
use Rattle.mark_worklist.specs.declared.marking.Marking.{Marking}
use Rattle.page_words.specs.Markers.{MarkerSeatView, new_marker}
use Rattle.page_words.specs.Seat.{SeatView}
use Rattle.mark_worklist.specs.Families.{at, nobody}
use Rattle.mark_worklist.specs.Joining.{AreFresh}
use Rattle.mark_worklist.specs.Shares.{ShareState, put_of, taken_by_share}
use Rattle.marker_crew.specs.Notes.{NotesState, group_at}
use Rattle.atomic_pause.specs.UnderWay.{IsUnderWay}
use Rattle.marker_crew.specs.Crews.{CrewState, Marker, begun_with, started_with}
use Rattle.heap_objects.specs.declared.marking.Grey.{Grey}
use Rattle.heap_objects.specs.Crews.{Relists, lent_often}
use Rattle.heap_objects.specs.Refused.{RefusedCounts}
use Rattle.heap_objects.specs.Marking.{GreyView, IsCleared, grey_of, refused_in, pushes_in}
use Rattle.heap_objects.specs.Marks.{CrewIsLent, HasMarking, IsHome, IsNewMarker, IsOut}
use Rattle.heap_objects.proofs.JoinedSeats.{nothing_taken}
use Rattle.heap_objects.proofs.CrewStays.{crew_is, crew_told}
use Rattle.heap_objects.proofs.MarksStored.{view_in}
use Rattle.heap_objects.proofs.ToldSums.{told_shifted}
use Rattle.heap_objects.proofs.Unlooked.{way_is, way_told, may_is, may_told}

-- ---- the markers as they begin

begun_many : (m : MarkerSeatView) (shares : List ShareState) (groups : List NotesState) → length groups ≡ length shares
    → length (begun_with (replicate (length shares) m) shares groups) ≡ length shares
begun_many m [] groups long = refl
begun_many m (h ∷ shares) [] long = absurd (omega (arith, long))
begun_many m (h ∷ shares) (x ∷ groups) long = ap suc (begun_many m shares groups (omega (arith, long)))

begun_shares : (m : MarkerSeatView) (shares : List ShareState) (groups : List NotesState) → length groups ≡ length shares
    → map (λ (b : Marker). b.share) (begun_with (replicate (length shares) m) shares groups) ≡ shares
begun_shares m [] groups long = refl
begun_shares m (h ∷ shares) [] long = absurd (omega (arith, long))
begun_shares m (h ∷ shares) (x ∷ groups) long = ap (λ l. h ∷ l) (begun_shares m shares groups (omega (arith, long)))

begun_new : (v : SeatView) (shares : List ShareState) (groups : List NotesState) → length groups ≡ length shares → All IsCleared groups
    → All (IsNewMarker v) (begun_with (replicate (length shares) (new_marker v)) shares groups)
begun_new v [] groups long clear = λ k d low. absurd (omega (arith, low))
begun_new v (h ∷ shares) [] long clear = absurd (omega (arith, long))
begun_new v (h ∷ shares) (x ∷ groups) long clear =
    All-cons (IsNewMarker v) (record { seat = new_marker v; share = h; notes = x }) (begun_with (replicate (length shares) (new_marker v)) shares groups)
    (record { seat = refl; notes = All-head IsCleared x groups clear }) (begun_new v shares groups (omega (arith, long)) (All-tail IsCleared x groups clear))

begun_refused : (m : MarkerSeatView) (shares : List ShareState) (groups : List NotesState) → length groups ≡ length shares
    → sum_by (λ (b : Marker). b.notes.refused) (begun_with (replicate (length shares) m) shares groups) ≡ sum_by (λ (x : NotesState). x.refused) groups
begun_refused m [] [] long = refl
begun_refused m [] (x ∷ groups) long = absurd (omega (arith, long))
begun_refused m (h ∷ shares) [] long = absurd (omega (arith, long))
begun_refused m (h ∷ shares) (x ∷ groups) long =
    sum_by-cons (λ (b : Marker). b.notes.refused) (record { seat = m; share = h; notes = x }) (begun_with (replicate (length shares) m) shares groups)
    ∙ ap (λ c. x.refused + c) (begun_refused m shares groups (omega (arith, long))) ∙ sym (sum_by-cons (λ (y : NotesState). y.refused) x groups)

-- ---- the crew is out

-- what is kept of marking once the markers have begun with these shares, and the list was given over
abbrev pub started_as : SeatView → GreyView → List ShareState → Marking → GreyView
started_as v g shares m = record g {
  marking = m;
  others = [];
  running = begun_with (replicate g.markers (new_marker v)) shares g.others;
  found = [];
  earlier = (refused_in g).pushes;
}

module _ (v : SeatView) (g : GreyView) (list : ListState) (shares : List ShareState) (m : Marking)
    (some : 0 < g.markers) (calm : g.running ≡ []) (groups : length g.others ≡ g.markers)
    (shared : IsShared g.markers list shares) (r : Relists g.marking.list.items [] (record g.marking { list = list }) m) where
  abbrev now : GreyView
  now = started_as v g shares m

  abbrev w : SeatView
  w = lent_often g.markers v

  as_many : length shares ≡ g.markers
  as_many = shared.fresh.as_many

  long : length g.others ≡ length shares
  long = groups ∙ sym as_many

  -- the markers, counted by their shares
  running_is : begun_with (replicate g.markers (new_marker v)) shares g.others ≡ begun_with (replicate (length shares) (new_marker v)) shares g.others
  running_is = ap (λ n. begun_with (replicate n (new_marker v)) shares g.others) (sym as_many)

  pub many : length now.running ≡ g.markers
  many = ap length running_is ∙ begun_many (new_marker v) shares g.others long ∙ as_many

  one : length list.shares ≡ 1
  one = shared.fresh.alone

  there : 0 < length list.shares
  there = omega (arith, one)

  no_items : (p : ℕ) → Contains list.items p → ⊥
  no_items p at = omega (arith, (subst (λ l. Contains l p) shared.items at).1)

  listed : (p : ℕ) → Contains m.list.items p → Contains g.marking.list.items p
  listed p at = elim (r.only p at) [ inl never ↦ absurd (no_items p never) | inr before ↦ before ]

  -- the owner's share put nothing before, and took nothing
  put_nothing : put_of (at list.shares 0) ≡ []
  put_nothing = sym (ap (λ (l : ListState). l.items) shared.own) ∙ shared.items

  put_listed : (p : ℕ) → Contains (put_of (at m.list.shares 0)) p → Contains g.marking.list.items p
  put_listed p at = elim (r.puts.put shared.whole there p at) [
    | inl never ↦ absurd (omega (arith, (subst (λ l. Contains l p) put_nothing never).1))
    | inr before ↦ before
  ]

  own_fresh : at (list.shares ++ shares) 0 ≡ at list.shares 0
  own_fresh = get_or_append_left list.shares shares nobody 0 there

  took_nothing : taken_by_share (at m.list.shares 0) ≡ []
  took_nothing =
      r.puts.taken shared.whole there
      ∙ ap taken_by_share (sym own_fresh) ∙ nothing_taken (at (list.shares ++ shares) 0) (shared.fresh.fresh 0 nobody (omega (arith, length-append list.shares shares, one)))

  module _ (way : IsUnderWay v g.marking g.notes) (crew : CrewIsLent v g) where
    home : IsHome g
    home = crew.home calm

    goes_on : IsUnderWay w m g.notes
    goes_on = record {
      on = way.on;
      told = r.on ∙ way.told;
      still = record { no_hand = way.still.no_hand; no_pending = way.still.no_pending };
      listed = λ p at. way.listed p (listed p at);
      grey = λ fine none p marked white. elim (way.grey (r.unrefused fine) none p marked white) [
        | inl before ↦ elim (r.kept fine p before) [ inl never ↦ absurd (omega (arith, never.1)) | inr at ↦ inl at ]
        | inr note ↦ inr note
      ];
      unshared = λ none. absurd (omega (arith, (r.puts.family shared.whole there).as_many, one, ap length none));
      noted = way.noted;
      holders = way.holders;
      recorded = way.recorded;
    }

    out : g.since.pushes ≤ (refused_in g).pushes → IsOut w now
    out since = record {
      many = many;
      shared = r.puts.whole ∙ shared.whole;
      first = list.shares;
      fresh = subst (AreFresh g.markers list.shares) (sym (ap (map (λ (b : Marker). b.share)) running_is ∙ begun_shares (new_marker v) shares g.others long)) shared.fresh;
      family = r.puts.family shared.whole there;
      began = subst (All (IsNewMarker w)) (sym running_is) (All-weaker (IsNewMarker v) (IsNewMarker w) (λ b new. record { seat = new.seat; notes = new.notes })
          (begun_with (replicate (length shares) (new_marker v)) shares g.others) (begun_new v shares g.others long home.others));
      others = refl;
      refused = r.puts.refused shared.whole there (ap (λ (l : ListState). l.refused) shared.own);
      since = since;
      put = λ p at. elim (r.puts.item shared.whole there p at) [ inl never ↦ absurd (no_items p never) | inr put ↦ put ];
      marked = λ p at. way.listed p (put_listed p at);
      taken = λ none p at. absurd (omega (arith, (subst (λ l. Contains l p) took_nothing at).1));
      lone = λ note at itself. absurd (home.paired note at itself);
    }

    lent : w.lent ≡ length now.running
    lent = omega (arith, crew.lent, ap length calm, many)

    has_crew : g.since.pushes ≤ (refused_in g).pushes → CrewIsLent w now
    has_crew since = record { lent = lent; home = λ none. absurd (omega (arith, some, many, ap length none)); out = λ is. out since }

  same_notes : (refused_in now).notes ≡ (refused_in g).notes
  same_notes =
      let running : sum_by (λ (b : Marker). b.notes.refused) now.running ≡ sum_by (λ (x : NotesState). x.refused) g.others =
      ap (sum_by (λ (b : Marker). b.notes.refused)) running_is ∙ begun_refused (new_marker v) shares g.others long in
      let none : sum_by (λ (b : Marker). b.notes.refused) g.running ≡ 0 = ap (sum_by (λ (b : Marker). b.notes.refused)) calm in
      omega (arith, running, none)

  pub has_started : (shape : Shape) (types : List ObjectType) (callbacks : List ActionKind) (nodes : List Node) (may : List Bool)
      → HasMarking may (view_in shape types callbacks nodes v g) → HasMarking may (view_in shape types callbacks nodes w now)
  has_started shape types callbacks nodes may h =
      let way = way_is v g.marking g.notes h.under_way in
      let crew = crew_is v g h.crew in
      let count : (refused_in g).pushes ≡ (refused_in g).pushes + list.refused = omega (arith, shared.refused) in
      record {
        under_way = way_told w m g.notes (goes_on way crew);
        crew = crew_told w now (has_crew way crew h.pushes_told.no_fewer);
        may_is = (let is = may_is nodes v may h.may_is in may_told nodes w may (record { whole = is.whole; live = is.live; same = is.same }));
        counted = h.counted;
        pushes_told = told_then (record { told = false; count = g.since.pushes }) (pushes_in g) (pushes_in now) h.pushes_told
            (subst (λ c. TellsRefused (record { told = g.marking.overflow; count = c }) (pushes_in now)) (sym count)
            (told_shifted (refused_in g).pushes (refusals_of (record g.marking { list = list })) (refusals_of m) r.told));
        notes_told = subst (λ c. TellsRefused (record { told = false; count = g.since.notes }) (record { told = g.notes.overflow; count = c })) (sym same_notes) h.notes_told;
      }

-- ---- what is kept once the crew runs

took_first : (groups : List NotesState) → group_at (take 1 groups) 0 ≡ group_at groups 0
took_first [] = refl
took_first (x ∷ groups) = refl

took_alone : (groups : List NotesState) → drop 1 (take 1 groups) ≡ []
took_alone [] = refl
took_alone (x ∷ groups) = refl

pub grey_started : (v : SeatView) (grey kept : Grey) (m : Marking) (seats : List MarkerSeatView) (shares : List ShareState)
    → kept.marking ≡ m → kept.crew ≡ started_with grey.crew seats shares → kept.traced ≡ grey.traced → kept.found.value ≡ [] → kept.since.value ≡ grey.since.value
    → kept.earlier.value ≡ (refused_in (grey_of grey)).pushes → seats ≡ replicate grey.crew.markers (new_marker v)
    → grey_of kept ≡ started_as v (grey_of grey) shares m
grey_started v grey kept m seats shares marking crew traced found since earlier are =
    ap (λ (x : Marking). record (grey_of kept) { marking = x }) marking
    ∙ ap (λ (x : CrewState). record (grey_of kept) { marking = m; notes = group_at x.notes 0; others = drop 1 x.notes; markers = x.markers; running = x.running }) crew
    ∙ ap₂ (λ (x : NotesState) (xs : List NotesState). record (grey_of kept) {
      marking = m;
      notes = x;
      others = xs;
      markers = grey.crew.markers;
      running = begun_with seats shares (drop 1 grey.crew.notes);
    }) (took_first grey.crew.notes) (took_alone grey.crew.notes)
    ∙ ap (λ (s : List MarkerSeatView). record (grey_of kept) {
      marking = m;
      notes = group_at grey.crew.notes 0;
      others = [];
      markers = grey.crew.markers;
      running = begun_with s shares (drop 1 grey.crew.notes);
    }) are
    ∙ ap₂ (λ (n : ℕ) (l : List ℕ). record (started_as v (grey_of grey) shares m) { traced = n; found = l; since = kept.since.value; earlier = kept.earlier.value }) traced found
    ∙ ap (λ (s : RefusedCounts). record (started_as v (grey_of grey) shares m) { since = s; earlier = kept.earlier.value }) since
    ∙ ap (λ (n : ℕ). record (started_as v (grey_of grey) shares m) { earlier = n }) earlier
