-- A step of a marker's seat keeps the rule of the table, and tells its play.
use Rattle.std.proofs.Common.{◌≡◌, ℕ, zero, suc, ◌+◌, ◌<◌, ◌≤◌, List, [], ◌∷◌, map, length, get_or, set, true, false, cond, refl, sym, ap, ◌∙◌, subst, inl, inr, arith}
use mathlib.Core.Option.{some, some-injective, some-ne-none}
use lib.ListN.{get_elem?}
use Rattle.std.proofs.lemmas.Bool.{cases_lt, cond-false, true≢false}
use Rattle.std.proofs.lemmas.List.{map-set, get_or-set_same, get_or_past}
use Rattle.atomic_table.specs.Table.{State, Me, keeps, Allows}
use Rattle.atomic_table.specs.Seated.{TableId}
use Rattle.marker_core.specs.declared.states.MarkerView.{MarkerView}
use Rattle.marker_core.specs.declared.states.MutatorView.{MutatorView}
use Rattle.marker_core.specs.Core.{IsCoreOk}
use Rattle.marker_core.specs.Idle.{idle_view}
use Rattle.marker_core.specs.Layout.{stop_at}
use Rattle.marker_core.specs.Laws.{StepsKeep}
use Rattle.marker_core.specs.MarkerFacts.{MarkerWordsMayBeFound, IsMarkerOk, MarkersAreOk}
use Rattle.marker_core.specs.MarkerSeats.{seat_beside}
use Rattle.marker_core.specs.Seats.{core_of}
use Rattle.marker_core.specs.Views.{spent_view, view_at}
use Rattle.page_words.specs.Heaps.{AreWords}
use Rattle.page_words.specs.MarkerRule.{marker_side_of, marked_to, out_view, IsSureMarker, IsMarker, marker_seat_view, IsMarkerStepOf, MarkerFinds}
use Rattle.page_words.specs.Markers.{MarkerSeatView}
use Rattle.page_words.specs.Rule.{RuleView, side_of, owner_view, marker_view, IsCore}
use Rattle.page_words.specs.Seat.{Heap}

-- ---- a marker's seat is not the first

-- the mutator's view beside a marker's
abbrev pub owner_beside : RuleView → MutatorView → RuleView
owner_beside w m = record { owner = true; count = w.count; types = w.types; mutator = m; marker = spent_view }

-- the rule, told of a marker's seat with this view
pub record Lent (s : State (Unit {0}) RuleView) (id : ℕ) (w : RuleView) : Type 0 where
  pub mutator : MutatorView
  pub markers : List MarkerView
  pub number : ℕ
  pub later : id ≡ suc number
  pub views : s.views ≡ owner_beside w mutator ∷ map (marker_view w) markers
  pub ok : IsCoreOk (core_of (seat_beside (marker_side_of w) mutator) s.words markers)
  pub there : view_at markers number ≡ w.marker

-- the view of a seat that is not the first is a marker's
pub marker_at : (v : RuleView) (markers : List MarkerView) (k : ℕ) (w : RuleView) → get_elem? (map (marker_view v) markers) k ≡ some w
    → marker_view v (view_at markers k) ≡ w
marker_at v [] k w e = absurd (some-ne-none w (sym e))
marker_at v (m ∷ markers) zero w e = some-injective (marker_view v m) w e
marker_at v (m ∷ markers) (suc k) w e = marker_at v markers k w e

number_at : (v : RuleView) (markers : List MarkerView) (id : ℕ) (w : RuleView) → get_elem? (owner_view v ∷ map (marker_view v) markers) id ≡ some w
    → w ≡ out_view w → (k : ℕ) × (id ≡ suc k) × (marker_view v (view_at markers k) ≡ w)
number_at v markers zero w e out =
    absurd (true≢false (ap (λ (x : RuleView). x.owner) (some-injective (owner_view v) w e) ∙ ap (λ (x : RuleView). x.owner) out))
number_at v markers (suc k) w e out = (k, refl, marker_at v markers k w e)

-- a view that is not spent tells count and types
counted : (v w : RuleView) (m : MarkerView) → marker_view v m ≡ w → m.spent ≡ false → v.count ≡ w.count
counted v w m same out = sym (cond-false m.spent 0 v.count out) ∙ ap (λ (x : RuleView). x.count) same

typed : (v w : RuleView) (m : MarkerView) → marker_view v m ≡ w → m.spent ≡ false → v.types ≡ w.types
typed v w m same out = sym (cond-false m.spent [] v.types out) ∙ ap (λ (x : RuleView). x.types) same

same_owner : (v w : RuleView) → v.count ≡ w.count → v.types ≡ w.types → owner_view v ≡ owner_beside w v.mutator
same_owner v w count types =
    ap (λ n. record { owner = true; count = n; types = v.types; mutator = v.mutator; marker = spent_view }) count
    ∙ ap (λ t. record { owner = true; count = w.count; types = t; mutator = v.mutator; marker = spent_view }) types

pub lent : (s : State (Unit {0}) RuleView) → IsCore s → (id : ℕ) (w : RuleView) → get_elem? s.views id ≡ some w → w ≡ out_view w
    → w.marker.spent ≡ false → Lent s id w
lent s (v, markers, views, ok) id w at owns out =
    let here = number_at v markers id w (subst (λ (vs : List RuleView). get_elem? vs id ≡ some w) views at) owns in
    let m : MarkerView = view_at markers here.0 in
    let there : m ≡ w.marker = ap (λ (x : RuleView). x.marker) here.2 in
    let lives : m.spent ≡ false = ap (λ (x : MarkerView). x.spent) there ∙ out in
    let same : owner_view v ≡ owner_beside w v.mutator = same_owner v w (counted v w m here.2 lives) (typed v w m here.2 lives) in
    record {
      mutator = v.mutator;
      markers = markers;
      number = here.0;
      later = here.1;
      views = views ∙ ap (λ (x : RuleView). x ∷ map (marker_view x) markers) same;
      ok = subst (λ (x : RuleView). IsCoreOk (core_of (side_of x) s.words markers)) same ok;
      there = there;
    }

-- the views after one that is not the first has changed
pub later_set : (vs : List RuleView) (id number : ℕ) (f : MarkerView → RuleView) (first w : RuleView) (m : MarkerView) (markers : List MarkerView)
    → vs ≡ first ∷ map f markers → id ≡ suc number → w ≡ f m → set vs id w ≡ first ∷ map f (set markers number m)
later_set vs id number f first w m markers e later same =
    ap (λ (xs : List RuleView). set xs id w) e ∙ ap (λ k. set (first ∷ map f markers) k w) later
    ∙ ap (λ x. first ∷ set (map f markers) number x) same
    ∙ ap (λ xs. first ∷ xs) (sym (map-set f markers number m))

-- a view that is not spent is there
number_is_there : (markers : List MarkerView) (number : ℕ) → (view_at markers number).spent ≡ false → number < length markers
number_is_there markers number out = elim (cases_lt number (length markers)) [
  | inl below ↦ below
  | inr past ↦ absurd (true≢false (sym (ap (λ (m : MarkerView). m.spent) (get_or_past markers number spent_view past)) ∙ out))
]

-- ---- what a step of a marker does

module _ (keep : StepsKeep) (law : MarkerWordsMayBeFound) (table : TableId) (slots id at : ℕ) (me : Me (Unit {0}) RuleView) (writes : ℕ → ℕ) (next : ℕ → MarkerView)
    (mine : IsMarker me) (does : IsMarkerStepOf (marker_seat_view table me.0) at writes next) where
  -- the view that comes after is a marker's
  marker_is : (m : MarkerView) → m.spent ≡ false → marked_to me.0 m ≡ marker_view me.0 m
  marker_is m out =
      ap (λ (v : RuleView). marked_to v m) mine.owns
      ∙ ap (λ n. record { owner = false; count = n; types = me.0.types; mutator = idle_view; marker = m }) (sym (cond-false m.spent 0 me.0.count out))
      ∙ ap (λ t. record { owner = false; count = cond m.spent 0 me.0.count; types = t; mutator = idle_view; marker = m })
      (sym (cond-false m.spent [] me.0.types out))

  pub marker_finds : Allows IsCore slots id me at writes (MarkerFinds me.0 at next)
  marker_finds s is homes here small =
      let o : Lent s id me.0 = lent s is id me.0 here mine.owns mine.sure.out in
      let found : ℕ = get_or s.words at 0 in
      let now : MarkerView = next found in
      let out : now.spent ≡ false = does.out mine.sure.out found in
      let words : List ℕ = set s.words at (writes found) in
      let markers : List MarkerView = set o.markers o.number now in
      let before = core_of (seat_beside (marker_side_of me.0) o.mutator) s.words o.markers in
      let after = core_of (seat_beside (marker_side_of me.0) o.mutator) (set s.words at (does.makes found)) markers in
      let kept : IsCoreOk after =
      keep before after (does.step o.number) o.ok (does.law o.mutator s.words o.markers o.number o.ok o.there mine.sure.out) in
      let ok : IsCoreOk (core_of (seat_beside (marker_side_of me.0) o.mutator) words markers) =
      subst (λ n. IsCoreOk (core_of (seat_beside (marker_side_of me.0) o.mutator) (set s.words at n) markers)) (does.same found small) kept in
      let lives : (view_at o.markers o.number).spent ≡ false = ap (λ (m : MarkerView). m.spent) o.there ∙ mine.sure.out in (
        marked_to me.0 now,
        keeps,
        tt,
        (
          owner_beside me.0 o.mutator,
          markers,
          later_set s.views id o.number (marker_view me.0) (owner_beside me.0 o.mutator) (marked_to me.0 now) now o.markers o.views o.later
              (marker_is now out),
          ok,
        ),
        record {
          told = law (marker_side_of me.0) o.mutator s.words o.markers o.number at o.ok o.there mine.sure.out;
          marker = record {
            empty = mine.empty;
            owns = ap (λ (v : RuleView). marked_to v now) mine.owns;
            sure = record {
              count = mine.sure.count;
              out = out;
              mutator = o.mutator;
              words = words;
              markers = markers;
              number = o.number;
              ok = ok;
              there = get_or-set_same o.markers o.number now spent_view (number_is_there o.markers o.number lives);
            };
          };
          view = refl;
        },
      )

-- ---- what is true of a marker's view

pub marker_is_ok : MarkersAreOk → (v : RuleView) → IsSureMarker v → IsMarkerOk (marker_side_of v)
marker_is_ok law v sure = law (marker_side_of v) sure.mutator sure.words sure.markers sure.number sure.ok sure.there sure.out

-- ---- seat and table fit

pub same_table_as : (t u : TableId) (v : RuleView) (count : ℕ) (seen : MarkerSeatView) (heap : Heap) → marker_seat_view t v ≡ seen → seen.heap ≡ heap
    → record { count = count; table = u } ≡ heap → t ≡ u
same_table_as t u v count seen heap is fits own =
    ap (λ (s : MarkerSeatView). s.heap.table) is ∙ ap (λ (h : Heap). h.table) fits ∙ sym (ap (λ (h : Heap). h.table) own)

pub within_table_as : (u : TableId) (count at : ℕ) (seen : MarkerSeatView) (heap : Heap) → AreWords count u.words → seen.heap ≡ heap
    → record { count = count; table = u } ≡ heap → at ≤ stop_at seen.count → at < u.words
within_table_as u count at seen heap are fits own low =
    let same : count ≡ seen.count = ap (λ (h : Heap). h.count) own ∙ sym (ap (λ (h : Heap). h.count) fits) in
    let top : u.words ≡ stop_at seen.count + 1 = are.words ∙ ap (λ n. stop_at n + 1) same in
    omega (arith, top)
