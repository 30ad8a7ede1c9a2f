-- A step of the mutator's seat keeps the rule of the table, and tells its play.
use Rattle.std.proofs.Common.{◌≡◌, ℕ, zero, suc, ◌+◌, ◌^◌, ◌<◌, ◌≤◌, List, [], ◌∷◌, map, get_or, set, false, refl, sym, ap, ◌∙◌, subst, arith}
use mathlib.Core.Option.{some, some-injective, some-ne-none}
use lib.ListN.{get_elem?}
use Rattle.std.proofs.lemmas.Bool.{true≢false}
use Rattle.atomic_table.specs.Table.{State, Me, keeps, Allows}
use Rattle.atomic_table.specs.Seated.{TableId}
use Rattle.marker_core.specs.declared.states.MarkerView.{MarkerView}
use Rattle.marker_core.specs.declared.states.MutatorView.{MutatorView}
use Rattle.marker_core.specs.Core.{IsCoreOk}
use Rattle.marker_core.specs.Laws.{StepsKeep}
use Rattle.marker_core.specs.SeatFacts.{WordsMayBeFound, ViewsAreOk}
use Rattle.marker_core.specs.Seats.{core_of}
use Rattle.page_words.specs.Rule.{RuleView, side_of, turned_to, owner_view, marker_view, IsCore, IsOwner, seat_view, IsStepOf, Turns, Finds}
use Rattle.page_words.specs.Heaps.{AreWords}
use Rattle.page_words.specs.Seat.{Heap, SeatView}
use Rattle.marker_core.specs.Layout.{stop_at}
use Rattle.page_words.proofs.ViewFacts.{view_is}

-- ---- the mutator's seat is the first

-- the rule, told of the seat with this view
pub record Owned (s : State (Unit {0}) RuleView) (id : ℕ) (v : RuleView) : Type 0 where
  pub markers : List MarkerView
  pub first : id ≡ 0
  pub views : s.views ≡ v ∷ map (marker_view v) markers
  pub ok : IsCoreOk (core_of (side_of v) s.words markers)

-- the seats of markers are not the mutator's
marker_is_other : (v : RuleView) (markers : List MarkerView) (k : ℕ) (w : RuleView) → get_elem? (map (marker_view v) markers) k ≡ some w → w.owner ≡ false
marker_is_other v [] k w e = absurd (some-ne-none w (sym e))
marker_is_other v (m ∷ markers) zero w e = ap (λ (x : RuleView). x.owner) (sym (some-injective (marker_view v m) w e))
marker_is_other v (m ∷ markers) (suc k) w e = marker_is_other v markers k w e

found_at : (v : RuleView) (markers : List MarkerView) (id : ℕ) (w : RuleView) → get_elem? (owner_view v ∷ map (marker_view v) markers) id ≡ some w
    → w ≡ owner_view w → (id ≡ 0) × (owner_view v ≡ w)
found_at v markers zero w e owns = (refl, some-injective (owner_view v) w e)
found_at v markers (suc k) w e owns =
    absurd (true≢false (sym (ap (λ (x : RuleView). x.owner) owns) ∙ marker_is_other v markers k w e))

pub owned : (s : State (Unit {0}) RuleView) → IsCore s → (id : ℕ) (w : RuleView) → get_elem? s.views id ≡ some w → w ≡ owner_view w → Owned s id w
owned s (v, markers, views, ok) id w at owns =
    let here = found_at v markers id w (subst (λ (vs : List RuleView). get_elem? vs id ≡ some w) views at) owns in
    record {
      markers = markers;
      first = here.0;
      views = views ∙ ap (λ (x : RuleView). x ∷ map (marker_view x) markers) here.1;
      ok = subst (λ (x : RuleView). IsCoreOk (core_of (side_of x) s.words markers)) here.1 ok;
    }

-- the views after the first has changed
first_set : (vs : List RuleView) (id : ℕ) (v w : RuleView) (rest : List RuleView) → vs ≡ v ∷ rest → id ≡ 0 → set vs id w ≡ w ∷ rest
first_set vs id v w rest e first = ap (λ (xs : List RuleView). set xs id w) e ∙ ap (λ k. set (v ∷ rest) k w) first

-- ---- what a step does

module _ (keep : StepsKeep) (views_ok : ViewsAreOk) (table : TableId) (slots id at : ℕ) (me : Me (Unit {0}) RuleView) (writes : ℕ → ℕ) (next : ℕ → MutatorView)
    (mine : IsOwner me) (does : IsStepOf (seat_view table me.0) at writes next) where
  -- the state that comes after
  after_step : (words : List ℕ) (markers : List MarkerView) → IsCoreOk (core_of (side_of me.0) words markers) → get_or words at 0 < 2 ^ 64
      → IsCoreOk (core_of (side_of (turned_to me.0 (next (get_or words at 0)))) (set words at (writes (get_or words at 0))) markers)
  after_step words markers ok small =
      let found : ℕ = get_or words at 0 in
      subst (λ n. IsCoreOk (core_of (side_of (turned_to me.0 (next found))) (set words at n) markers)) (does.same found small)
      (keep (core_of (side_of me.0) words markers)
      (core_of (side_of (turned_to me.0 (next found))) (set words at (does.makes found)) markers) does.step ok
      (does.law words markers ok))

  owner_after : (words : List ℕ) (markers : List MarkerView) (m : MutatorView) → IsCoreOk (core_of (side_of (turned_to me.0 m)) words markers)
      → (m.on ≡ false → m.noted ≡ []) → IsOwner (turned_to me.0 m, me.1)
  owner_after words markers m ok none = record {
    empty = mine.empty;
    owns = ap (λ (v : RuleView). turned_to v m) mine.owns;
    sure = record { count = mine.sure.count; words = words; markers = markers; ok = ok; none_noted = none };
  }

  none_noted_after : (n : ℕ) → (next n).on ≡ false → (next n).noted ≡ []
  none_noted_after = does.quiet (view_is views_ok table me.0 mine.sure)

  views_after : (s : State (Unit {0}) RuleView) → Owned s id me.0 → (m : MutatorView) → (markers : List MarkerView)
      → s.views ≡ me.0 ∷ map (marker_view me.0) markers → id ≡ 0
      → set s.views id (turned_to me.0 m) ≡ owner_view (turned_to me.0 m) ∷ map (marker_view (turned_to me.0 m)) markers
  views_after s o m markers views first =
      first_set s.views id me.0 (turned_to me.0 m) (map (marker_view me.0) markers) views first
      ∙ ap (λ (v : RuleView). turned_to v m ∷ map (marker_view me.0) markers) mine.owns

  pub turns : Allows IsCore slots id me at writes (λ n after. Turns me.0 (next n) after)
  turns s is homes here small =
      let o : Owned s id me.0 = owned s is id me.0 here mine.owns in
      let found : ℕ = get_or s.words at 0 in
      let ok = after_step s.words o.markers o.ok small in (
        turned_to me.0 (next found),
        keeps,
        tt,
        (turned_to me.0 (next found), o.markers, views_after s o (next found) o.markers o.views o.first, ok),
        record { owner = owner_after (set s.words at (writes found)) o.markers (next found) ok (none_noted_after found); view = refl },
      )

  pub finds : WordsMayBeFound → Allows IsCore slots id me at writes (Finds me.0 at next)
  finds law s is homes here small =
      let o : Owned s id me.0 = owned s is id me.0 here mine.owns in
      let found : ℕ = get_or s.words at 0 in
      let ok = after_step s.words o.markers o.ok small in (
        turned_to me.0 (next found),
        keeps,
        tt,
        (turned_to me.0 (next found), o.markers, views_after s o (next found) o.markers o.views o.first, ok),
        record {
          told = law (side_of me.0) s.words o.markers at o.ok;
          turns = record { owner = owner_after (set s.words at (writes found)) o.markers (next found) ok (none_noted_after found); view = refl };
        },
      )

-- ---- seat and table fit

pub same_table : (t u : TableId) (v : RuleView) (count : ℕ) (seen : SeatView) (heap : Heap) → seat_view t v ≡ seen → seen.heap ≡ heap
    → record { count = count; table = u } ≡ heap → t ≡ u
same_table t u v count seen heap is fits own = ap (λ (s : SeatView). s.heap.table) is ∙ ap (λ (h : Heap). h.table) fits ∙ sym (ap (λ (h : Heap). h.table) own)

pub within_table : (u : TableId) (count at : ℕ) (seen : SeatView) (heap : Heap) → AreWords count u.words → seen.heap ≡ heap → record { count = count; table = u } ≡ heap
    → at ≤ stop_at seen.count → at < u.words
within_table u count at seen heap are fits own low =
    let same : count ≡ seen.count = ap (λ (h : Heap). h.count) own ∙ sym (ap (λ (h : Heap). h.count) fits) in
    let top : u.words ≡ stop_at seen.count + 1 = are.words ∙ ap (λ n. stop_at n + 1) same in
    omega (arith, top)
