-- The objects once marking has begun from their roots.
use Rattle.std.proofs.Common.{◌≡◌, ℕ, ◌<◌, true, false, List, [], ◌∷◌, length, map, refl, sym, ap, ◌∙◌, subst, arith, cond}
use Rattle.std.proofs.lemmas.Bool.{true≢false}
use Rattle.std.proofs.lemmas.List.Sums.{sum_by-cons}
use Rattle.std.specs.List.{Contains, count_by}
use Rattle.gc_graph.specs.declared.action.ActionKind.{ActionKind}
use Rattle.gc_graph.specs.Reach.{Reach, ReachIsLeast}
use Rattle.gc_graph.specs.State.{Setup, ObjectType, Node, graph_of, IsLive}
use Rattle.mark_worklist.specs.declared.marking.Marking.{Marking}
use Rattle.mark_worklist.specs.Told.{told_same}
use Rattle.mark_worklist.specs.Refusals.{TellsRefused, refusals_of}
use Rattle.marker_core.specs.declared.states.Body.{Body}
use Rattle.marker_core.specs.Bodies.{holds}
use Rattle.marker_core.specs.Laws.{IsLeastOver}
use Rattle.mark_worklist.specs.Shares.{ShareState}
use Rattle.page_words.specs.Roles.{kind_lists}
use Rattle.page_words.specs.Seat.{SeatView, IsView, IsQuiet, IsAlone, begun}
use Rattle.atomic_pause.specs.Fixpoint.{ListsMarks, Mode}
use Rattle.marker_crew.specs.Marking.{traced_count}
use Rattle.atomic_pause.specs.UnderWay.{IsUnderWay}
use Rattle.atomic_pause.specs.UnderWayStays.{under_way_marked}
use Rattle.atomic_pause.specs.AmongNodes.{IsAmong}
use Rattle.atomic_pause.specs.Nodes.{place_of, IsHeld, AreOfValid}
use Rattle.heap_objects.specs.Marking.{GreyView, IsClear, refused_in, notes_in}
use Rattle.heap_objects.specs.Marks.{IsMayOf, IsHome, IsOut, HasMarking}
use Rattle.heap_objects.proofs.CrewStays.{crew_told}
use Rattle.heap_objects.proofs.MarksStored.{view_in}
use Rattle.heap_objects.proofs.ToldSums.{told_shifted}
use Rattle.heap_objects.proofs.Unlooked.{way_told, may_told}
use Rattle.heap_objects.proofs.WeakMay.{begun_is_may}

-- the marking state, from which it goes on
abbrev pub raised : Marking → Marking
raised m = record m { on = true }

none_traced : (bodies : List Body) → count_by (λ (b : Body). holds [] b.place) bodies ≡ 0
none_traced [] = refl
none_traced (b ∷ bodies) = omega (arith, sum_by-cons (λ (c : Body). cond (holds [] c.place) 1 0) b bodies, none_traced bodies)

module _ (setup : Setup) (nodes : List Node) (v u w : SeatView) (g : GreyView) (m : Marking) (roots : List ℕ) (view : IsView v) (valid : AreOfValid setup nodes) (held : IsHeld nodes v)
    (known : v.types ≡ setup.types) (law : ReachIsLeast) (quiet : IsQuiet v) (alone : IsAlone v) (clear : IsClear g) (live : (n : ℕ) → IsAmong roots n → IsLive nodes n)
    (begins : u ≡ begun v (map (place_of nodes) roots)) (may : IsLeastOver (kind_lists v.types) v.bodies (map (place_of nodes) roots) u.may)
    (marks : ListsMarks u (raised g.marking) w m) (noted : w.noted ≡ u.noted) where
  -- nothing is marked yet
  way_begun : IsUnderWay (begun v (map (place_of nodes) roots)) (raised g.marking) g.notes
  way_begun = record {
    on = refl;
    told = refl;
    still = record { no_hand = alone.no_hand; no_pending = alone.no_pending };
    listed = λ p there. absurd (omega (arith, (subst (λ l. Contains l p) clear.none_listed there).1));
    grey = λ fine unrefused p marked white. absurd (true≢false (sym marked ∙ ap (λ l. holds l p) quiet.marked));
    unshared = λ none fine p marked white. absurd (true≢false (sym marked ∙ ap (λ l. holds l p) quiet.marked));
    noted = λ note there. absurd (omega (arith, (subst (λ l. Contains l note) clear.own.none_noted there).1));
    holders = λ note there. absurd (omega (arith, (subst (λ l. Contains l note) clear.own.none_noted there).1));
    recorded = λ fine pair there. absurd (omega (arith, (subst (λ l. Contains l pair) (view.none_noted quiet.off) there).1));
  }

  way : IsUnderWay w m g.notes
  way = under_way_marked u w (raised g.marking) m g.notes marks noted (subst (λ (x : SeatView). IsUnderWay x (raised g.marking) g.notes) (sym begins) way_begun)

  kept : IsMayOf nodes w (Reach (graph_of nodes) roots)
  kept = begun_is_may setup nodes v view valid held quiet.dead law w roots live
      (subst (IsLeastOver (kind_lists setup.types) v.bodies (map (place_of nodes) roots)) (sym (ap (λ (x : SeatView). x.may) marks.view))
      (subst (λ (types : List ObjectType). IsLeastOver (kind_lists types) v.bodies (map (place_of nodes) roots) u.may) known may))

  traced : traced_count w ≡ 0
  traced =
      ap (λ l. count_by (λ (b : Body). holds l b.place) w.bodies) (marks.traced ∙ ap (λ (x : SeatView). x.traced) begins ∙ quiet.traced) ∙ none_traced w.bodies

  -- what is kept of marking once it has begun
  abbrev now : GreyView
  now = record g { marking = m; traced = 0; since = refused_in g }

  -- a list without shares still has none
  unshared_now : g.marking.list.shares ≡ [] → m.list.shares ≡ []
  unshared_now none = empty_of m.list.shares (ap (λ (o : Mode). o.shares) marks.mode ∙ ap length none)
    where
      empty_of : (shares : List ShareState) → length shares ≡ 0 → shares ≡ []
      empty_of [] none = refl
      empty_of (s ∷ shares) none = absurd (omega (arith, none))

  home : IsHome now
  home = record {
    whole = ap (λ (o : Mode). o.whole) marks.mode ∙ clear.whole;
    unshared = λ none. unshared_now (clear.unshared none);
    paired = λ note there itself. absurd (omega (arith, (subst (λ l. Contains l note) clear.own.none_noted there).1));
    others = clear.others;
    many = clear.many;
  }

  none_out : 0 < length g.running → IsOut w now
  none_out some = absurd (omega (arith, some, ap length clear.none_running))

  lent : w.lent ≡ length g.running
  lent = ap (λ (x : SeatView). x.lent) marks.view ∙ ap (λ (x : SeatView). x.lent) begins ∙ alone.none_lent ∙ sym (ap length clear.none_running)

  pub has_begun : (callbacks : List ActionKind) → HasMarking (Reach (graph_of nodes) roots) (view_in setup.shape setup.types callbacks nodes w now)
  has_begun callbacks = record {
    under_way = way_told w m g.notes way;
    crew = crew_told w now (record { lent = lent; home = λ none. home; out = none_out });
    may_is = may_told nodes w (Reach (graph_of nodes) roots) kept;
    counted = traced;
    pushes_told = told_shifted g.earlier (record { told = false; count = g.marking.list.refused }) (refusals_of m)
        (subst (λ b. TellsRefused (record { told = b; count = g.marking.list.refused }) (refusals_of m)) clear.unrefused marks.told);
    notes_told = subst (λ b. TellsRefused (record { told = b; count = (refused_in g).notes }) (notes_in g)) clear.own.unrefused (told_same (notes_in g));
  }
