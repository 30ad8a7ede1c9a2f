-- The marks of each phase, and what is kept of marking, once fields were written, and once an object was made.
use Rattle.std.proofs.Common.{true, ◌≡◌, ℕ, ◌+◌, ◌<◌, Bool, false, not, List, [], ◌∷◌, ◌++◌, length, map, refl, sym, ap, ◌∙◌, subst, inl, inr, arith, cond}
use Rattle.std.specs.List.{Contains, count_by, sum_by}
use Rattle.std.proofs.lemmas.Bool.{false_from_ne_true}
use Rattle.std.proofs.lemmas.List.Sums.{sum_by-cons, sum_by_push}
use Rattle.std.proofs.lemmas.List.Elements.{Contains-push_cases}
use Rattle.gc_graph.specs.declared.phase.Phase.{Phase}
use Rattle.gc_graph.specs.declared.phase.Phase.TheVariants.{Idle, Marking, Sweeping}
use Rattle.gc_graph.specs.State.{Node, node_at}
use Rattle.gc_graph.specs.Members.{Contains-map_some}
use Rattle.marker_core.specs.declared.states.Body.{Body}
use Rattle.marker_core.specs.Bodies.{holds, with_word, IsPlace}
use Rattle.mark_worklist.specs.declared.marking.Marking.{Marking as MarkingState}
use Rattle.page_words.specs.Seat.{SeatView, IsView, IsQuiet, rewritten}
use Rattle.page_words.specs.WrittenBodies.{same_place}
use Rattle.page_space.specs.Occupying.{Occupies}
use Rattle.marker_crew.specs.Marking.{traced_count}
use Rattle.marker_crew.specs.Notes.{NotesState}
use Rattle.atomic_pause.specs.UnderWay.{IsUnderWay}
use Rattle.atomic_pause.specs.Nodes.{place_of}
use Rattle.heap_objects.specs.Finalising.{IsSweptTo}
use Rattle.heap_objects.specs.Marking.{GreyView}
use Rattle.heap_objects.specs.Marks.{CrewIsLent, ObjectsAreAtRest, IsMayOf, HasMarking, HasMarks}
use Rattle.heap_objects.specs.Objects.{ObjectsView}
use Rattle.heap_objects.proofs.CrewStays.{crew_on}
use Rattle.heap_objects.proofs.WayChanges.{way_rewritten, rewritten_leaves, puts_same}

-- ---- phase by phase

-- what is left as it was while no marking goes on, and what becomes of marking that is under way
pub record KeepsMarks (limit : ℕ) (may after : List Bool) (o n : ObjectsView) : Type 0 where
  pub rest : ObjectsAreAtRest o → ObjectsAreAtRest n
  pub quiet : ObjectsAreAtRest o → IsQuiet o.seat → IsQuiet n.seat
  pub swept : ObjectsAreAtRest o → IsSweptTo limit o.seat → IsSweptTo limit n.seat
  pub marking : HasMarking may o → HasMarking after n

pub marks_by : (phase : Phase) (limit : ℕ) (may : List Bool) (after : Phase → List Bool) (o n : ObjectsView) → KeepsMarks limit may (after Marking) o n
    → HasMarks phase limit may o → HasMarks phase limit (after phase) n
marks_by Idle limit may after o n keeps (rest, quiet) = (keeps.rest rest, keeps.quiet rest quiet)
marks_by Marking limit may after o n keeps marking = keeps.marking marking
marks_by Sweeping limit may after o n keeps (rest, swept) = (keeps.rest rest, keeps.swept rest swept)

-- ---- field words are written

-- field words were written, and nothing else
pub record Writes (v u : SeatView) : Type 0 where
  pub way : (m : MarkingState) (x : NotesState) → IsUnderWay v m x → IsUnderWay u m x
  pub crew : (g : GreyView) → CrewIsLent v g → CrewIsLent u g
  pub may : u.may ≡ v.may
  pub on : u.on ≡ v.on
  pub count : traced_count u ≡ traced_count v
  pub quiet : IsQuiet v → IsQuiet u
  pub swept : (limit : ℕ) → IsSweptTo limit v → IsSweptTo limit u

count_places : (test : ℕ → Bool) (a w : ℕ) (bodies : List Body) → count_by (λ (b : Body). test b.place) (map (with_word a w) bodies) ≡ count_by (λ (b : Body). test b.place) bodies
count_places test a w [] = refl
count_places test a w (b ∷ bodies) =
    let one : Body → ℕ = λ c. cond (test c.place) 1 0 in
    sum_by-cons one (with_word a w b) (map (with_word a w) bodies) ∙ ap (λ p. cond (test p) 1 0 + sum_by one (map (with_word a w) bodies)) (same_place a w b)
    ∙ ap (λ n. one b + n) (count_places test a w bodies) ∙ sym (sum_by-cons one b bodies)

swept_stored : (limit : ℕ) (v : SeatView) (a w : ℕ) → IsSweptTo limit v → IsSweptTo limit (rewritten v a w)
swept_stored limit v a w swept = record {
  clear = record { marked = swept.clear.marked; traced = swept.clear.traced; dead = swept.clear.dead };
  judged = λ b there high.
      let from = Contains-map_some (with_word a w) v.bodies b there in
      let place : from.0.place ≡ b.place = sym (same_place a w from.0) ∙ ap (λ (c : Body). c.place) from.2 in
      subst (λ p. holds v.dead p ≡ not (holds v.marked p)) place (swept.judged from.0 from.1 (omega (arith, high, place)));
}

pub writes_one : (v : SeatView) (a w : ℕ) → Writes v (rewritten v a w)
writes_one v a w = record {
  way = way_rewritten v a w;
  crew = λ g. crew_on v (rewritten v a w) g g.marking (rewritten_leaves v a w) (puts_same g.marking.list (λ p. holds v.marked p ≡ true));
  may = refl;
  on = refl;
  count = count_places (holds v.traced) a w v.bodies;
  quiet = λ quiet. record { off = quiet.off; marked = quiet.marked; traced = quiet.traced; dead = quiet.dead };
  swept = λ limit. swept_stored limit v a w;
}

pub writes_then : (v u w : SeatView) → Writes v u → Writes u w → Writes v w
writes_then v u w x y = record {
  way = λ m n h. y.way m n (x.way m n h);
  crew = λ g h. y.crew g (x.crew g h);
  may = y.may ∙ x.may;
  on = y.on ∙ x.on;
  count = y.count ∙ x.count;
  quiet = λ h. y.quiet (x.quiet h);
  swept = λ limit h. y.swept limit (x.swept limit h);
}

-- ---- what may be kept

pub may_same : (old new : List Node) (v w : SeatView) (may : List Bool) → length new ≡ length old → ((n : ℕ) → place_of new n ≡ place_of old n)
    → ((n : ℕ) → (node_at new n).life ≡ (node_at old n).life) → w.may ≡ v.may → IsMayOf old v may → IsMayOf new w may
may_same old new v w may long place life same is = record {
  whole = is.whole ∙ sym long;
  live = λ n in_may. life n ∙ is.live n in_may;
  same = λ n live. ap (λ l. holds l (place_of new n)) same ∙ ap (holds v.may) (place n) ∙ is.same n (sym (life n) ∙ live);
}

-- ---- an object is made

-- none but bodies' places are traced
count_new : (test : ℕ → Bool) (bodies : List Body) (b : Body) → test b.place ≡ false
    → count_by (λ (c : Body). test c.place) (bodies ++ b ∷ []) ≡ count_by (λ (c : Body). test c.place) bodies
count_new test bodies b none =
    let one : Body → ℕ = λ c. cond (test c.place) 1 0 in
    let zero_more : one b ≡ 0 = ap (λ t. cond t 1 0) none in
    omega (arith, sum_by_push one bodies b, zero_more)

pub traced_made : (v w : SeatView) (b : Body) → IsView v → (IsPlace v.bodies b.place → ⊥) → Occupies v w b → traced_count w ≡ traced_count v
traced_made v w b view beside is =
    ap (λ l. count_by (λ (c : Body). holds l c.place) w.bodies) is.traced ∙ ap (count_by (λ (c : Body). holds v.traced c.place)) is.bodies
    ∙ count_new (holds v.traced) v.bodies b (false_from_ne_true (holds v.traced b.place) (λ traced. beside (view.traced_are_bodies b.place traced)))

pub quiet_made : (v w : SeatView) (b : Body) → Occupies v w b → IsQuiet v → IsQuiet w
quiet_made v w b is quiet = record {
  off = is.on ∙ quiet.off;
  marked = is.marked ∙ quiet.marked;
  traced = is.traced ∙ quiet.traced;
  dead = is.dead ∙ quiet.dead;
}

-- where the place lies below the address up to which all is swept
pub swept_made : (limit : ℕ) (v w : SeatView) (b : Body) → Occupies v w b → b.place < limit → IsSweptTo limit v → IsSweptTo limit w
swept_made limit v w b is low swept = record {
  clear = record {
    marked = λ a below. ap (λ l. holds l a) is.marked ∙ swept.clear.marked a below;
    traced = λ a below. ap (λ l. holds l a) is.traced ∙ swept.clear.traced a below;
    dead = λ a below. ap (λ l. holds l a) is.dead ∙ swept.clear.dead a below;
  };
  judged = λ c there high. elim (Contains-push_cases v.bodies b c (subst (λ bs. Contains bs c) is.bodies there)) [
    | inl old ↦ ap (λ l. holds l c.place) is.dead ∙ swept.judged c old high ∙ sym (ap (λ l. not (holds l c.place)) is.marked)
    | inr this ↦ absurd (omega (arith, low, high, ap (λ (d : Body). d.place) this))
  ];
}
