-- The objects after one was made: the marks of each phase.
use Rattle.std.proofs.Common.{◌≡◌, ℕ, ◌<◌, Bool, true, false, List, [], ◌∷◌, ◌++◌, length, refl, sym, ap, ◌∙◌, subst, inl, inr, arith, cond}
use Rattle.std.specs.List.{Contains}
use Rattle.std.proofs.lemmas.Bool.{true≢false, cases_Bool, cases_lt, false_from_ne_true}
use Rattle.std.proofs.lemmas.List.{length_push, get_or_append_left, get_or_push, get_or_past}
use Rattle.std.proofs.lemmas.List.Elements.{Contains-append_left, Contains-append_right}
use Rattle.gc_graph.specs.Members.{Contains-head, pushed_is_held}
use Rattle.gc_graph.specs.declared.action.ActionKind.{ActionKind}
use Rattle.gc_graph.specs.declared.phase.Phase.{Phase}
use Rattle.gc_graph.specs.Graph.{has}
use Rattle.gc_graph.specs.May.{may_with_new}
use Rattle.gc_graph.specs.NodeNumbers.{there_below}
use Rattle.gc_graph.specs.State.{Shape, ObjectType, Node, node_at, IsLive}
use Rattle.gc_graph.specs.State.Life.{Live}
use Rattle.marker_core.specs.declared.states.Body.{Body}
use Rattle.marker_core.specs.Bodies.{holds, IsPlace}
use Rattle.page_words.specs.BodyPlaces.{same_body}
use Rattle.page_words.specs.Seat.{SeatView, IsView}
use Rattle.page_space.specs.Occupying.{Occupies, IsNewNumber}
use Rattle.atomic_pause.specs.Nodes.{place_of, bodies_of}
use Rattle.atomic_pause.specs.NodePlaces.{live_is_there, node_body}
use Rattle.heap_objects.specs.Marking.{GreyView}
use Rattle.heap_objects.specs.Marks.{IsMayOf, HasMarks}
use Rattle.heap_objects.specs.NewNodes.{node-old, node-new, place-old}
use Rattle.heap_objects.proofs.MarksKept.{KeepsMarks, marks_by, traced_made, quiet_made, swept_made}
use Rattle.heap_objects.proofs.MarksStored.{view_in}
use Rattle.heap_objects.proofs.CrewStays.{crew_on, crew_is, crew_told}
use Rattle.heap_objects.proofs.Unlooked.{quiet_is, quiet_told, swept_is, swept_told, way_is, way_told, may_is, may_told}
use Rattle.heap_objects.proofs.WayChanges.{held_push, push_holds, way_made, made_leaves, puts_same}

-- ---- where the new object lies, none lay

module _ (v w : SeatView) (b : Body) (after : IsView w) (is : Occupies v w b) (fresh : IsNewNumber v b.serial) where
  beside : IsPlace v.bodies b.place → ⊥
  beside (c, there, at) =
      let old : Contains w.bodies c = subst (λ bs. Contains bs c) (sym is.bodies) (Contains-append_left v.bodies (b ∷ []) c there) in
      let new : Contains w.bodies b = subst (λ bs. Contains bs b) (sym is.bodies) (Contains-append_right v.bodies (b ∷ []) b (Contains-head b [])) in
      fresh c there (ap (λ (d : Body). d.serial) (same_body w c b after old new at))

  -- ---- what may be kept

  module _ (nodes : List Node) (x : Node) (may : List Bool) (on : v.on ≡ true) (held : v.bodies ≡ bodies_of nodes) (at : x.place ≡ b.place) (alive : x.life ≡ Live) (is_may : IsMayOf nodes v may) where
    kept : w.may ≡ v.may ++ b.place ∷ []
    kept = is.may ∙ ap (λ t. cond t (v.may ++ b.place ∷ []) v.may) on

    old_node : (n : ℕ) → n < length nodes → IsLive nodes n → holds w.may (place_of nodes n) ≡ has may n
    old_node n low live =
        let place : ℕ = place_of nodes n in
        ap (λ l. holds l place) kept ∙ elim (cases_Bool (has may n)) [
          | inl in_may ↦ push_holds v.may b.place place (is_may.same n live ∙ in_may) ∙ sym in_may
          | inr not_in ↦
              false_from_ne_true (holds (v.may ++ b.place ∷ []) place) (λ held_now. elim (held_push v.may b.place place held_now) [
                | inl before ↦ true≢false (sym before ∙ is_may.same n live ∙ not_in)
                | inr same ↦ beside (subst (IsPlace v.bodies) (sym same) (_, node_body nodes v n held (live_is_there nodes n live), refl))
              ]) ∙ sym not_in
        ]

    -- each member of the set and one more is old, or the new one
    live_made : (n : ℕ) → has (may ++ true ∷ []) n ≡ true → IsLive (nodes ++ x ∷ []) n
    live_made n in_may = elim (cases_lt n (length may)) [
      | inl low ↦
          (let live : IsLive nodes n = is_may.live n (sym (get_or_append_left may (true ∷ []) false n low) ∙ in_may) in
          ap (λ (y : Node). y.life) (node-old nodes x n (omega (arith, low, is_may.whole))) ∙ live)
      | inr high ↦ elim (cases_lt n (length (may ++ true ∷ []))) [
        | inl last ↦
            (let end : n ≡ length nodes = omega (arith, high, last, is_may.whole, length_push may true) in
            ap (λ k. (node_at (nodes ++ x ∷ []) k).life) end ∙ ap (λ (y : Node). y.life) (node-new nodes x) ∙ alive)
        | inr past ↦ absurd (true≢false (sym in_may ∙ get_or_past (may ++ true ∷ []) n false past))
      ]
    ]

    pub may_made : IsMayOf (nodes ++ x ∷ []) w (may ++ true ∷ [])
    may_made = record {
      whole = omega (arith, length_push may true, length_push nodes x, is_may.whole);
      live = live_made;
      same = λ n live. elim (cases_lt n (length nodes)) [
        | inl low ↦
            (let before : IsLive nodes n = sym (ap (λ (y : Node). y.life) (node-old nodes x n low)) ∙ live in
            ap (holds w.may) (place-old nodes x n low) ∙ old_node n low before ∙ sym (get_or_append_left may (true ∷ []) false n (omega (arith, low, is_may.whole))))
        | inr high ↦
            (let below : n < length (nodes ++ x ∷ []) = there_below (nodes ++ x ∷ []) n (live_is_there (nodes ++ x ∷ []) n live) in
            let last : n ≡ length nodes = omega (arith, below, length_push nodes x, high) in
            let end : n ≡ length may = omega (arith, last, is_may.whole) in
            let here : place_of (nodes ++ x ∷ []) n ≡ b.place = ap (place_of (nodes ++ x ∷ [])) last ∙ ap (λ (y : Node). y.place) (node-new nodes x) ∙ at in
            ap (holds w.may) here ∙ ap (λ l. holds l b.place) kept ∙ pushed_is_held v.may b.place ∙ sym (get_or_push may true false n (sym end)))
      ];
    }

-- ---- the marks

module _ (shape left : Shape) (types : List ObjectType) (callbacks : List ActionKind) (nodes : List Node) (x : Node) (v w : SeatView) (b : Body) (g : GreyView)
    (view : IsView v) (after : IsView w) (is : Occupies v w b) (at : x.place ≡ b.place) (alive : x.life ≡ Live) (held : v.bodies ≡ bodies_of nodes) (fresh : IsNewNumber v b.serial) where
  keeps : (limit : ℕ) (may : List Bool) → b.place < limit
      → KeepsMarks limit may (may ++ true ∷ []) (view_in shape types callbacks nodes v g) (view_in left types callbacks (nodes ++ x ∷ []) w g)
  keeps limit may low = record {
    rest = λ rest. record { off = is.on ∙ rest.off; clear = rest.clear };
    quiet = λ rest quiet. quiet_told w (quiet_made v w b is (quiet_is v quiet));
    swept = λ rest swept. swept_told limit w (swept_made limit v w b is low (swept_is limit v swept));
    marking = λ h. record {
      under_way = way_told w g.marking g.notes (way_made v w b g.marking g.notes is (way_is v g.marking g.notes h.under_way));
      crew = crew_told w g (crew_on v w g g.marking (made_leaves v w b is) (puts_same g.marking.list (λ p. holds w.marked p ≡ true)) (crew_is v g h.crew));
      may_is = may_told (nodes ++ x ∷ []) w (may ++ true ∷ []) (may_made v w b after is fresh nodes x may h.under_way.on held at alive (may_is nodes v may h.may_is));
      counted = traced_made v w b view (beside v w b after is fresh) is ∙ h.counted;
      pushes_told = h.pushes_told;
      notes_told = h.notes_told;
    };
  }

  pub marks_made : (phase : Phase) (limit : ℕ) (may : List Bool) → b.place < limit → HasMarks phase limit may (view_in shape types callbacks nodes v g)
      → HasMarks phase limit (may_with_new phase may) (view_in left types callbacks (nodes ++ x ∷ []) w g)
  marks_made phase limit may low =
      marks_by phase limit may (λ p. may_with_new p may) (view_in shape types callbacks nodes v g) (view_in left types callbacks (nodes ++ x ∷ []) w g) (keeps limit may low)
