use Rattle.std.proofs.Common.{rules, ◌≡◌, ℕ, ◌+◌, ◌-◌, ◌^◌, ◌<◌, ◌≤◌, true, List, ap, ◌∙◌, sym, subst, arith, refl}
use Rattle.std.specs.Arc.{arc_value}
use Rattle.std.specs.List.{Contains, filter, sum_by}
use Rattle.gc_graph.specs.Placement.{Extent}
use Rattle.gap_bounds.specs.Bodies.{IsPlace, holds}
use Rattle.gap_bounds.specs.Body.{Body}
use Rattle.gap_bounds.specs.Seat.{SeatView, IsView, IsUnnamed, OnlyLooked}
use Rattle.gap_bounds.specs.BodyPlaces.{two_words, within_heap}
use Rattle.gap_bounds.specs.Gaps.{KnowsGaps}
use Rattle.page_space.specs.Pages.{word_count}
use Rattle.page_space.specs.Space.{heap_of, SpaceView, IsSpaceOver, body_extent, extents_of_bodies}
use Rattle.page_space.proofs.Shapes.{shape_words}
use Rattle.gc_graph.specs.Members.{Contains-map}
use Rattle.page_space.proofs.Extents.{others, one_less}
use Rattle.page_space.proofs.SeatExtents.{seat_apart, extents_filter}
use Rattle.page_space.proofs.Left.{left}
use Rattle.page_space.proofs.Bounds.{held_some}
use Rattle.page_space.proofs.space.Space.free.Goals as goal

-- the size is that of the object that starts there
abbrev IsSizeAt : SeatView → ℕ → ℕ → Type 0
IsSizeAt v a size = (b : Body) → Contains v.bodies b → b.place ≡ a → size ≡ b.size

-- the dead object that starts there
freed_extent : (v : SeatView) (a size : ℕ) → IsView v → holds v.dead a ≡ true → IsSizeAt v a size → Contains (extents_of_bodies v.bodies) (record { place = a; size = size })
freed_extent v a size is dead told =
    let start : IsPlace v.bodies a = (is.dead_are_unmarked a dead).0 in
    let same : body_extent start.0 ≡ record { place = a; size = size } =
    ap (λ p. let e : Extent = record { place = p; size = start.0.size } in e) start.2
    ∙ ap (λ s. let e : Extent = record { place = a; size = s } in e) (sym (told start.0 start.1 start.2)) in
    subst (Contains (extents_of_bodies v.bodies)) same (Contains-map body_extent v.bodies start.0 start.1)

-- it has a header and a serial number, and ends in the heap
freed_inside : (v : SeatView) (a size : ℕ) → IsView v → holds v.dead a ≡ true → IsSizeAt v a size → (2 ≤ size) × (a + size ≤ v.count)
freed_inside v a size is dead told =
    let start : IsPlace v.bodies a = (is.dead_are_unmarked a dead).0 in
    let same : size ≡ start.0.size = told start.0 start.1 start.2 in
    (omega (arith, same, two_words v is start.0 start.1), omega (arith, same, start.2, within_heap v is start.0 start.1))

pub open_gap-requires-clause-object : goal.open_gap-requires-clause-object
open_gap-requires-clause-object c =
    freed_extent c.args.seat.now c.args.a c.args.size c.bodies_lie_apart.ensures c.requires.dead c.requires.size

pub retract-requires-clause-unnamed : goal.retract-requires-clause-unnamed
retract-requires-clause-unnamed c =
    subst (λ (v : SeatView). IsUnnamed v.types v.bodies v.dead c.args.a) (sym c.open_gap.ensures.view) c.requires.unnamed

pub overflow_sub-self-2 : goal.overflow_sub-self-2
overflow_sub-self-2 c =
    let e : Extent = record { place = c.args.a; size = c.args.size } in
    let there : Contains (extents_of_bodies c.args.seat.now.bodies) e =
    freed_extent c.args.seat.now c.args.a c.args.size c.bodies_lie_apart.ensures c.requires.dead c.requires.size in
    let used : c.self.inside.used ≡ sum_by (λ (d : Extent). d.size) (extents_of_bodies c.args.seat.now.bodies) =
    ap (λ s. s.used) c.self.view_is ∙ ap (λ s. s.used) c.open_gap.ensures.rest ∙ c.requires.space.used in
    omega (arith, one_less (λ d. d.size) (extents_of_bodies c.args.seat.now.bodies) e c.args.a c.requires.space.differ there refl)

pub overflow_add-after : goal.overflow_add-after
overflow_add-after c =
    let inside = freed_inside c.args.seat.now c.args.a c.args.size c.bodies_lie_apart.ensures c.requires.dead c.requires.size in
    let low : c.args.a + c.args.size < 2 ^ 32 = omega (arith, inside.1, c.bodies_lie_apart.ensures.count) in
    search rules

pub overflow_sub-after : goal.overflow_sub-after
overflow_sub-after c =
    let inside = freed_inside c.args.seat.now c.args.a c.args.size c.bodies_lie_apart.ensures c.requires.dead c.requires.size in
    let some : 1 ≤ c.args.a + c.args.size = omega (arith, inside.0) in
    search rules

pub leave-requires-clause-end : goal.leave-requires-clause-end
leave-requires-clause-end c =
    let inside : c.args.a + c.args.size ≤ word_count c.args.self.now.shape =
    omega (arith, (freed_inside c.args.seat.now c.args.a c.args.size c.bodies_lie_apart.ensures c.requires.dead c.requires.size).1, c.requires.space.seat) in
    search rules

-- the space with what was known of its gaps before
as_was : (space now : SpaceView) → space ≡ record now { gaps = space.gaps } → record space { gaps = now.gaps } ≡ now
as_was space now rest = ap (λ (s : SpaceView). let r : SpaceView = record s { gaps = now.gaps } in r) rest

pub leave-requires-clause-some : goal.leave-requires-clause-some
leave-requires-clause-some c page in_page =
    let e : Extent = record { place = c.args.a; size = c.args.size } in
    let there : Contains (extents_of_bodies c.args.seat.now.bodies) e =
    freed_extent c.args.seat.now c.args.a c.args.size c.bodies_lie_apart.ensures c.requires.dead c.requires.size in
    let space : SpaceView = record {
      shape = record { pages = c.self.inside.pages; page_words = c.self.inside.page_words };
      words = (arc_value c.self.inside.words).table;
      objects = c.self.inside.objects;
      used = c.self.inside.used;
      table = c.self.inside.table;
      gaps = c.args.self.now.gaps;
    } in
    let same : space ≡ c.args.self.now =
    ap (λ (s : SpaceView). let r : SpaceView = record s { gaps = c.args.self.now.gaps } in r) c.self.view_is ∙ as_was c.open_gap.new.self c.args.self.now c.open_gap.ensures.rest in
    let over : IsSpaceOver space c.args.seat.now.count (extents_of_bodies c.args.seat.now.bodies) =
    subst (λ s. IsSpaceOver s c.args.seat.now.count (extents_of_bodies c.args.seat.now.bodies)) (sym same) c.requires.space.over in
    let words = shape_words space.shape c.self.invariant.shape in
    held_some space c.args.seat.now.count (extents_of_bodies c.args.seat.now.bodies) e page (omega (arith, words.0)) over there
    (omega (arith, freed_inside c.args.seat.now c.args.a c.args.size c.bodies_lie_apart.ensures c.requires.dead c.requires.size, ap (λ s. word_count s.shape) same)) in_page

pub returns-clause-space : goal.returns-clause-space
returns-clause-space c =
    let es : List Extent = extents_of_bodies c.args.seat.now.bodies in
    let e : Extent = record { place = c.args.a; size = c.args.size } in
    let there : Contains es e =
    freed_extent c.args.seat.now c.args.a c.args.size c.bodies_lie_apart.ensures c.requires.dead c.requires.size in
    let space : SpaceView = record {
      shape = record { pages = c.self.inside.pages; page_words = c.self.inside.page_words };
      words = (arc_value c.self.inside.words).table;
      objects = c.self.inside.objects;
      used = c.self.inside.used;
      table = c.self.inside.table;
      gaps = c.args.self.now.gaps;
    } in
    let same : space ≡ c.args.self.now =
    ap (λ (s : SpaceView). let r : SpaceView = record s { gaps = c.args.self.now.gaps } in r) c.self.view_is ∙ as_was c.open_gap.new.self c.args.self.now c.open_gap.ensures.rest in
    let over : IsSpaceOver space c.args.seat.now.count (extents_of_bodies c.args.seat.now.bodies) =
    subst (λ s. IsSpaceOver s c.args.seat.now.count (extents_of_bodies c.args.seat.now.bodies)) (sym same) c.requires.space.over in
    let knows : KnowsGaps space.shape (filter (others c.args.a) es) c.self.inside.gaps =
    rw (ap (λ s. s.shape) same, ap (λ s. s.gaps) c.self.view_is) c.open_gap.ensures.knows in
    let now : IsSpaceOver
    (record { shape = space.shape; words = space.words; objects = space.objects - 1; used = space.used - c.args.size; table = c.leave.new.self; gaps = c.self.inside.gaps })
    c.args.seat.now.count (filter (others c.args.a) es) =
    left space c.args.seat.now.count es e c.leave.new.self c.self.inside.gaps (omega (arith, (shape_words space.shape c.self.invariant.shape).0)) over (seat_apart c.args.seat.now c.bodies_lie_apart.ensures) there
    (omega (arith, freed_inside c.args.seat.now c.args.a c.args.size c.bodies_lie_apart.ensures c.requires.dead c.requires.size, c.requires.space.seat))
    (record { objects = c.leave.ensures.objects; buckets = c.leave.ensures.buckets; starts = c.leave.ensures.starts }) knows in
    let opened : OnlyLooked c.args.seat.now c.open_gap.new.seat = c.open_gap.ensures.view in
    let count : c.retract.new.seat.count ≡ c.args.seat.now.count = ap (λ v. v.count) c.retract.ensures ∙ ap (λ (v : SeatView). v.count) opened in
    let extents : extents_of_bodies c.retract.new.seat.bodies ≡ filter (others c.args.a) es =
    ap (λ v. extents_of_bodies v.bodies) c.retract.ensures ∙ extents_filter c.open_gap.new.seat.bodies c.args.a
    ∙ ap (λ (v : SeatView). filter (others c.args.a) (extents_of_bodies v.bodies)) opened in
    record {
      words = ap (λ v. v.heap) c.retract.ensures ∙ ap (λ (v : SeatView). v.heap) opened ∙ c.requires.space.words ∙ sym (ap heap_of same);
      over = rw (count, extents) now;
    }
