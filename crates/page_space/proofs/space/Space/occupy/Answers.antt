use Rattle.std.proofs.Common.{◌≡◌, ◌+◌, ◌^◌, ◌<◌, ◌≤◌, ◌++◌, [], ◌∷◌, List, length, ap, ◌∙◌, sym, subst, get_or, cond, arith, rules}
use Rattle.std.specs.Arc.{arc_value}
use Rattle.std.proofs.lemmas.Bool.{eq-eqb}
use Rattle.std.proofs.lemmas.List.{map_push}
use Rattle.gc_graph.specs.Placement.{Extent}
use Rattle.gap_bounds.specs.Seat.{Heap}
use Rattle.page_space.specs.Pages.{is_in_page}
use Rattle.page_space.specs.Space.{heap_of, SpaceView, IsSpaceOver, IsFreePlace, body_extent, extents_of_bodies}
use Rattle.page_space.specs.Occupying.{new_body}
use Rattle.page_space.proofs.Shapes.{shape_words}
use Rattle.page_space.proofs.PlaceBodies.{taken_by_body}
use Rattle.page_space.proofs.GoodPlaces.{IsGoodPlace, good_place}
use Rattle.page_space.proofs.Joined.{joined}
use Rattle.page_space.proofs.KnownGaps.{gaps_taken}
use Rattle.page_space.proofs.Bounds.{few_objects, held_fits}
use Rattle.page_space.proofs.space.Space.occupy.Goals as goal

pub write_object-requires-clause-room : goal.write_object-requires-clause-room
write_object-requires-clause-room c =
    let words = shape_words c.args.self.now.shape c.shape_is_valid.ensures in
    let e : Extent = record { place = c.args.a; size = c.args.size } in
    let good : IsGoodPlace c.args.self.now.shape (extents_of_bodies c.args.seat.now.bodies) e =
    good_place c.args.self.now c.args.seat.now.count (extents_of_bodies c.args.seat.now.bodies) e (omega (arith, words.0)) (omega arith)
    c.requires.space.over c.requires.place in
    record {
      inside = omega (arith, good.inside, c.requires.space.seat);
      free = λ x low high word. good.free x (low, high) (taken_by_body c.args.seat.now.bodies x word);
    }

pub overflow_add-self : goal.overflow_add-self
overflow_add-self c =
    let few = few_objects c.args.self.now c.args.seat.now.count (extents_of_bodies c.args.seat.now.bodies) c.requires.space.over in
    let objects : c.self.inside.objects ≡ length (extents_of_bodies c.args.seat.now.bodies) =
    ap (λ s. s.objects) c.self.view_is ∙ c.requires.space.objects in
    let count : c.args.seat.now.count ≤ 2 ^ 24 = c.bodies_lie_apart.ensures.count in
    let bound : c.self.inside.objects + 1 < 2 ^ 32 = omega arith in
    search rules

pub enter-requires-clause-room : goal.enter-requires-clause-room
enter-requires-clause-room c page =
    let space : SpaceView = record {
      shape = record { pages = c.self.inside.pages; page_words = c.self.inside.page_words };
      words = (arc_value c.self.inside.words).table;
      objects = c.self.inside.objects;
      used = c.self.inside.used;
      table = c.self.inside.table;
      gaps = c.self.inside.gaps;
    } in
    let over : IsSpaceOver space c.args.seat.now.count (extents_of_bodies c.args.seat.now.bodies) =
    subst (λ s. IsSpaceOver s c.args.seat.now.count (extents_of_bodies c.args.seat.now.bodies)) (sym c.self.view_is) c.requires.space.over in
    held_fits space c.args.seat.now.count (extents_of_bodies c.args.seat.now.bodies) page over c.bodies_lie_apart.ensures.count c.self.invariant.objects

pub returns-clause-space : goal.returns-clause-space
returns-clause-space c =
    let space : SpaceView = record {
      shape = record { pages = c.self.inside.pages; page_words = c.self.inside.page_words };
      words = (arc_value c.self.inside.words).table;
      objects = c.self.inside.objects;
      used = c.self.inside.used;
      table = c.self.inside.table;
      gaps = c.self.inside.gaps;
    } in
    let es : List Extent = extents_of_bodies c.args.seat.now.bodies in
    let e : Extent = record { place = c.args.a; size = c.args.size } in
    let over : IsSpaceOver space c.args.seat.now.count (extents_of_bodies c.args.seat.now.bodies) =
    subst (λ s. IsSpaceOver s c.args.seat.now.count (extents_of_bodies c.args.seat.now.bodies)) (sym c.self.view_is) c.requires.space.over in
    let place : IsFreePlace space.shape es c.args.size c.args.a =
    subst (λ s. IsFreePlace s.shape (extents_of_bodies c.args.seat.now.bodies) c.args.size c.args.a) (sym c.self.view_is) c.requires.place in
    let words = shape_words space.shape c.self.invariant.shape in
    let good : IsGoodPlace space.shape es e = good_place space c.args.seat.now.count es e (omega (arith, words.0)) (omega arith) over place in
    let now : IsSpaceOver
    (record { shape = space.shape; words = space.words; objects = space.objects + 1; used = space.used + c.args.size; table = c.enter.new.self; gaps = c.fill.new.self })
    c.args.seat.now.count (es ++ e ∷ []) =
    joined space c.args.seat.now.count es e c.enter.new.self c.fill.new.self (omega (arith, words.0)) over (omega (arith, c.requires.least)) good
    (record {
      objects = c.enter.ensures.objects;
      buckets = λ page.
          c.enter.ensures.buckets page
          ∙ ap (λ k. cond (is_in_page space.shape.page_words page e) k (get_or space.table.buckets page 0)) c.bucket_of-bucket.ensures;
      starts = c.enter.ensures.starts;
    })
    (c.fill.ensures.knows space.shape es (es ++ e ∷ [])
    (gaps_taken space c.args.seat.now.count es e _ (omega (arith, words.0)) (omega (arith, c.requires.least)) over good (λ none. eq-eqb c.objects_in-was_empty.result 0 (c.objects_in-was_empty.ensures ∙ none)))
    over.gaps) in
    let count : c.write_object.new.seat.count ≡ c.args.seat.now.count = ap (λ (h : Heap). h.count) c.write_object.ensures.heap in
    let extents : extents_of_bodies c.write_object.new.seat.bodies ≡ es ++ e ∷ [] =
    ap extents_of_bodies c.write_object.ensures.bodies
    ∙ map_push body_extent c.args.seat.now.bodies (new_body c.args.a c.args.ty c.args.size c.args.serial) in
    record {
      words = c.write_object.ensures.heap ∙ c.requires.space.words ∙ ap heap_of (sym c.self.view_is);
      over = rw (count, extents) now;
    }
