use Rattle.std.proofs.Common.{◌≡◌, ◌+◌, ◌/◌, refl, ap, ◌∙◌, sym, arith}
use Rattle.page_space.specs.Space.{heap_of}
use Rattle.gap_bounds.specs.Seat.{Heap}
use Rattle.gap_bounds.specs.BodyPlaces.{no_place_beyond}
use Rattle.page_space.specs.Pages.{word_count}
use Rattle.page_space.proofs.space.Space.is_start.Goals as goal

pub returns-clause-view : goal.returns-clause-view
returns-clause-view c =
    let count : c.count.result ≡ c.args.seat.now.count =
    c.count.ensures.count ∙ ap (λ (h : Heap). h.count) (c.deref-2.ensures ∙ c.self.invariant.words ∙ ap heap_of c.self.view_is ∙ sym c.requires.heap) in
    c.load-bits.ensures.beside refl
    (no_place_beyond c.args.seat.now (c.count.result + c.args.a / 64) c.bodies_lie_apart.ensures (omega (arith, count)))
