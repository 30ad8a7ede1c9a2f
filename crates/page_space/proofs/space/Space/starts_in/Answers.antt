use Rattle.std.proofs.Common.{◌≡◌, ℕ, ◌+◌, ◌*◌, ◌%◌, refl, ap, ◌∙◌, sym, arith}
use Rattle.page_space.specs.Space.{heap_of}
use Rattle.std.specs.Int.{bit_at}
use Rattle.gap_bounds.specs.Layout.{bitmap_at}
use Rattle.gap_bounds.specs.BodyPlaces.{no_place_beyond}
use Rattle.gap_bounds.specs.Seat.{Heap, TellsWordAt}
use Rattle.page_space.specs.Pages.{word_count}
use Rattle.page_space.proofs.space.Space.starts_in.Goals as goal

pub returns-clause-starts : goal.returns-clause-starts
returns-clause-starts c i few =
    let count : c.count.result ≡ c.args.seat.now.count =
    c.count.ensures.count ∙ ap (λ (h : Heap). h.count) (c.deref-2.ensures ∙ c.self.invariant.words ∙ ap heap_of c.self.view_is ∙ sym c.requires.heap) in
    let a : ℕ = 64 * c.args.block + i in
    let word : TellsWordAt c.args.seat.now (c.args.seat.now.count + c.args.block) c.load.result = rw count at c.load.ensures.word in
    let there : bitmap_at c.args.seat.now.count a ≡ c.args.seat.now.count + c.args.block = omega arith in
    let bit : a % 64 ≡ i = omega arith in
    let starts = word.start a (omega (arith, ap (λ (h : Heap). h.count) c.requires.heap, c.requires.block)) there in (
      (λ set. starts.0 (ap (bit_at c.load.result) bit ∙ set)),
      (λ place. sym (ap (bit_at c.load.result) bit) ∙ starts.1 place),
    )

pub returns-clause-view : goal.returns-clause-view
returns-clause-view c =
    let count : c.count.result ≡ c.args.seat.now.count =
    c.count.ensures.count ∙ ap (λ (h : Heap). h.count) (c.deref-2.ensures ∙ c.self.invariant.words ∙ ap heap_of c.self.view_is ∙ sym c.requires.heap) in
    c.load.ensures.beside refl
    (no_place_beyond c.args.seat.now (c.count.result + c.args.block) c.bodies_lie_apart.ensures (omega (arith, count)))
