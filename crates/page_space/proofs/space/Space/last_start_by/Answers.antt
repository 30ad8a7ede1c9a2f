use Rattle.std.proofs.Common.{◌≡◌, ◌+◌, ◌*◌, ◌/◌, ◌%◌, ap, ◌∙◌, sym, inl, inr, refl, arith}
use Rattle.gap_bounds.specs.Seat.{Heap}
use Rattle.std.proofs.lemmas.Bool.{cases_lt}
use Rattle.std.proofs.lemmas.Option.{IfSome_then}
use Rattle.gap_bounds.specs.BodyPlaces.{no_place_beyond}
use Rattle.page_space.specs.Pages.{word_count}
use Rattle.page_space.specs.Space.{heap_of, HasNoStart}
use Rattle.page_space.proofs.PlaceFound.{if_none_then}
use Rattle.page_space.proofs.StartBits.{bits_to, no_bits_to, highest_bit_to}
use Rattle.page_space.proofs.space.Space.last_start_by.Goals as goal
use Rattle.page_space.proofs.space.Space.last_start_by.Goals.{After-load, After-last_start}

-- a word of start bits is no header
same_view : (c : After-load) → c.load.new.seat ≡ c.args.seat.now
same_view c =
    let count : c.count.result ≡ c.args.seat.now.count =
    c.count.ensures.count ∙ ap (λ (h : Heap). h.count) (c.deref-2.ensures ∙ c.self.invariant.words ∙ ap heap_of c.self.view_is ∙ sym c.requires.heap) in
    c.load.ensures.beside refl
    (no_place_beyond c.args.seat.now (c.count.result + c.args.a / 64) c.bodies_lie_apart.ensures (omega (arith, count)))

pub returns-then-bits-ne0-clause-view : goal.returns-then-bits-ne0-clause-view
returns-then-bits-ne0-clause-view c = same_view c.before.before

pub last_start-requires-clause-heap : goal.last_start-requires-clause-heap
last_start-requires-clause-heap c = ap (λ v. v.heap) (same_view c.before.before) ∙ c.requires.heap

pub returns-clause-view : goal.returns-clause-view
returns-clause-view c = c.last_start.ensures.view ∙ same_view c.before.before.before

pub returns-then-bits-ne0-clause-found : goal.returns-then-bits-ne0-clause-found
returns-then-bits-ne0-clause-found c =
    let count : c.count.result ≡ c.args.seat.now.count =
    c.count.ensures.count ∙ ap (λ (h : Heap). h.count) (c.deref-2.ensures ∙ c.self.invariant.words ∙ ap heap_of c.self.view_is ∙ sym c.requires.heap) in
    let last = highest_bit_to c.args.seat.now c.load.result c.args.a (bits_to c.load.result (c.args.a % 64)) c.ilog2.result
    (rw count at c.load.ensures.word) (omega (arith, ap (λ (h : Heap). h.count) c.requires.heap, c.requires.address)) refl c.ilog2.ensures.power_le c.ilog2.ensures.next_power_gt in
    (last.0, omega (arith, last.1, c.requires.first), last.2, last.3)

-- no object starts in the address's block up to the address
none_here : (c : After-last_start) → HasNoStart c.args.seat.now.bodies (64 * (c.args.a / 64)) (c.args.a + 1)
none_here c =
    let count : c.count.result ≡ c.args.seat.now.count =
    c.count.ensures.count ∙ ap (λ (h : Heap). h.count) (c.deref-2.ensures ∙ c.self.invariant.words ∙ ap heap_of c.self.view_is ∙ sym c.requires.heap) in
    no_bits_to c.args.seat.now c.load.result c.args.a (bits_to c.load.result (c.args.a % 64)) (rw count at c.load.ensures.word)
    (omega (arith, ap (λ (h : Heap). h.count) c.requires.heap, c.requires.address)) refl c.if-bits-ne0.false

pub returns-clause-found : goal.returns-clause-found
returns-clause-found c =
    IfSome_then c.last_start.result (rw (same_view c.before.before.before) at c.last_start.ensures.found) (λ p last. (
      last.0,
      last.1,
      omega (arith, last.2),
      (λ a above below place. elim (cases_lt a (64 * (c.args.a / 64))) [
        | inl before ↦ last.3 a above before place
        | inr after ↦ none_here c a after below place
      ]),
    ))

pub returns-clause-none : goal.returns-clause-none
returns-clause-none c =
    if_none_then c.last_start.result _ _ (rw (same_view c.before.before.before) at c.last_start.ensures.none) (λ empty a low below place. elim (cases_lt a (64 * (c.args.a / 64))) [
      | inl before ↦ empty a low before place
      | inr after ↦ none_here c a after below place
    ])
