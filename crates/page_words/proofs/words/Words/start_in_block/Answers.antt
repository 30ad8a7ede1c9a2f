use Rattle.std.proofs.Common.{◌≡◌, ◌+◌, ◌/◌, ◌%◌, ◌^◌, ap, ◌∙◌, sym, refl, arith}
use Rattle.std.specs.Int.{trailing_zeros}
use mir.Syntax.{w64}
use Rattle.page_words.specs.BodyPlaces.{no_place_beyond}
use Rattle.page_words.specs.Seat.{Heap}
use Rattle.page_words.specs.StartBits.{IsBitsAt, IsNextPlace, no_bits, lowest_bit}
use Rattle.page_words.proofs.words.Words.start_in_block.Goals as goal
use Rattle.page_words.proofs.words.Words.start_in_block.Goals.{After-load, Else-bits-eq0}

-- the words are counted as the seat counts them
counted : (c : After-load) → c.count.result ≡ c.args.seat.now.count
counted c = c.count.ensures.count ∙ ap (λ (h : Heap). h.count) (sym c.requires.heap)

bits_at : (c : After-load) → IsBitsAt c.args.seat.now c.args.at c.load.result
bits_at c = rw (counted c) at c.load.ensures.word

next_place : (c : Else-bits-eq0) → IsNextPlace c.args.seat.now c.args.at (c.args.at + trailing_zeros w64 (c.load.result / 2 ^ (c.args.at % 64)))
next_place c =
    lowest_bit c.args.seat.now c.load.result c.args.at _ _ (bits_at c.before) c.load.type_inv
    (omega (arith, c.count.ensures.valid.bits, c.count.ensures.count, counted c.before)) c.requires.address
    refl c.if-bits-eq0.false refl

pub returns-then-bits-eq0-clause-none : goal.returns-then-bits-eq0-clause-none
returns-then-bits-eq0-clause-none c p low high place =
    no_bits c.args.seat.now c.load.result c.args.at _ (bits_at c.before) refl c.if-bits-eq0.true p low high
    (omega (arith, c.count.ensures.valid.bits, c.count.ensures.count, counted c.before, c.requires.address)) place

pub returns-clause-found : goal.returns-clause-found
returns-clause-found c =
    let next = next_place c in
    ((next.low, next.place), (λ b before place. next.none b place.0 before place.1))

pub returns-clause-near : goal.returns-clause-near
returns-clause-near c = (next_place c).near

-- a word of start bits is no header
same_view : (c : After-load) → c.load.new.seat ≡ c.args.seat.now
same_view c =
    c.load.ensures.beside refl
    (no_place_beyond c.args.seat.now (c.count.result + c.args.at / 64) c.bodies_lie_apart.ensures (omega (arith, counted c)))

pub returns-then-bits-eq0-clause-view : goal.returns-then-bits-eq0-clause-view
returns-then-bits-eq0-clause-view c = same_view c.before

pub returns-clause-view : goal.returns-clause-view
returns-clause-view c = same_view c.before
