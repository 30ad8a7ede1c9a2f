use Rattle.std.proofs.Common.{◌≡◌, ℕ, ◌+◌, ◌-◌, ◌*◌, ◌/◌, ◌%◌, ◌^◌, ◌<◌, ◌≤◌, refl, ap, ◌∙◌, sym, subst, inl, inr, arith}
use Rattle.page_space.specs.Space.{heap_of}
use Rattle.std.proofs.lemmas.Bool.{cases_lt}
use Rattle.gap_bounds.specs.BodyPlaces.{no_place_beyond}
use Rattle.gap_bounds.specs.Seat.{Heap, SeatView, IsView, TellsWordAt}
use Rattle.page_space.specs.Pages.{word_count}
use Rattle.gap_bounds.specs.StartBits.{IsBitsAt, no_bits}
use Rattle.page_space.proofs.StartBits.{IsLastPlace, highest_bit}
use Rattle.page_space.proofs.space.Space.last_start.Goals as goal
use Rattle.page_space.proofs.space.Space.last_start.Goals.{After-load-bits}

-- a word of start bits is no header
same_view : (c : After-load-bits) → c.load-bits.new.seat ≡ c.loop-word.seat
same_view c =
    let is : IsView c.loop-word.seat = subst IsView (sym c.loop-word.invariant.view) c.bodies_lie_apart.ensures in
    let count : c.count.result ≡ c.loop-word.seat.count =
    c.count.ensures.count ∙ ap (λ (h : Heap). h.count) (c.deref-in-loop-word.ensures ∙ c.self.invariant.words ∙ ap heap_of c.self.view_is ∙ sym c.requires.heap)
    ∙ ap (λ (v : SeatView). v.count) (sym c.loop-word.invariant.view) in
    c.load-bits.ensures.beside refl (no_place_beyond c.loop-word.seat (c.count.result + (c.loop-word.word - 1)) is (omega (arith, count)))

pub returns-then-bits-ne0-clause-found : goal.returns-then-bits-ne0-clause-found
returns-then-bits-ne0-clause-found c =
    let view : c.loop-word.seat ≡ c.args.seat.now = c.loop-word.invariant.view in
    let count : c.count.result ≡ c.args.seat.now.count =
    c.count.ensures.count ∙ ap (λ (h : Heap). h.count) (c.deref-in-loop-word.ensures ∙ c.self.invariant.words ∙ ap heap_of c.self.view_is ∙ sym c.requires.heap) in
    let at : ℕ = c.loop-word.word - 1 in
    let word : TellsWordAt c.args.seat.now (c.args.seat.now.count + at) c.load-bits.result =
    subst (λ n. TellsWordAt c.args.seat.now (n + at) c.load-bits.result) count
    (subst (λ v. TellsWordAt v (c.count.result + at) c.load-bits.result) view c.load-bits.ensures.word) in
    let last : IsLastPlace c.args.seat.now at (64 * at + c.ilog2.result) =
    highest_bit c.args.seat.now c.load-bits.result at c.ilog2.result word
    (omega (arith, ap (λ (h : Heap). h.count) c.requires.heap, c.requires.end, c.loop-word.invariant.high, c.loop-word-test.true)) c.ilog2.ensures.power_le c.ilog2.ensures.next_power_gt c.ilog2.ensures.bound in
    let low : 64 * at ≤ 64 * at + c.ilog2.result = last.low in
    let high : 64 * at + c.ilog2.result < 64 * at + 64 = last.high in (
      last.place,
      omega (arith, c.loop-word-test.true),
      omega (arith, c.loop-word.invariant.high, c.loop-word-test.true),
      (λ p above below place. elim (cases_lt p (64 * at + 64)) [
        | inl inside ↦ last.none p above inside place
        | inr past ↦ c.loop-word.invariant.none p (omega (arith, c.loop-word-test.true)) below place
      ]),
    )

pub loop-word-preserved : goal.loop-word-preserved
loop-word-preserved c =
    let view : c.loop-word.seat ≡ c.args.seat.now = c.loop-word.invariant.view in
    let count : c.count.result ≡ c.args.seat.now.count =
    c.count.ensures.count ∙ ap (λ (h : Heap). h.count) (c.deref-in-loop-word.ensures ∙ c.self.invariant.words ∙ ap heap_of c.self.view_is ∙ sym c.requires.heap) in
    let at : ℕ = c.loop-word.word - 1 in
    let same : 64 * at / 64 ≡ at = omega arith in
    let word : IsBitsAt c.args.seat.now (64 * at) c.load-bits.result =
    subst (λ n. TellsWordAt c.args.seat.now (c.args.seat.now.count + n) c.load-bits.result) (sym same)
    (subst (λ n. TellsWordAt c.args.seat.now (n + at) c.load-bits.result) count
    (subst (λ v. TellsWordAt v (c.count.result + at) c.load-bits.result) view c.load-bits.ensures.word)) in
    let bits : 0 ≡ c.load-bits.result / 2 ^ (64 * at % 64) =
    sym (ap (λ n. n / 2 ^ (64 * at % 64)) c.if-bits-ne0.false ∙ ap (λ k. 0 / 2 ^ k) (let e : 64 * at % 64 ≡ 0 = omega arith in e)) in
    record {
      view = same_view c.before ∙ view;
      high = omega (arith, c.loop-word.invariant.high);
      none = λ p above below place. elim (cases_lt p (64 * at + 64)) [
        | inl inside ↦ no_bits c.args.seat.now c.load-bits.result (64 * at) 0 word bits (let e : 0 ≡ 0 = omega arith in e) p above (omega arith)
            (omega (arith, ap (λ (h : Heap). h.count) c.requires.heap, c.requires.end, c.loop-word.invariant.high, c.loop-word-test.true)) place
        | inr past ↦ c.loop-word.invariant.none p (omega (arith, c.loop-word-test.true)) below place
      ];
    }

pub returns-clause-none : goal.returns-clause-none
returns-clause-none c p low high place = c.loop-word.invariant.none p (omega (arith, c.loop-word-test.false)) high place

pub returns-then-bits-ne0-clause-view : goal.returns-then-bits-ne0-clause-view
returns-then-bits-ne0-clause-view c = same_view c.before.before ∙ c.loop-word.invariant.view
