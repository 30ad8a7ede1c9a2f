use Rattle.std.proofs.Common.{rules, ◌≡◌, ℕ, ◌+◌, ◌-◌, ◌*◌, ◌^◌, ◌<◌, ◌≤◌, refl, length, vec_capacity, subst, sym, ap, ◌∙◌, arith}
use Rattle.std.proofs.Math.Nat.{mul-le-mul_right}
use Rattle.gc_graph.specs.State.{Shape}
use Rattle.page_space.specs.Seat.{unlooked}
use Rattle.page_space.specs.Pages.{word_count}
use Rattle.sweeper.specs.Sweeping.{SweepView, cursor_at, dead_between, swept_in, Sweeps}
use Rattle.sweeper.proofs.Sweeping.{nothing, sweeps_on, part_dead}
use Rattle.sweeper.proofs.Ends.{dead_few, all_end}
use Rattle.sweeper.proofs.sweep.Sweep.finish.Goals as goal

pub loop-self-init : goal.loop-self-init
loop-self-init c = record {
  swept =
      nothing (cursor_at c.args.space.now.shape c.args.self.now) (cursor_at c.args.space.now.shape c.args.self.now) c.args.seat.now
      c.args.done.now.items c.bodies_lie_apart.ensures (omega arith) (λ a first last start. absurd (omega arith));
  pages = refl;
  low = omega arith;
  sweeping = c.requires.sweeping;
  shape = refl;
  room = refl;
}

further : (shape : Shape) (s t : SweepView) → s.cursor ≤ t.cursor → cursor_at shape s ≤ cursor_at shape t
further shape s t low = mul-le-mul_right shape.page_words low

pub loop-self-preserved : goal.loop-self-preserved
loop-self-preserved c =
    let shape : Shape = c.args.space.now.shape in
    let cursor : c.page.new.self.cursor ≡ c.loop-self.self.cursor + 1 = ap (λ (s : SweepView). s.cursor) c.page.ensures.cursor in
    let one : Sweeps (cursor_at shape c.loop-self.self) (cursor_at shape c.page.new.self) c.loop-self.seat c.loop-self.done.items c.page.new.seat c.page.new.done.items =
    subst (λ s. Sweeps (cursor_at s c.loop-self.self) (cursor_at s c.page.new.self) c.loop-self.seat c.loop-self.done.items c.page.new.seat c.page.new.done.items)
    c.loop-self.invariant.shape c.page.ensures.swept in
    record {
      swept =
          sweeps_on (cursor_at shape c.args.self.now) (cursor_at shape c.loop-self.self) (cursor_at shape c.page.new.self) c.args.seat.now
          c.loop-self.seat c.page.new.seat c.args.done.now.items c.loop-self.done.items c.page.new.done.items
          (further shape c.args.self.now c.loop-self.self c.loop-self.invariant.low)
          (further shape c.loop-self.self c.page.new.self (omega (arith, cursor))) c.loop-self.invariant.swept one;
      pages = ap (λ (s : SweepView). s.pages) c.page.ensures.cursor ∙ c.loop-self.invariant.pages;
      low = omega (arith, cursor, c.loop-self.invariant.low);
      sweeping = c.page.ensures.sweeping;
      shape = c.page.ensures.shape ∙ c.loop-self.invariant.shape;
      room = c.page.ensures.room ∙ c.loop-self.invariant.room;
    }

pub page-requires-clause-room : goal.page-requires-clause-room
page-requires-clause-room c =
    let shape : Shape = c.args.space.now.shape in
    let at : ℕ = cursor_at shape c.loop-self.self in
    let end : ℕ = word_count shape in
    let pages : c.loop-self.self.pages ≡ shape.pages = c.loop-self.invariant.pages ∙ c.requires.sweeping.pages in
    let below : c.loop-self.self.cursor + 1 ≤ shape.pages = omega (arith, ap (λ (s : SweepView). s.cursor) c.self.view_is, ap (λ (s : SweepView). s.pages) c.self.view_is, c.loop-self-test.true) in
    let inside : at + shape.page_words ≤ end = omega (arith, further shape (record { pages = 0; cursor = c.loop-self.self.cursor + 1 }) (record { pages = 0; cursor = shape.pages }) below) in
    subst (λ (s : Shape). length c.loop-self.done.items + dead_between (cursor_at s c.loop-self.self) (cursor_at s c.loop-self.self + s.page_words) c.loop-self.seat
    ≤ vec_capacity c.loop-self.done) (sym c.loop-self.invariant.shape)
    (omega (
      arith,
      part_dead at at (at + shape.page_words) end c.loop-self.seat (omega arith) inside,
      c.loop-self.invariant.swept.few end (omega arith),
      c.loop-self.invariant.room,
      c.requires.room,
    ))

pub overflow_cast-result : goal.overflow_cast-result
overflow_cast-result c =
    let end : ℕ = cursor_at c.args.space.now.shape c.loop-self.self in
    let all : 2 * dead_between (cursor_at c.args.space.now.shape c.args.self.now) end c.args.seat.now ≤ word_count c.args.space.now.shape =
    dead_few c.args.space.now c.args.seat.now (cursor_at c.args.space.now.shape c.args.self.now) end c.requires.sweeping.laid in
    let low : c.len.result - c.len-before.result < 2 ^ 32 = omega (
      arith,
      all,
      c.requires.sweeping.laid.seat,
      c.bodies_lie_apart.ensures.count,
      c.loop-self.invariant.swept.few end (omega arith),
      c.len.ensures,
      c.len-before.ensures,
    ) in
    search rules

pub returns-clause-all : goal.returns-clause-all
returns-clause-all c clear =
    let words : ℕ = c.args.space.now.shape.page_words in
    let over : c.self.inside.cursor ≡ c.self.inside.pages =
    (let most : c.self.inside.cursor ≤ c.self.inside.pages = c.self.invariant in omega arith) in
    let end : c.loop-self.self.cursor ≡ c.args.space.now.shape.pages =
    ap (λ (s : SweepView). s.cursor) (sym c.self.view_is) ∙ over ∙ ap (λ (s : SweepView). s.pages) c.self.view_is
    ∙ c.loop-self.invariant.pages ∙ c.requires.sweeping.pages in
    let all : cursor_at c.args.space.now.shape c.loop-self.self ≡ c.args.seat.now.count = ap (λ n. n * words) end ∙ sym c.requires.sweeping.laid.seat in
    c.loop-self.invariant.swept.view ∙ ap (λ n. unlooked (swept_in (cursor_at c.args.space.now.shape c.args.self.now) n c.args.seat.now)) all
    ∙ ap unlooked (all_end (cursor_at c.args.space.now.shape c.args.self.now) c.args.seat.now c.bodies_lie_apart.ensures clear)
