use Rattle.std.proofs.Common.{rules, length, ◌≡◌, ℕ, ◌+◌, ◌-◌, ◌*◌, ◌^◌, ◌<◌, ◌≤◌, subst, sym, ap, ◌∙◌, arith}
use Rattle.std.proofs.lemmas.List.{length-append}
use Rattle.gc_graph.specs.State.{Shape}
use Rattle.marker_core.specs.declared.states.Body.{Body}
use Rattle.page_space.specs.Seat.{SeatView}
use Rattle.page_space.specs.Pages.{word_count}
use Rattle.sweeper.specs.Sweeping.{SweepView, cursor_at, dead_between, IsJudgedFrom, IsClearBelow, Sweeps}
use Rattle.sweeper.proofs.Sweeping.{judged_on, unnamed_on, clear_on, serials_stay}
use Rattle.sweeper.proofs.Ends.{dead_few, quiet_end}
use Rattle.sweeper.proofs.sweep.Sweep.page.Goals as goal

abbrev until : (c : goal.After-len) → ℕ
until c = (c.self.inside.cursor + 1) * c.args.space.now.shape.page_words

swept : (c : goal.After-len)
    → Sweeps (cursor_at c.args.space.now.shape c.args.self.now) (until c) c.args.seat.now c.args.done.now.items c.sweep_objects.new.seat c.sweep_objects.new.done.items
swept c =
    let words : ℕ = c.args.space.now.shape.page_words in
    let cursor : ℕ = c.self.inside.cursor in
    let first : cursor * c.page_words.result ≡ cursor_at c.args.space.now.shape c.args.self.now =
    ap (λ n. cursor * n) c.page_words.ensures ∙ ap (cursor_at c.args.space.now.shape) c.self.view_is in
    let last : cursor * c.page_words.result + c.page_words-2.result ≡ until c =
    ap (λ n. cursor * n + c.page_words-2.result) c.page_words.ensures ∙ ap (λ n. cursor * words + n) c.page_words-2.ensures ∙ omega arith in
    subst (λ x. Sweeps x (until c) c.args.seat.now c.args.done.now.items c.sweep_objects.new.seat c.sweep_objects.new.done.items) first
    (subst (λ x. Sweeps (cursor * c.page_words.result) x c.args.seat.now c.args.done.now.items c.sweep_objects.new.seat c.sweep_objects.new.done.items) last
    c.sweep_objects.ensures.swept)

grows : (c : goal.After-len) → cursor_at c.args.space.now.shape c.args.self.now ≤ until c
grows c =
    let words : ℕ = c.args.space.now.shape.page_words in
    let at : c.self.inside.cursor * words ≡ cursor_at c.args.space.now.shape c.args.self.now = ap (cursor_at c.args.space.now.shape) c.self.view_is in
    omega arith

pub overflow_cast-result : goal.overflow_cast-result
overflow_cast-result c =
    let all : 2 * dead_between (cursor_at c.args.space.now.shape c.args.self.now) (until c) c.args.seat.now ≤ word_count c.args.space.now.shape =
    dead_few c.args.space.now c.args.seat.now (cursor_at c.args.space.now.shape c.args.self.now) (until c) c.requires.sweeping.laid in
    let count : c.sweep_objects.new.seat.count ≡ c.args.seat.now.count = ap (λ (w : SeatView). w.count) (swept c).view in
    let low : c.len.result - c.len-before.result < 2 ^ 32 = omega (
      arith,
      all,
      count,
      c.requires.sweeping.laid.seat,
      c.bodies_lie_apart.ensures.count,
      (swept c).few (until c) (omega arith),
      c.len.ensures,
      c.len-before.ensures,
    ) in
    search rules

pub returns-clause-sweeping : goal.returns-clause-sweeping
returns-clause-sweeping c = record {
  laid = c.sweep_objects.ensures.space;
  pages =
      ap (λ (s : SweepView). s.pages) c.self.view_is ∙ c.requires.sweeping.pages
      ∙ sym (ap (λ (s : Shape). s.pages) c.sweep_objects.ensures.shape);
  off = ap (λ (w : SeatView). w.on) (swept c).view ∙ c.requires.sweeping.off;
  judged =
      subst (λ (s : Shape). IsJudgedFrom ((c.self.inside.cursor + 1) * s.page_words) c.sweep_objects.new.seat)
      (sym c.sweep_objects.ensures.shape)
      (judged_on (cursor_at c.args.space.now.shape c.args.self.now) (until c) c.args.seat.now c.sweep_objects.new.seat (grows c) (swept c).view
      c.requires.sweeping.judged);
  unnamed =
      unnamed_on (cursor_at c.args.space.now.shape c.args.self.now) (until c) c.args.seat.now c.sweep_objects.new.seat (swept c).view
      c.requires.sweeping.unnamed;
  serials =
      serials_stay (cursor_at c.args.space.now.shape c.args.self.now) (until c) c.args.seat.now c.sweep_objects.new.seat (λ (b : Body). b.serial < 2 ^ 32)
      (swept c).view c.requires.sweeping.serials;
}

pub returns-clause-clear : goal.returns-clause-clear
returns-clause-clear c = clear_on (cursor_at c.args.space.now.shape c.args.self.now) (until c) c.args.seat.now c.sweep_objects.new.seat (swept c).view

pub returns-clause-quiet : goal.returns-clause-quiet
returns-clause-quiet c clear over =
    let words : ℕ = c.args.space.now.shape.page_words in
    let all : until c ≡ c.sweep_objects.new.seat.count =
    ap (λ n. n * words) over ∙ ap (λ (s : SweepView). s.pages * words) c.self.view_is ∙ ap (λ n. n * words) c.requires.sweeping.pages
    ∙ sym c.requires.sweeping.laid.seat ∙ sym (ap (λ (w : SeatView). w.count) (swept c).view) in
    quiet_end c.sweep_objects.new.seat c.bodies_lie_apart.ensures (ap (λ (w : SeatView). w.on) (swept c).view ∙ c.requires.sweeping.off)
    (subst (λ n. IsClearBelow n c.sweep_objects.new.seat) all
    (clear_on (cursor_at c.args.space.now.shape c.args.self.now) (until c) c.args.seat.now c.sweep_objects.new.seat (swept c).view clear))

pub returns-clause-finalised : goal.returns-clause-finalised
returns-clause-finalised c =
    let told : length c.sweep_objects.new.done.items ≡ length c.args.done.now.items + length (swept c).told.numbers =
    ap length (swept c).told.follow ∙ length-append c.args.done.now.items (swept c).told.numbers in
    omega (arith, told, c.len.ensures, c.len-before.ensures)
