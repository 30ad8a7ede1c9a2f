use Rattle.std.specs.Arc.{arc_value}
use Rattle.std.proofs.Common.{◌≡◌, ℕ, ◌+◌, ◌*◌, ◌<◌, ◌≤◌, vec_capacity, ap, subst, ◌∙◌, arith}
use Rattle.std.proofs.Math.Nat.{mul-le-mul_right}
use Rattle.gc_graph.specs.State.{Shape}
use Rattle.page_space.specs.Pages.{word_count}
use Rattle.sweeper.specs.Sweeping.{SweepView, IsJudgedFrom, cursor_at}
use Rattle.heap_objects.specs.Finalising.{IsSweptTo, AreFewTold}
use Rattle.heap_objects.proofs.SweptObjects.{may_sweep, swept_objects, finalised_nodes}
use Rattle.heap_objects.proofs.Unlooked.{swept_is, swept_told, quiet_told}
use Rattle.heap_objects.proofs.objects.Objects.finalise_page.Goals as goal

pub page-swept-requires-clause-sweeping : goal.page-swept-requires-clause-sweeping
page-swept-requires-clause-sweeping c =
    may_sweep c.self.inside.space c.self.inside.seat (arc_value c.self.inside.types) c.self.inside.kinds.value c.self.inside.made c.self.inside.grey c.self.inside.nodes.value c.args.sweep.now c.self.invariant
    (rw (← c.self.view_is) at c.requires.rest).off (rw (← c.self.view_is) at c.requires.pages) (swept_is (cursor_at c.self.inside.space.shape c.args.sweep.now) c.self.inside.seat (rw (← c.self.view_is) at c.requires.marks)) (omega (arith, c.self.invariant.numbers_are, c.self.ranges))
    (rw (← c.self.view_is) at c.requires.valid)

-- the page at the cursor ends in the heap
page_inside : (shape : Shape) (sweep : SweepView) → sweep.pages ≡ shape.pages → sweep.cursor < sweep.pages → cursor_at shape sweep + shape.page_words ≤ word_count shape
page_inside shape sweep pages below =
    let next : (sweep.cursor + 1) * shape.page_words ≤ word_count shape = mul-le-mul_right shape.page_words (omega (arith, pages, below)) in
    omega arith

pub page-swept-requires-clause-room : goal.page-swept-requires-clause-room
page-swept-requires-clause-room c =
    let shape : Shape = c.self.inside.space.shape in
    let at : ℕ = cursor_at shape c.args.sweep.now in
    let told : AreFewTold shape at c.self.inside.seat c.args.finalised.now.items = rw (← c.self.view_is) at c.requires.told in
    let pages : c.args.sweep.now.pages ≡ shape.pages = rw (← c.self.view_is) at c.requires.pages in
    let room : word_count shape ≤ 2 * vec_capacity c.args.finalised.now = rw (← c.self.view_is) at c.requires.room in
    let inside : at + shape.page_words ≤ word_count shape =
    page_inside shape c.args.sweep.now pages c.requires.open in
    omega (arith, told, room, c.dead_are_few.ensures.part at at (at + shape.page_words) (word_count shape) (omega arith) inside)

pub invariant_of-self : goal.invariant_of-self
invariant_of-self c =
    swept_objects c.self.inside.space c.page-swept.new.space c.self.inside.seat c.page-swept.new.seat (arc_value c.self.inside.types) c.self.inside.kinds.value c.self.inside.made c.self.inside.grey c.self.inside.nodes.value
    c.finalised.result.value c.args.sweep.now c.page-swept.new.self c.args.finalised.now.items c.page-swept.new.done.items c.self.invariant (rw (← c.self.view_is) at c.requires.rest).off (swept_is (cursor_at c.self.inside.space.shape c.args.sweep.now) c.self.inside.seat (rw (← c.self.view_is) at c.requires.marks))
    c.page-swept.ensures.swept c.page-swept.ensures.shape c.finalised.ensures (rw (← c.self.view_is) at c.requires.rest).clear.none_running c.page-swept.ensures.sweeping

pub returns-clause-nodes : goal.returns-clause-nodes
returns-clause-nodes c =
    rw (← c.self.view_is) (finalised_nodes c.self.inside.space c.page-swept.new.space c.self.inside.seat c.page-swept.new.seat (arc_value c.self.inside.types) c.self.inside.kinds.value c.self.inside.made c.self.inside.grey
    c.self.inside.nodes.value c.finalised.result.value c.args.sweep.now c.page-swept.new.self c.args.finalised.now.items c.page-swept.new.done.items c.self.invariant
    (rw (← c.self.view_is) at c.requires.rest).off (swept_is (cursor_at c.self.inside.space.shape c.args.sweep.now) c.self.inside.seat (rw (← c.self.view_is) at c.requires.marks)) c.page-swept.ensures.swept c.page-swept.ensures.shape c.finalised.ensures (rw (← c.self.view_is) at c.requires.rest).clear.none_running)

pub returns-clause-told : goal.returns-clause-told
returns-clause-told c =
    let shape : Shape = c.self.inside.space.shape in
    let told : AreFewTold shape (cursor_at shape c.args.sweep.now) c.self.inside.seat c.args.finalised.now.items = rw (← c.self.view_is) at c.requires.told in
    let pages : c.args.sweep.now.pages ≡ shape.pages = rw (← c.self.view_is) at c.requires.pages in
    let cursor : c.page-swept.new.self.cursor ≡ c.args.sweep.now.cursor + 1 = ap (λ (s : SweepView). s.cursor) c.page-swept.ensures.cursor in
    let at : cursor_at shape c.page-swept.new.self ≡ cursor_at shape c.args.sweep.now + shape.page_words =
    ap (λ n. n * shape.page_words) cursor ∙ omega arith in
    let inside = page_inside shape c.args.sweep.now pages c.requires.open in
    rw (← c.self.view_is) (omega (arith, told, c.page-swept.ensures.swept.few (word_count shape) (omega (arith, at, inside))))

pub returns-clause-marks : goal.returns-clause-marks
returns-clause-marks c =
    let shape : Shape = c.self.inside.space.shape in
    let marks : IsSweptTo (cursor_at shape c.args.sweep.now) c.self.inside.seat =
    swept_is (cursor_at shape c.args.sweep.now) c.self.inside.seat (rw (← c.self.view_is) at c.requires.marks) in
    rw (← c.self.view_is) (swept_told (cursor_at shape c.page-swept.new.self) c.page-swept.new.seat
    (record {
      clear = c.page-swept.ensures.clear marks.clear;
      judged = subst (λ (s : Shape). IsJudgedFrom (cursor_at s c.page-swept.new.self) c.page-swept.new.seat) c.page-swept.ensures.shape c.page-swept.ensures.sweeping.judged;
    }))

pub returns-clause-quiet : goal.returns-clause-quiet
returns-clause-quiet c over =
    let shape : Shape = c.self.inside.space.shape in
    let marks : IsSweptTo (cursor_at shape c.args.sweep.now) c.self.inside.seat =
    swept_is (cursor_at shape c.args.sweep.now) c.self.inside.seat (rw (← c.self.view_is) at c.requires.marks) in
    quiet_told c.page-swept.new.seat (c.page-swept.ensures.quiet marks.clear over)
