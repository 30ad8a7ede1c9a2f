use Rattle.std.specs.Arc.{arc_value}
use Rattle.std.proofs.Common.{◌≡◌, ◌*◌, ap, ◌∙◌, arith}
use Rattle.gc_graph.specs.State.{Shape}
use Rattle.page_words.specs.Seat.{SeatView, OnlyLooked}
use Rattle.page_space.specs.Pages.{word_count}
use Rattle.sweeper.specs.Sweeping.{SweepView, cursor_at, all_swept}
use Rattle.heap_objects.specs.Finalising.{IsSweptTo, AreFewTold}
use Rattle.heap_objects.proofs.SweptObjects.{may_sweep, swept_objects, finalised_nodes}
use Rattle.heap_objects.proofs.Unlooked.{swept_is}
use Rattle.heap_objects.proofs.objects.Objects.finalise_rest.Goals as goal

pub finish-count-requires-clause-sweeping : goal.finish-count-requires-clause-sweeping
finish-count-requires-clause-sweeping c =
    may_sweep c.self.inside.space c.self.inside.seat (arc_value c.self.inside.types) c.self.inside.kinds.value c.self.inside.made c.self.inside.grey c.self.inside.nodes.value c.args.sweep.now c.self.invariant
    (rw (← c.self.view_is) at c.requires.rest).off (rw (← c.self.view_is) at c.requires.pages) (swept_is (cursor_at c.self.inside.space.shape c.args.sweep.now) c.self.inside.seat (rw (← c.self.view_is) at c.requires.marks)) (omega (arith, c.self.invariant.numbers_are, c.self.ranges))
    (rw (← c.self.view_is) at c.requires.valid)

pub invariant_of-self : goal.invariant_of-self
invariant_of-self c =
    swept_objects c.self.inside.space c.finish-count.new.space c.self.inside.seat c.finish-count.new.seat (arc_value c.self.inside.types) c.self.inside.kinds.value c.self.inside.made c.self.inside.grey c.self.inside.nodes.value
    c.finalised.result.value c.args.sweep.now c.finish-count.new.self c.args.finalised.now.items c.finish-count.new.done.items c.self.invariant (rw (← c.self.view_is) at c.requires.rest).off (swept_is (cursor_at c.self.inside.space.shape c.args.sweep.now) c.self.inside.seat (rw (← c.self.view_is) at c.requires.marks))
    c.finish-count.ensures.swept c.finish-count.ensures.shape c.finalised.ensures (rw (← c.self.view_is) at c.requires.rest).clear.none_running c.finish-count.ensures.sweeping

pub returns-clause-nodes : goal.returns-clause-nodes
returns-clause-nodes c =
    rw (← c.self.view_is) (finalised_nodes c.self.inside.space c.finish-count.new.space c.self.inside.seat c.finish-count.new.seat (arc_value c.self.inside.types) c.self.inside.kinds.value c.self.inside.made c.self.inside.grey
    c.self.inside.nodes.value c.finalised.result.value c.args.sweep.now c.finish-count.new.self c.args.finalised.now.items c.finish-count.new.done.items c.self.invariant
    (rw (← c.self.view_is) at c.requires.rest).off (swept_is (cursor_at c.self.inside.space.shape c.args.sweep.now) c.self.inside.seat (rw (← c.self.view_is) at c.requires.marks)) c.finish-count.ensures.swept c.finish-count.ensures.shape c.finalised.ensures (rw (← c.self.view_is) at c.requires.rest).clear.none_running)

pub returns-clause-told : goal.returns-clause-told
returns-clause-told c =
    let shape : Shape = c.self.inside.space.shape in
    let told : AreFewTold shape (cursor_at shape c.args.sweep.now) c.self.inside.seat c.args.finalised.now.items = rw (← c.self.view_is) at c.requires.told in
    let pages : c.args.sweep.now.pages ≡ shape.pages = rw (← c.self.view_is) at c.requires.pages in
    let end : cursor_at shape c.finish-count.new.self ≡ word_count shape =
    ap (λ (s : SweepView). s.cursor * shape.page_words) c.finish-count.ensures.cursor ∙ ap (λ n. n * shape.page_words) pages in
    rw (← c.self.view_is) (omega (arith, told, c.finish-count.ensures.swept.few (word_count shape) (omega (arith, end))))

pub returns-clause-quiet : goal.returns-clause-quiet
returns-clause-quiet c =
    let marks : IsSweptTo (cursor_at c.self.inside.space.shape c.args.sweep.now) c.self.inside.seat =
    swept_is (cursor_at c.self.inside.space.shape c.args.sweep.now) c.self.inside.seat (rw (← c.self.view_is) at c.requires.marks) in
    let cleared : OnlyLooked (all_swept c.self.inside.seat) c.finish-count.new.seat = c.finish-count.ensures.all marks.clear in
    record {
      off = ap (λ (v : SeatView). v.on) cleared ∙ (rw (← c.self.view_is) at c.requires.rest).off;
      marked = ap (λ (v : SeatView). v.marked) cleared;
      traced = ap (λ (v : SeatView). v.traced) cleared;
      dead = ap (λ (v : SeatView). v.dead) cleared;
    }
