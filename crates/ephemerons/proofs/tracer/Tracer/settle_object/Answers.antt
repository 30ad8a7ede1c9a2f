use Rattle.std.proofs.Common.{◌≡◌, true, false, ap, subst, sym}
use Rattle.marker_core.specs.Bodies.{holds}
use Rattle.page_words.specs.Seat.{SeatView}
use Rattle.pair_notes.specs.Marking.{heap_and_marks}
use Rattle.ephemerons.specs.Fixpoint.{Stage}
use Rattle.ephemerons.proofs.Looks.{Looks-free}
use Rattle.ephemerons.proofs.Tracers.{same_types, Keeps-then, Searches-then}
use Rattle.ephemerons.proofs.tracer.Tracer.settle_object.Goals as goal

pub returns-then-grey-clause-keeps : goal.returns-then-grey-clause-keeps
returns-then-grey-clause-keeps g c =
    Keeps-then c.args.self.now c.trace_grey-grey.new.self c.settle_pairs-more.new.self c.trace_grey-grey.ensures.keeps c.settle_pairs-more.ensures.keeps

pub returns-else-grey-clause-keeps : goal.returns-else-grey-clause-keeps
returns-else-grey-clause-keeps g c =
    Keeps-then c.args.self.now c.trace_grey-grey.new.self c.settle_pairs-more.new.self c.trace_grey-grey.ensures.keeps c.settle_pairs-more.ensures.keeps

pub returns-then-grey-clause-looks : goal.returns-then-grey-clause-looks
returns-then-grey-clause-looks g c =
    let grey = c.trace_grey-grey in
    let both = Searches-then c.args.self.now grey.new.self c.settle_pairs-more.new.self grey.ensures.keeps true c.settle_pairs-more.result
    (rw c.if-grey.true at (Looks-free c.args.self.now.types.now c.args.a _ _ grey.result grey.ensures.looks)) c.settle_pairs-more.ensures.looks in
    rw c.if-grey.true both

pub returns-else-grey-clause-looks : goal.returns-else-grey-clause-looks
returns-else-grey-clause-looks g c =
    let grey = c.trace_grey-grey in
    Searches-then c.args.self.now grey.new.self c.settle_pairs-more.new.self grey.ensures.keeps false c.settle_pairs-more.result
    (rw c.if-grey.false at (Looks-free c.args.self.now.types.now c.args.a _ _ grey.result grey.ensures.looks)) c.settle_pairs-more.ensures.looks

pub returns-else-grey-clause-settled : goal.returns-else-grey-clause-settled
returns-else-grey-clause-settled g c none offset =
    let same : heap_and_marks c.settle_pairs-more.new.self.seat.now ≡ heap_and_marks c.trace_grey-grey.new.self.seat.now =
    ap (λ (s : Stage). s.view) (c.settle_pairs-more.ensures.looks.still none) in
    let settled = rw (same_types c.trace_grey-grey.ensures.keeps) at c.settle_pairs-more.ensures.settled none in
    record {
      traced = λ zero. subst (λ (v : SeatView). holds v.marked c.args.a ≡ true → holds v.traced c.args.a ≡ true) (sym same) c.trace_grey-grey.ensures.settled;
      value = λ b k w there at pair. (settled offset (b, there, at, pair)).value b k w there at pair;
    }
