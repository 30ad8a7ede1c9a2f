use Rattle.std.proofs.Common.{sym, ◌∙◌}
use Rattle.std.proofs.lemmas.Bool.{true≢false}
use Rattle.ephemerons.proofs.Tracers.{Keeps-then, Advances-then}
use Rattle.ephemerons.proofs.tracer.Tracer.close.Goals.{then-walk-via-then-walk, then-walk-via-else-walk+then-is_refused}
use Rattle.ephemerons.proofs.tracer.Tracer.close.Goals as goal

pub returns-then-walk-clause-keeps : goal.returns-then-walk-clause-keeps
returns-then-walk-clause-keeps g c = Keeps-then c.args.self.now c.settle_all.new.self c.walk_heap.new.self c.settle_all.ensures.keeps c.walk_heap.ensures.keeps

pub returns-then-walk-clause-works : goal.returns-then-walk-clause-works
returns-then-walk-clause-works g c =
    Advances-then c.args.self.now c.settle_all.new.self c.walk_heap.new.self c.settle_all.ensures.keeps c.settle_all.ensures.works c.walk_heap.ensures.works

-- the heap is walked only where that was asked for, or where something was refused
pub returns-then-walk-clause-looked : goal.returns-then-walk-clause-looked
returns-then-walk-clause-looked g c off fine =
    absurd (elim c.then-walk.branch [
      | then-walk-via-then-walk w ↦ true≢false (sym w.if-walk.true ∙ off)
      | then-walk-via-else-walk+then-is_refused w ↦
          true≢false (sym w.if-is_refused.true ∙ w.is_refused.ensures.refused (c.walk_heap.ensures.works.unrefused fine))
    ])
