use Rattle.std.proofs.Common.{◌≡◌, ℕ, ◌||◌, sym, ◌∙◌, inl, inr, arith}
use Rattle.std.specs.List.{Contains}
use Rattle.pair_notes.specs.declared.notes.Note.{Note}
use Rattle.pair_notes.specs.Notes.{group_at}
use Rattle.ephemerons.specs.Fixpoint.{Stage, NoteIsSettled}
use Rattle.ephemerons.specs.Tracers.{stage_of}
use Rattle.ephemerons.proofs.Looks.{joined, group_stays, looks_more}
use Rattle.ephemerons.proofs.Tracers.{same_types, Keeps-then, Searches-then, GoesOnward-then}
use Rattle.ephemerons.proofs.tracer.Tracer.settle_notes.Goals.{then-found, else-found}
use Rattle.ephemerons.proofs.tracer.Tracer.settle_notes.Goals as goal

pub loop-i-preserved : goal.loop-i-preserved
loop-i-preserved g c =
    let either : c.if-found.found ≡ (c.loop-i.found || c.settle_group-more.result) = joined c.loop-i.found c.settle_group-more.result c.if-found.found
    (elim c.if-found.branch [ then-found w ↦ inl (w.if-found.true, w.found-is) | else-found w ↦ inr (w.if-found.false, w.found-is) ]) in
    let keeps = c.loop-i.invariant.keeps in
    let before : Stage = stage_of c.loop-i.self in
    let after : Stage = stage_of c.settle_group-more.new.self in
    record {
      keeps = Keeps-then c.args.self.now c.loop-i.self c.settle_group-more.new.self keeps c.settle_group-more.ensures.keeps;
      looks = rw either (Searches-then c.args.self.now c.loop-i.self c.settle_group-more.new.self keeps c.loop-i.found c.settle_group-more.result c.loop-i.invariant.looks c.settle_group-more.ensures.looks);
      looked = GoesOnward-then c.args.self.now c.loop-i.self c.settle_group-more.new.self keeps c.settle_group-more.ensures.looks.works c.loop-i.invariant.looked c.settle_group-more.ensures.looked;
      settled = λ none. looks_more
          (λ (s : Stage) (k : ℕ). (note : Note) → Contains (group_at s.groups k).notes note → NoteIsSettled c.args.self.now.types.now s.view note)
          (group_stays c.args.self.now.types.now) before after c.loop-i.found c.settle_group-more.result c.loop-i.i c.loop-i.invariant.settled c.settle_group-more.ensures.looks.still
          (λ off note there. rw (same_types keeps) at c.settle_group-more.ensures.settled off note there) (sym either ∙ none);
    }

pub returns-clause-settled : goal.returns-clause-settled
returns-clause-settled g c none note noted =
    c.loop-i.invariant.settled none noted.0 (omega (arith, noted.1, c.loop-i-test.false, c.loop-i.invariant.looks.works.many)) note noted.2
