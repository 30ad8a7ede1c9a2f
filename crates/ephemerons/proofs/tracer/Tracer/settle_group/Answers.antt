use Rattle.std.proofs.Common.{◌≡◌, ℕ, ◌<◌, ◌||◌, get_or, length, sym, ap, ◌∙◌, subst, inl, inr, arith}
use Rattle.std.proofs.lemmas.List.{get_or_default}
use Rattle.pair_notes.specs.Notes.{NotesState, group_at, no_notes, note_at, note_of}
use Rattle.ephemerons.specs.Fixpoint.{Stage, NoteIsSettled}
use Rattle.ephemerons.specs.Tracers.{stage_of}
use Rattle.ephemerons.proofs.Looks.{joined, noted_stays, looks_more}
use Rattle.ephemerons.proofs.Tracers.{same_types, Keeps-then, Searches-then, GoesOnward-then}
use Rattle.ephemerons.proofs.tracer.Tracer.settle_group.Goals.{then-found, else-found}
use Rattle.ephemerons.proofs.tracer.Tracer.settle_group.Goals as goal

pub loop-j-preserved : goal.loop-j-preserved
loop-j-preserved g c =
    let either : c.if-found.found ≡ (c.loop-j.found || c.settle_at-more.result) = joined c.loop-j.found c.settle_at-more.result c.if-found.found
    (elim c.if-found.branch [ then-found w ↦ inl (w.if-found.true, w.found-is) | else-found w ↦ inr (w.if-found.false, w.found-is) ]) in
    let keeps = c.loop-j.invariant.keeps in
    let before : Stage = stage_of c.loop-j.self in
    let after : Stage = stage_of c.settle_at-more.new.self in
    record {
      keeps = Keeps-then c.args.self.now c.loop-j.self c.settle_at-more.new.self keeps c.settle_at-more.ensures.keeps;
      looks = rw either (Searches-then c.args.self.now c.loop-j.self c.settle_at-more.new.self keeps c.loop-j.found c.settle_at-more.result c.loop-j.invariant.looks c.settle_at-more.ensures.looks);
      looked = GoesOnward-then c.args.self.now c.loop-j.self c.settle_at-more.new.self keeps c.settle_at-more.ensures.looks.works c.loop-j.invariant.looked c.settle_at-more.ensures.looked;
      settled = λ none. looks_more
          (λ (s : Stage) (k : ℕ). k < length (group_at s.groups c.args.i).notes → NoteIsSettled c.args.self.now.types.now s.view (note_at (group_at s.groups c.args.i) k))
          (noted_stays c.args.self.now.types.now c.args.i) before after c.loop-j.found c.settle_at-more.result c.loop-j.j c.loop-j.invariant.settled c.settle_at-more.ensures.looks.still
          (λ off low. rw (same_types keeps) at c.settle_at-more.ensures.settled off low) (sym either ∙ none);
    }

pub returns-clause-settled : goal.returns-clause-settled
returns-clause-settled g c none note there =
    let group : NotesState = group_at c.loop-j.self.groups.now c.args.i in
    let counted : get_or c.args.self.now.groups.now c.args.i c.index-self-i.result ≡ group_at c.args.self.now.groups.now c.args.i =
    get_or_default c.args.self.now.groups.now c.args.i c.index-self-i.result no_notes c.requires.group in
    let same : group ≡ group_at c.args.self.now.groups.now c.args.i = ap (λ (s : Stage). group_at s.groups c.args.i) (c.loop-j.invariant.looks.still none) in
    let low : there.0 < c.loop-j.j = omega (
      arith,
      there.1,
      c.loop-j-test.false,
      c.count-j-end.ensures,
      ap (λ (g : NotesState). length g.notes) counted,
      ap (λ (g : NotesState). length g.notes) same,
    ) in
    subst (NoteIsSettled c.args.self.now.types.now c.loop-j.self.seat.now) (get_or_default group.notes there.0 (note_of 0 0) note there.1 ∙ there.2)
    (c.loop-j.invariant.settled none there.0 low there.1)
