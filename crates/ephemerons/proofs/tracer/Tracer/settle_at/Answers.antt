use Rattle.std.proofs.Common.{◌≡◌, ◌<◌, true, get_or, length, sym, ap, ◌∙◌, subst, arith}
use Rattle.std.proofs.lemmas.List.{get_or_default}
use Rattle.std.proofs.lemmas.List.Elements.{Contains-get_or}
use Rattle.marker_core.specs.Bodies.{holds}
use Rattle.pair_notes.specs.declared.notes.Note.{Note}
use Rattle.pair_notes.specs.Notes.{NotesState, IsNote, group_at, no_notes, note_at, note_of}
use Rattle.ephemerons.specs.Tracers.{stage_of}
use Rattle.ephemerons.proofs.Onward.{onward_given}
use Rattle.ephemerons.proofs.tracer.Tracer.settle_at.Goals as goal

pub settle-requires-clause-note : goal.settle-requires-clause-note
settle-requires-clause-note g c =
    let tracer = c.args.self.now in
    let group : NotesState = group_at tracer.groups.now c.args.i in
    let counted : get_or tracer.groups.now c.args.i c.index-self-i.result ≡ group =
    get_or_default tracer.groups.now c.args.i c.index-self-i.result no_notes c.requires.group in
    let read : get_or tracer.groups.now c.args.i c.index-self-i-then-j-count.result ≡ group =
    get_or_default tracer.groups.now c.args.i c.index-self-i-then-j-count.result no_notes c.requires.group in
    let low : c.args.j < length group.notes = omega (arith, c.if-j-count.true, c.count.ensures, ap (λ (g : NotesState). length g.notes) counted) in
    let is : c.at-note.result ≡ note_at group c.args.j = c.at-note.ensures ∙ ap (λ (g : NotesState). note_at g c.args.j) read in
    subst (IsNote tracer.types.now tracer.seat.now.bodies) (sym is)
    (c.requires.ready.ground.noted (note_at group c.args.j) (c.args.i, c.requires.group, Contains-get_or group.notes c.args.j (note_of 0 0) low))

pub returns-then-j-count-clause-looked : goal.returns-then-j-count-clause-looked
returns-then-j-count-clause-looked g c =
    let tracer = c.args.self.now in
    let group : NotesState = group_at tracer.groups.now c.args.i in
    let counted : get_or tracer.groups.now c.args.i c.index-self-i.result ≡ group =
    get_or_default tracer.groups.now c.args.i c.index-self-i.result no_notes c.requires.group in
    let read : get_or tracer.groups.now c.args.i c.index-self-i-then-j-count.result ≡ group =
    get_or_default tracer.groups.now c.args.i c.index-self-i-then-j-count.result no_notes c.requires.group in
    let low : c.args.j < length group.notes = omega (arith, c.if-j-count.true, c.count.ensures, ap (λ (g : NotesState). length g.notes) counted) in
    let is : c.at-note.result ≡ note_at group c.args.j = c.at-note.ensures ∙ ap (λ (g : NotesState). note_at g c.args.j) read in
    onward_given tracer.types.now (stage_of tracer) _ (λ held.
    c.settle.ensures.looked (subst (λ (n : Note). holds tracer.seat.now.marked n.holder ≡ true) (sym is)
    (held.noted (note_at group c.args.j) (c.args.i, c.requires.group, Contains-get_or group.notes c.args.j (note_of 0 0) low))))
