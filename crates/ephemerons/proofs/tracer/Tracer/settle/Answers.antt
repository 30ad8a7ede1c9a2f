use Rattle.ephemerons.proofs.Looks.{Looks-free}
use Rattle.ephemerons.proofs.tracer.Tracer.settle.Goals as goal

pub returns-then-note-eq0-clause-looks : goal.returns-then-note-eq0-clause-looks
returns-then-note-eq0-clause-looks g c = Looks-free c.args.self.now.types.now c.args.note.holder _ _ c.trace_grey.result c.trace_grey.ensures.looks
