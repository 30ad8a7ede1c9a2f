use Rattle.std.proofs.Common.{[], ◌∷◌, sym, subst}
use Rattle.ephemerons.specs.Traces.{Traces}
use Rattle.ephemerons.proofs.Holding.{fresh_listed}
use Rattle.ephemerons.proofs.Traced.{strong_traces}
use Rattle.ephemerons.proofs.tracing.trace_word.Goals as goal

pub returns-in-StrongAt-clause-marks : goal.returns-in-StrongAt-clause-marks
returns-in-StrongAt-clause-marks g c =
    fresh_listed c.args.seat.now c.trace_strong_word-fresh.new.seat c.args.marking.now c.list_held.new.marking c.trace_strong_word-fresh.result
    c.trace_strong_word-fresh.ensures.marks c.list_held.ensures.listed

pub returns-in-StrongAt-clause-told : goal.returns-in-StrongAt-clause-told
returns-in-StrongAt-clause-told g c =
    subst (λ word. Traces c.args.seat.now c.args.notes.now c.trace_strong_word-fresh.new.seat c.args.notes.now c.args.place (word ∷ [])) (sym c.in-StrongAt.is)
    (strong_traces c.args.seat.now c.trace_strong_word-fresh.new.seat c.args.notes.now c.args.place c.in-StrongAt.offset c.trace_strong_word-fresh.ensures.noted
    c.trace_strong_word-fresh.ensures.only)
