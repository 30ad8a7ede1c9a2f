use Rattle.std.proofs.Common.{ap, ◌∙◌}
use Rattle.gc_graph.specs.Fields.{is_plain}
use Rattle.heap_cycle.specs.declared.parts.Parts.{Parts}
use Rattle.heap_cycle.specs.Objects.{ObjectsView}
use Rattle.heap_engine.proofs.FieldAnswers.{Found, found, field_kind, step_word}
use Rattle.heap_cycle.specs.Ties.{valid_nodes}
use Rattle.heap_engine.proofs.fields.read_word.Goals as goal

pub word_at-requires-clause-valid : goal.word_at-requires-clause-valid
word_at-requires-clause-valid c = rw c.in-Ok.ensures.same (valid_nodes c.args.parts.now c.requires.ready)

pub word_at-requires-clause-field : goal.word_at-requires-clause-field
word_at-requires-clause-field c =
    let is : Found is_plain c.args.parts.now c.args.p c.args.f c.in-Ok.field =
    found is_plain c.args.parts.now c.args.p c.args.f c.in-Ok.field c.requires.ready c.in-Ok.ensures.field in
    rw c.in-Ok.ensures.same (is.node, c.args.f, is.is)

pub word_at-requires-clause-plain : goal.word_at-requires-clause-plain
word_at-requires-clause-plain c =
    field_kind is_plain c.args.parts.now c.args.p c.args.f c.in-Ok.field
    (found is_plain c.args.parts.now c.args.p c.args.f c.in-Ok.field c.requires.ready c.in-Ok.ensures.field)

pub returns-in-Ok-clause-step : goal.returns-in-Ok-clause-step
returns-in-Ok-clause-step c =
    let s : Parts = c.args.parts.now in
    let is : Found is_plain s c.args.p c.args.f c.in-Ok.field = found is_plain s c.args.p c.args.f c.in-Ok.field c.requires.ready c.in-Ok.ensures.field in
    step_word s _ c.args.p c.args.f c.word_at.result c.in-Ok.field is ((rw c.in-Ok.ensures.same at c.word_at.ensures.number) is.node c.args.f is.is)
    (ap (λ (x : ObjectsView). record c.field_of.new.parts { objects = x }) c.word_at.ensures.same ∙ c.in-Ok.ensures.same)
