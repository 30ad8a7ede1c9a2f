use Rattle.std.proofs.Common.{◌≡◌, Err, sym, subst}
use Rattle.std.specs.Prelude.{MatchOption}
use Rattle.gc_graph.specs.declared.line.Refusal.TheVariants as R
use Rattle.heap_cycle.specs.Fields.{allows, FindsField}
use Rattle.heap_cycle.specs.Ties.{slot_names}
use Rattle.heap_engine.proofs.fields.field_of.Goals as goal

pub field_at-requires-clause-place : goal.field_at-requires-clause-place
field_at-requires-clause-place c =
    let named = slot_names c.args.parts.now c.args.p c.in-Some.place c.requires.ready (sym c.in-Some.ensures) in
    (named.0, named.2)

pub returns-in-Some-clause-field : goal.returns-in-Some-clause-field
returns-in-Some-clause-field c =
    let named = slot_names c.args.parts.now c.args.p c.in-Some.place c.requires.ready (sym c.in-Some.ensures) in
    subst (λ slot. MatchOption slot (c.field_at.result ≡ Err R.Null) (λ n. FindsField (allows c.args.wanted) c.args.parts.now.objects.nodes n c.args.f c.field_at.result)) (sym named.1)
    (c.field_at.ensures.field named.0 named.2)
