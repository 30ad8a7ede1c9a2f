use Rattle.std.proofs.Common.{ap}
use Rattle.gc_graph.specs.declared.kind.Kind.TheVariants.{Strong}
use Rattle.gc_graph.specs.Fields.{is_reference}
use Rattle.type_table.specs.Types.{is_kind}
use Rattle.marker_core.specs.Bodies.{IsReference}
use Rattle.member_fields.specs.Looked.{word_looked, word_from}
use Rattle.prefinalizer_effects.proofs.FieldWords.{link_reference, reference_fits, names_place}
use Rattle.page_words.specs.Looking.{looks_same, looks_on}
use Rattle.prefinalizer_effects.proofs.fields.linked_from.Goals as goal

refers : (c : goal.After-get) → IsReference c.args.seat.now.bodies c.get.result
refers c =
    link_reference c.args.seat.now c.args.place c.in-Some-Strong-default.word c.get.result c.requires.links
    (c.in-Some-Strong-default.ensures.word (is_kind Strong) (ap (is_kind Strong) c.in-Some-Strong-default.field-0-0-is))
    (word_from c.args.seat.now c.field_in.new.seat c.args.place c.in-Some-Strong-default.word c.get.result c.field_in.ensures.view c.get.ensures.word)

pub get-requires-clause-field : goal.get-requires-clause-field
get-requires-clause-field c =
    word_looked is_reference c.args.seat.now c.field_in.new.seat c.args.place c.in-Some-Strong-default.word c.field_in.ensures.view
    (c.in-Some-Strong-default.ensures.word is_reference (ap is_reference c.in-Some-Strong-default.field-0-0-is))

pub place_in-requires : goal.place_in-requires
place_in-requires c = reference_fits c.args.seat.now c.get.result c.bodies_lie_apart.ensures (refers c)

pub returns-in-Some-Strong-default-clause-place : goal.returns-in-Some-Strong-default-clause-place
returns-in-Some-Strong-default-clause-place c = names_place c.args.seat.now.bodies c.get.result c.place_in.result (refers c.before) c.place_in.ensures

pub returns-in-Some-Strong-default-clause-looked : goal.returns-in-Some-Strong-default-clause-looked
returns-in-Some-Strong-default-clause-looked c =
    looks_on c.args.seat.now c.field_in.new.seat c.get.new.seat c.field_in.ensures.looked (looks_same c.field_in.new.seat c.get.new.seat c.get.ensures.view)
