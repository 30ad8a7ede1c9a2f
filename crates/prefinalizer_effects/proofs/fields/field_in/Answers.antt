use Rattle.std.proofs.Common.{◌-◌}
use Rattle.prefinalizer_effects.specs.Places.{IsFound}
use Rattle.prefinalizer_effects.proofs.FieldWords.{type_told, extra_told, field_told, type_known, size_least, found_words, found_pairs}
use Rattle.page_words.specs.Looking.{looks_at}
use Rattle.prefinalizer_effects.proofs.fields.field_in.Goals as goal

pub size_of-requires-clause-ty : goal.size_of-requires-clause-ty
size_of-requires-clause-ty c =
    let at = c.requires.place in
    type_known c.args.seat.now c.args.types.now at.0 c.header_at-header.result c.requires.types (c.header_at-header.ensures.header at.0 at.1 at.2) (c.requires.typed at.0 at.1)

pub overflow_sub-extra : goal.overflow_sub-extra
overflow_sub-extra c =
    let at = c.requires.place in
    size_least c.args.seat.now c.args.types.now at.0 c.header_at-header.result c.size_of.result c.requires.types (c.header_at-header.ensures.header at.0 at.1 at.2)
    c.size_of.ensures.size (c.requires.typed at.0 at.1)

pub field_at-requires-clause-ty : goal.field_at-requires-clause-ty
field_at-requires-clause-ty c =
    let at = c.requires.place in
    type_known c.args.seat.now c.args.types.now at.0 c.header_at-header.result c.requires.types (c.header_at-header.ensures.header at.0 at.1 at.2) (c.requires.typed at.0 at.1)

is_found : (c : goal.After-field_at) → IsFound c.args.seat.now c.args.place c.args.field c.field_at.result
is_found c b there at =
    let is = c.header_at-header.ensures.header b there at in
    field_told c.args.seat.now c.args.types.now b c.header_at-header.result.ty (c.header_at-header.result.size - c.size_of.result) c.args.field c.field_at.result
    c.requires.types (type_told c.args.seat.now b c.header_at-header.result is)
    (extra_told c.args.seat.now c.args.types.now b c.header_at-header.result c.size_of.result c.requires.types is c.size_of.ensures.size) c.field_at.ensures

pub returns-clause-found : goal.returns-clause-found
returns-clause-found c = is_found c

pub returns-clause-word : goal.returns-clause-word
returns-clause-word c = found_words c.args.seat.now c.args.place c.args.field c.field_at.result c.fields_stand_apart.ensures c.requires.typed c.requires.place (is_found c)

pub returns-clause-pair : goal.returns-clause-pair
returns-clause-pair c = found_pairs c.args.seat.now c.args.place c.args.field c.field_at.result c.fields_stand_apart.ensures c.requires.typed c.requires.place (is_found c)

pub returns-clause-looked : goal.returns-clause-looked
returns-clause-looked c = looks_at c.args.seat.now c.header_at-header.new.seat c.args.place c.header_at-header.ensures.looked
