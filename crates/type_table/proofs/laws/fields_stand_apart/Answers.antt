use Rattle.type_table.proofs.FieldsApart.{begins_at, told_at, one_field}
use Rattle.type_table.proofs.WordKinds.{kind_at}
use Rattle.type_table.proofs.laws.fields_stand_apart.Goals as goal

pub returns : goal.returns
returns c = record { begin = begins_at; told = told_at; kind = kind_at; apart = one_field }
