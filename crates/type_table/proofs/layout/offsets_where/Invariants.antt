use Rattle.std.proofs.Common.{◌≡◌, map}
use Rattle.std.specs.List.{filter, range_with_len}
use Rattle.type_table.specs.Types.{offset_of, is_field, is_kind}
use Rattle.type_table.proofs.layout.offsets_where.Given as goal

abbrev pub invariant-loop-field : goal.invariant-loop-field
invariant-loop-field l =
    l.found.items ≡ map (offset_of l.kinds) (filter (is_field (is_kind l.wanted) l.kinds) (range_with_len 0 l.field))
