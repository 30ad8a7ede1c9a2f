use Rattle.std.proofs.Common.{◌≡◌, map}
use Rattle.std.specs.List.{range_with_len}
use Rattle.type_table.specs.Types.{offset_of}
use Rattle.type_table.proofs.layout.offsets_of.Given as goal

abbrev pub invariant-loop-kind : goal.invariant-loop-kind
invariant-loop-kind l = record {
  next : l.next ≡ offset_of l.kinds l.kind-index;
  done : l.offsets.items ≡ map (offset_of l.kinds) (range_with_len 0 l.kind-index);
}
