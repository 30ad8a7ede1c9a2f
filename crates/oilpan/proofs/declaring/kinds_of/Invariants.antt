use Rattle.std.proofs.Common.{◌≡◌, take}
use Rattle.oilpan.specs.DeclaredTypes.{kinds_of}
use Rattle.oilpan.proofs.declaring.kinds_of.Given as goal

abbrev pub invariant-loop-field : goal.invariant-loop-field
invariant-loop-field l = l.kinds.items ≡ kinds_of (take l.field-index l.fields)
