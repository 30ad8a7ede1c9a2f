use Rattle.std.proofs.Common.{◌≡◌}
use Rattle.oilpan.specs.DeclaredTypes.{types_of, named_all}
use Rattle.oilpan.proofs.types.parted.Given as goal

abbrev pub invariant-loop-object : goal.invariant-loop-object
invariant-loop-object l = (l.decls.items ≡ types_of l.yielded) × (l.named.items ≡ named_all l.yielded)
