use Rattle.std.proofs.Common.{true}
use Rattle.oilpan.proofs.heap.Oilpan.get.Goals as goal
