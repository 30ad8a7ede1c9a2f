use Rattle.oilpan.proofs.Slots.{weak_apart}
use Rattle.oilpan.proofs.Cycling.{exact}
use Rattle.oilpan.proofs.Keeping.{still}
use Rattle.oilpan.proofs.Making.{new_lines}
use Rattle.oilpan.proofs.Fielding.{set_asks}
use Rattle.oilpan.proofs.flags.free_flag.Goals as goal
