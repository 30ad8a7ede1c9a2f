use Rattle.std.proofs.Common.{take, ◌≤◌}
use Rattle.command_text.specs.Said.{IsReadOn}
use Rattle.command_text.proofs.said.read_places.Given as goal

abbrev pub invariant-loop-spot : goal.invariant-loop-spot
invariant-loop-spot l = (l.said.rank ≤ 9) × IsReadOn l.bounds (take l.spot-index l.spots) l.bytes l.fn.before l.said
