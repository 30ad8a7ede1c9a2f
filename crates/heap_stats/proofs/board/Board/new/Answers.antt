use Rattle.std.proofs.Common.{rules}
use Rattle.heap_stats.proofs.Turns.{opens}
use Rattle.heap_stats.proofs.board.Board.new.Goals as goal

pub ruled-requires : goal.ruled-requires
ruled-requires c = (search rules, (search rules, opens))
