use Rattle.std.proofs.Common.{rules, ◌≡◌, ◌++◌, take, drop, arith}
use Rattle.std.proofs.lemmas.Grind.{common_steps}
use Rattle.std.proofs.lemmas.List.{take-append-le}
use Rattle.text_devices.proofs.PieceByPiece.{read_more, read_to_end}
use Rattle.text_devices.proofs.reading.read_whole.Goals as goal

pub returns-then-count-eq0-clause-bytes : goal.returns-then-count-eq0-clause-bytes
returns-then-count-eq0-clause-bytes g c =
    read_to_end _ _ _ c.loop-buffer.bytes.items c.read.new.buffer c.args.limit (omega arith) c.loop-buffer.invariant.read
    (rw c.if-count-eq0.true at c.in-Ok.ensures.bytes)

pub loop-buffer-preserved : goal.loop-buffer-preserved
loop-buffer-preserved g c =
    let all = c.read.new.buffer ++ drop c.min-room.result c.loop-buffer.buffer in
    let grown : c.extend_from_slice.new.self.items ≡ c.loop-buffer.bytes.items ++ take c.in-Ok.count all = search rules in
    record {
      steady = search rules;
      room = grind (arith, common_steps);
      buffer_len = grind (arith, common_steps);
      read = rw grown (read_more _ _ _ _ c.read.new.buffer _ c.in-Ok.count c.loop-buffer.invariant.read c.in-Ok.ensures.bytes
          (take-append-le c.in-Ok.count c.read.new.buffer _ c.in-Ok.ensures.bound));
    }
