use Rattle.std.proofs.Common.{◌≤◌, ◌+◌, ◌-◌, length, vec_len, ◌≡◌}
use Rattle.text_devices.specs.Devices.{IsReadUpTo}
use Rattle.text_devices.proofs.reading.read_whole.Given as goal

abbrev pub invariant-loop-buffer : goal.invariant-loop-buffer
invariant-loop-buffer g l = record {
  steady : g.S.Source.faults l.source ≡ g.S.Source.faults l.initial.source;
  room : vec_len l.bytes ≤ l.limit + 1;
  buffer_len : length l.buffer ≡ 65536;
  read : IsReadUpTo (g.S.Source.left l.initial.source) (g.S.Source.left l.source) l.bytes.items;
}

abbrev pub decreases-loop-buffer : goal.decreases-loop-buffer
decreases-loop-buffer g l = (l.limit + 1) - vec_len l.bytes
