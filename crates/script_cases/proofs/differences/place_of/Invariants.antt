use Rattle.std.proofs.Common.{◌≡◌, ◌+◌, ◌≤◌, ◌==◌, not, take, count_by}
use Rattle.std.specs.List.{suffix_len}
use Rattle.script_cases.proofs.differences.place_of.Given as goal

abbrev pub invariant-loop-byte : goal.invariant-loop-byte
invariant-loop-byte l =
    (l.place.line ≡ count_by (λ byte. byte == 10) (take l.byte-index l.byte-items) + 1)
    × (l.place.column ≡ suffix_len (λ byte. not (byte == 10)) (take l.byte-index l.byte-items) + 1)
    × (l.place.line ≤ l.byte-index + 1)
    × (l.place.column ≤ l.byte-index + 1)
