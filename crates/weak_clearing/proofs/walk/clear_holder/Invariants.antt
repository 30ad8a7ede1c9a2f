use Rattle.std.proofs.Common.{take}
use Rattle.std.specs.Io.{StartsWith}
use Rattle.page_words.specs.Seat.{OnlyLooked}
use Rattle.weak_clearing.proofs.Holder.{listed_cleared}
use Rattle.weak_clearing.proofs.walk.clear_holder.Given as goal

abbrev pub invariant-loop-word : goal.invariant-loop-word
invariant-loop-word l = record {
  cleared : OnlyLooked (listed_cleared l.handles l.initial.seat l.holder (take l.word-index l.words)) l.seat;
  looked : StartsWith l.seat.looked l.initial.seat.looked;
}
