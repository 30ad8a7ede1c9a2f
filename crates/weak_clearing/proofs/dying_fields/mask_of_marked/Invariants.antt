use Rattle.std.proofs.Common.{◌≡◌, take}
use Rattle.std.specs.Io.{StartsWith}
use Rattle.std.specs.List.{Contains, sum_by}
use Rattle.marker_core.specs.declared.states.Body.{Body}
use Rattle.page_words.specs.Seat.{OnlyLooked}
use Rattle.weak_clearing.proofs.DyingWords.{weight}
use Rattle.weak_clearing.proofs.dying_fields.mask_of_marked.Given as goal

abbrev pub invariant-loop-word : goal.invariant-loop-word
invariant-loop-word l = record {
  view : OnlyLooked l.initial.seat l.seat;
  looked : StartsWith l.seat.looked l.initial.seat.looked;
  mask : (b : Body) → Contains l.initial.seat.bodies b → b.place ≡ l.holder
      → l.mask ≡ sum_by (weight l.initial.seat.marked b.fields) (take l.word-index l.word-items);
}
