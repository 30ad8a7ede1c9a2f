use Rattle.std.proofs.Common.{ap}
use Rattle.page_words.specs.Seat.{Heap}
use Rattle.heap_objects.proofs.objects.Objects.seat_has_all_words.Goals as goal

pub returns : goal.returns
returns c = rw (← c.self.view_is) (ap (λ (h : Heap). h.count) c.self.invariant.laid.words)
