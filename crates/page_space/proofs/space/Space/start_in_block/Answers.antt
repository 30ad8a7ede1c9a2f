use Rattle.std.proofs.Common.{ap, ◌∙◌, sym, arith}
use Rattle.page_space.specs.Space.{heap_of}
use Rattle.gap_bounds.specs.Seat.{Heap}
use Rattle.page_space.proofs.space.Space.start_in_block.Goals as goal

pub start_in_block-requires-clause-heap : goal.start_in_block-requires-clause-heap
start_in_block-requires-clause-heap c = c.requires.heap ∙ ap heap_of (sym c.self.view_is) ∙ sym c.self.invariant.words ∙ sym c.deref.ensures
