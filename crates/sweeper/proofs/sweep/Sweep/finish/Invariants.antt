use Rattle.std.proofs.Common.{◌≡◌, ◌-◌, ◌≤◌, vec_capacity}
use Rattle.sweeper.specs.Sweeping.{cursor_at, MaySweep, Sweeps}
use Rattle.sweeper.proofs.sweep.Sweep.finish.Given as goal

abbrev pub invariant-loop-self : goal.invariant-loop-self
invariant-loop-self l = record {
  swept :
      Sweeps (cursor_at l.initial.space.shape l.initial.self) (cursor_at l.initial.space.shape l.self) l.initial.seat l.initial.done.items l.seat
      l.done.items;
  pages : l.self.pages ≡ l.initial.self.pages;
  low : l.initial.self.cursor ≤ l.self.cursor;
  sweeping : MaySweep l.self l.space l.seat;
  shape : l.space.shape ≡ l.initial.space.shape;
  room : vec_capacity l.done ≡ vec_capacity l.initial.done;
}

abbrev pub decreases-loop-self : goal.decreases-loop-self
decreases-loop-self l = l.self.pages - l.self.cursor
