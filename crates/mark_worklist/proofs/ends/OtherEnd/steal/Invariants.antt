use Rattle.std.proofs.Common.{◌≡◌, ◌⊎◌, ◌<◌}
use Rattle.crossbeam_deque.specs.Handles.{stealer_deque, stealer_flavor, taken, view, IsPassOf}
use Rattle.mark_worklist.specs.Hands.{WasEmpty}
use Rattle.mark_worklist.specs.Ends.{hand_of}
use Rattle.mark_worklist.proofs.ends.OtherEnd.steal.Given as goal

abbrev pub invariant-loop-try : goal.invariant-loop-try
invariant-loop-try l = record {
  stealer : l.self-inside.stealer ≡ l.initial.self-inside.stealer;
  flavor : stealer_flavor l.self-inside.stealer ≡ 0;
  list : (stealer_deque l.self-inside.stealer).0 ≡ l.fn.self.list;
  pass : IsPassOf (stealer_deque l.self-inside.stealer) l.self-inside.pass;
  hand : view l.self-inside.pass ≡ hand_of l.fn.self;
  why : ((l._try ≡ 0) × (taken l.self-inside.pass ≡ l.fn.self.seen)) ⊎ ((l.fn.self.seen < taken l.self-inside.pass) ⊎ WasEmpty (hand_of l.fn.self));
}
