use Rattle.std.proofs.Common.{◌≡◌, replicate, None, vec_len, vec_capacity}
use Rattle.persistent_slots.proofs.slots.Slots.new.Given as goal

abbrev pub invariant-loop-slot : goal.invariant-loop-slot
invariant-loop-slot l = record {
  items : l.places.items ≡ replicate l._slot None;
  len : vec_len l.places ≡ l._slot;
  room : vec_capacity l.places ≡ l.n;
}
