use Rattle.std.proofs.Common.{◌∙◌}
use Rattle.member_fields.specs.Words.{pair_written}
use Rattle.member_fields.specs.Barrier.{HasBarrier}
use Rattle.member_fields.proofs.Barriers.{off_stays, ready_after, bodies_after, heap_after, key_after}
use Rattle.member_fields.proofs.PairStores.{value_written, value_barrier, pair_takes, pair_addresses}
use Rattle.member_fields.proofs.pairs.set_pair.Goals as goal
use Rattle.member_fields.proofs.pairs.set_pair.Given as given

pub write_key-requires-clause-heap : goal.write_key-requires-clause-heap
write_key-requires-clause-heap g c =
    heap_after c.args.value (value_written c.args.seat.now c.args.holder c.args.word c.args.value) c.args.marking.now c.keep.new.seat c.keep.new.marking
    (value_barrier c.fields_stand_apart.ensures c.args.seat.now c.args.holder c.args.word c.args.value c.args.marking.now c.write_value.new.seat
    c.keep.new.seat c.keep.new.marking c.bodies_lie_apart.ensures c.requires.pair c.requires.ready c.write_value.ensures.view c.keep.ensures)
    ∙ c.requires.heap

pub write_key-requires-clause-takes : goal.write_key-requires-clause-takes
write_key-requires-clause-takes g c =
    pair_takes c.fields_stand_apart.ensures c.args.seat.now c.args.holder c.args.word c.args.key c.args.value c.args.marking.now c.keep.new.seat
    c.keep.new.marking c.bodies_lie_apart.ensures c.requires.pair c.requires.ready c.requires.holder c.requires.key c.requires.key_kept c.requires.both
    (value_barrier c.fields_stand_apart.ensures c.args.seat.now c.args.holder c.args.word c.args.value c.args.marking.now c.write_value.new.seat
    c.keep.new.seat c.keep.new.marking c.bodies_lie_apart.ensures c.requires.pair c.requires.ready c.write_value.ensures.view c.keep.ensures)

barrier :
    (g : given.Over) (c : goal.After-write_key g) → HasBarrier c.args.value (pair_written c.args.seat.now c.args.holder c.args.word c.args.key c.args.value) c.args.marking.now c.write_key.new.seat c.keep.new.marking
barrier g c =
    key_after c.args.value (value_written c.args.seat.now c.args.holder c.args.word c.args.value) c.args.marking.now c.keep.new.seat c.keep.new.marking
    c.args.holder c.args.word c.args.key c.write_key.new.seat
    (value_barrier c.fields_stand_apart.ensures c.args.seat.now c.args.holder c.args.word c.args.value c.args.marking.now c.write_value.new.seat
    c.keep.new.seat c.keep.new.marking c.bodies_lie_apart.ensures c.requires.pair c.requires.ready c.write_value.ensures.view c.keep.ensures)
    c.write_key.ensures.word

pub returns-clause-words : goal.returns-clause-words
returns-clause-words g c = bodies_after c.args.value _ c.args.marking.now c.write_key.new.seat c.keep.new.marking (barrier g c)

pub returns-clause-addresses : goal.returns-clause-addresses
returns-clause-addresses g c =
    pair_addresses c.fields_stand_apart.ensures c.args.seat.now c.args.holder c.args.word c.args.key c.args.value c.write_value.new.seat
    c.bodies_lie_apart.ensures c.bodies_lie_apart-2.ensures c.requires.pair c.write_value.ensures.view

pub returns-clause-barrier : goal.returns-clause-barrier
returns-clause-barrier g c = barrier g c

pub returns-clause-off : goal.returns-clause-off
returns-clause-off g c off = off_stays c.args.value _ c.args.marking.now c.write_key.new.seat c.keep.new.marking off (barrier g c)

pub returns-clause-ready : goal.returns-clause-ready
returns-clause-ready g c =
    ready_after c.args.value _ c.args.marking.now c.write_key.new.seat c.keep.new.marking
    (record { no_hand = c.requires.ready.no_hand; no_pending = c.requires.ready.no_pending }) (barrier g c)
