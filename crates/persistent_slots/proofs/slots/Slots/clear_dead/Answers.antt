use Rattle.std.proofs.Common.{rules, ◌<◌, length, sym, subst}
use Rattle.persistent_slots.specs.Clearing.{AsksInTurn}
use Rattle.persistent_slots.proofs.InTurn.{asks_at, asks_on, cleared_to_none, cleared_on, cleared_to_all, cleared_by}
use Rattle.persistent_slots.proofs.slots.Slots.clear_dead.Goals as goal

pub loop-i-init : goal.loop-i-init
loop-i-init g c = record {
  asks = subst (AsksInTurn _ _ c.args.dead) (sym c.self.view_is) c.requires.in_turn;
  done = cleared_to_none _ _ _;
  len = search rules;
}

pub unless_dead-slot-requires : goal.unless_dead-slot-requires
unless_dead-slot-requires g c =
    let l : c.loop-i.i < length c.loop-i.self-inside.places.items = search rules in
    asks_at _ _ _ _ _ _ c.index-slot.ensures l c.loop-i.invariant.asks

pub loop-i-preserved : goal.loop-i-preserved
loop-i-preserved g c =
    let l : c.loop-i.i < length c.loop-i.self-inside.places.items = search rules in
    record {
      asks = asks_on _ _ _ _ _ _ _ _ c.index-slot.ensures l c.loop-i.invariant.asks c.unless_dead-slot.ensures;
      done = cleared_on _ _ _ _ _ _ _ _ _ c.index-slot.ensures l c.loop-i.invariant.done c.unless_dead-slot.ensures;
      len = search rules;
    }

pub returns-clause-cleared : goal.returns-clause-cleared
returns-clause-cleared g c = cleared_to_all _ _ _ _ _ _ _ c.self.view_is (search rules) c.loop-i.invariant.done

pub returns-clause-exactly : goal.returns-clause-exactly
returns-clause-exactly g c rule answers = cleared_by _ rule _ _ _ answers.in_turn (returns-clause-cleared g c)
