use Rattle.std.proofs.Common.{All, refl, sym, ap, ◌∙◌, subst}
use Rattle.std.proofs.Transfers.{starts_with_trans}
use Rattle.gc_graph.specs.declared.kind.Kind.TheVariants.{Pair}
use Rattle.marker_core.specs.Bodies.{IsPlace}
use Rattle.page_words.specs.Seat.{SeatView, OnlyLooked}
use Rattle.persistent_slots.specs.Clearing.{taken}
use Rattle.weak_clearing.specs.Clearing.{MarkedHaveReferencesOf, MarkedHaveWeakReferences, with_weak_cleared, with_pairs_cleared}
use Rattle.atomic_pause.proofs.PairReferences.{pairs_still_refer}
use Rattle.atomic_pause.proofs.clearing.clear_weak.Goals as goal

-- the weak fields are cleared, and headers were looked at
fields_cleared : (v slots fields : SeatView) → OnlyLooked v slots → OnlyLooked (with_weak_cleared slots) fields → OnlyLooked (with_weak_cleared v) fields
fields_cleared v slots fields looked cleared = cleared ∙ ap with_weak_cleared looked

pub clear_slots-requires-clause-places : goal.clear_slots-requires-clause-places
clear_slots-requires-clause-places c =
    subst (λ (v : SeatView). All (IsPlace v.bodies) (taken c.args.weak.now)) (sym c.prepare.ensures.view) c.requires.places

pub clear_fields-requires-clause-references : goal.clear_fields-requires-clause-references
clear_fields-requires-clause-references c = subst MarkedHaveWeakReferences (sym (c.clear_slots.ensures.view ∙ c.prepare.ensures.view)) c.requires.references

pub clear_pairs-requires-clause-references : goal.clear_pairs-requires-clause-references
clear_pairs-requires-clause-references c =
    subst (MarkedHaveReferencesOf Pair)
    (sym (fields_cleared c.args.seat.now c.clear_slots.new.seat c.clear_fields.new.seat (c.clear_slots.ensures.view ∙ c.prepare.ensures.view) c.clear_fields.ensures.cleared))
    (pairs_still_refer c.args.seat.now (with_weak_cleared c.args.seat.now) refl c.requires.pairs)

pub returns-clause-fields : goal.returns-clause-fields
returns-clause-fields c =
    c.clear_pairs.ensures.cleared
    ∙ ap with_pairs_cleared (fields_cleared c.args.seat.now c.clear_slots.new.seat c.clear_fields.new.seat (c.clear_slots.ensures.view ∙ c.prepare.ensures.view) c.clear_fields.ensures.cleared)

pub returns-clause-looked : goal.returns-clause-looked
returns-clause-looked c =
    starts_with_trans c.clear_pairs.new.seat.looked c.clear_fields.new.seat.looked c.args.seat.now.looked c.clear_pairs.ensures.looked
    (starts_with_trans c.clear_fields.new.seat.looked c.clear_slots.new.seat.looked c.args.seat.now.looked c.clear_fields.ensures.looked
    (starts_with_trans c.clear_slots.new.seat.looked c.prepare.new.seat.looked c.args.seat.now.looked c.clear_slots.ensures.looked
    c.prepare.ensures.looked))
