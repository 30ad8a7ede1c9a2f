use Rattle.std.proofs.Common.{◌≡◌, true, false, ap, sym, ◌∙◌, subst}
use Rattle.marker_core.specs.Bodies.{IsReference}
use Rattle.page_words.specs.Seat.{SeatView, unlooked}
use Rattle.member_fields.specs.Words.{pair_written}
use Rattle.member_fields.specs.Looked.{pair_looked}
use Rattle.weak_clearing.specs.declared.weak_handles.WeakHandles.TheVariants.{Pairs}
use Rattle.weak_clearing.specs.Clearing.{names_unmarked}
use Rattle.page_words.specs.Looking.{looks_as, looks_on, looks_from}
use Rattle.weak_clearing.proofs.Words.{whole_pair, reads_reference, handle_stays, pair_nulled}
use Rattle.weak_clearing.proofs.pairs.clear_pair.Goals as goal

pub read_pair-key-requires-clause-pair : goal.read_pair-key-requires-clause-pair
read_pair-key-requires-clause-pair c = whole_pair c.args.seat.now c.args.holder c.args.word c.requires.pair

pub is_to_unmarked-requires-clause-reference : goal.is_to_unmarked-requires-clause-reference
is_to_unmarked-requires-clause-reference c =
    subst (λ (v : SeatView). IsReference v.bodies c.read_pair-key.result.0) (sym c.read_pair-key.ensures.view)
    (reads_reference Pairs c.args.seat.now c.args.holder c.args.word c.read_pair-key.result.0 c.requires.pair c.read_pair-key.ensures.key)

pub clear_pair-requires-clause-pair : goal.clear_pair-requires-clause-pair
clear_pair-requires-clause-pair c =
    pair_looked c.args.seat.now c.is_to_unmarked.new.seat c.args.holder c.args.word (c.is_to_unmarked.ensures.view ∙ ap unlooked c.read_pair-key.ensures.view)
    (whole_pair c.args.seat.now c.args.holder c.args.word c.requires.pair)

pub returns-then-is_to_unmarked-clause-cleared : goal.returns-then-is_to_unmarked-clause-cleared
returns-then-is_to_unmarked-clause-cleared c =
    let named : names_unmarked c.args.seat.now.marked c.read_pair-key.result.0 ≡ true =
    ap (λ (v : SeatView). names_unmarked v.marked c.read_pair-key.result.0) (sym c.read_pair-key.ensures.view) ∙ sym c.is_to_unmarked.ensures.names ∙ c.if-is_to_unmarked.true in
    ap unlooked c.clear_pair.ensures.words
    ∙ ap (λ (v : SeatView). pair_written v c.args.holder c.args.word 0 0) (c.is_to_unmarked.ensures.view ∙ ap unlooked c.read_pair-key.ensures.view)
    ∙ ap unlooked (pair_nulled c.args.seat.now c.args.holder c.args.word c.read_pair-key.result.0 c.read_pair-key.ensures.key c.requires.pair.first named)

pub returns-else-is_to_unmarked-clause-cleared : goal.returns-else-is_to_unmarked-clause-cleared
returns-else-is_to_unmarked-clause-cleared c =
    let kept : names_unmarked c.args.seat.now.marked c.read_pair-key.result.0 ≡ false =
    ap (λ (v : SeatView). names_unmarked v.marked c.read_pair-key.result.0) (sym c.read_pair-key.ensures.view) ∙ sym c.is_to_unmarked.ensures.names ∙ c.if-is_to_unmarked.false in
    c.is_to_unmarked.ensures.view ∙ ap unlooked c.read_pair-key.ensures.view
    ∙ ap unlooked (handle_stays c.args.seat.now c.args.holder c.args.word c.read_pair-key.result.0 c.read_pair-key.ensures.key Pairs kept)

pub returns-then-is_to_unmarked-clause-looked : goal.returns-then-is_to_unmarked-clause-looked
returns-then-is_to_unmarked-clause-looked c =
    looks_on c.args.seat.now c.is_to_unmarked.new.seat c.clear_pair.new.seat
    (looks_from c.args.seat.now c.read_pair-key.new.seat c.is_to_unmarked.new.seat c.read_pair-key.ensures.view c.is_to_unmarked.ensures.looked)
    (looks_as c.is_to_unmarked.new.seat c.clear_pair.new.seat (ap (λ (v : SeatView). v.looked) c.clear_pair.ensures.words))

pub returns-else-is_to_unmarked-clause-looked : goal.returns-else-is_to_unmarked-clause-looked
returns-else-is_to_unmarked-clause-looked c =
    looks_from c.args.seat.now c.read_pair-key.new.seat c.is_to_unmarked.new.seat c.read_pair-key.ensures.view c.is_to_unmarked.ensures.looked
