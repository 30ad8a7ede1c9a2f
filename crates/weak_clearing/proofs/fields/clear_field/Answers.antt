use Rattle.std.proofs.Common.{◌≡◌, true, false, refl, ap, sym, ◌∙◌, inl}
use Rattle.gc_graph.specs.Fields.{is_weak}
use Rattle.page_words.specs.Seat.{SeatView, unlooked}
use Rattle.member_fields.specs.Words.{written}
use Rattle.member_fields.specs.Looked.{word_looked}
use Rattle.weak_clearing.specs.declared.weak_handles.WeakHandles.TheVariants.{Fields}
use Rattle.weak_clearing.specs.Clearing.{names_unmarked}
use Rattle.page_words.specs.Looking.{looks_as, looks_on}
use Rattle.weak_clearing.proofs.Words.{field_word, handle_stays, field_nulled}
use Rattle.weak_clearing.proofs.fields.clear_field.Goals as goal

pub set_weak-requires-clause-field : goal.set_weak-requires-clause-field
set_weak-requires-clause-field c =
    word_looked is_weak c.args.seat.now c.is_dying.new.seat c.args.holder c.args.word c.is_dying.ensures.view
    (field_word is_weak c.args.seat.now c.args.holder c.args.word refl c.requires.field)

pub set_weak-requires-clause-target : goal.set_weak-requires-clause-target
set_weak-requires-clause-target c = inl refl

pub returns-then-is_dying-clause-cleared : goal.returns-then-is_dying-clause-cleared
returns-then-is_dying-clause-cleared c =
    let (target, holds, names) = c.is_dying.ensures.names in
    let named : names_unmarked c.args.seat.now.marked target ≡ true = sym names ∙ c.if-is_dying.true in
    ap unlooked c.set_weak.ensures.word ∙ ap (λ (v : SeatView). written v c.args.holder c.args.word 0) c.is_dying.ensures.view
    ∙ ap unlooked (field_nulled c.args.seat.now c.args.holder c.args.word target holds named)

pub returns-else-is_dying-clause-cleared : goal.returns-else-is_dying-clause-cleared
returns-else-is_dying-clause-cleared c =
    let (target, holds, names) = c.is_dying.ensures.names in
    let kept : names_unmarked c.args.seat.now.marked target ≡ false = sym names ∙ c.if-is_dying.false in
    c.is_dying.ensures.view ∙ ap unlooked (handle_stays c.args.seat.now c.args.holder c.args.word target holds Fields kept)

pub returns-then-is_dying-clause-looked : goal.returns-then-is_dying-clause-looked
returns-then-is_dying-clause-looked c =
    looks_on c.args.seat.now c.is_dying.new.seat c.set_weak.new.seat c.is_dying.ensures.looked
    (looks_as c.is_dying.new.seat c.set_weak.new.seat (ap (λ (v : SeatView). v.looked) c.set_weak.ensures.word))
