use Rattle.std.proofs.Common.{refl, ap, sym, ◌∙◌, subst}
use Rattle.gc_graph.specs.Fields.{is_reference}
use Rattle.marker_core.specs.Bodies.{IsReference}
use Rattle.page_words.specs.Seat.{SeatView, unlooked}
use Rattle.page_words.specs.Looking.{looks_from}
use Rattle.weak_clearing.specs.declared.weak_handles.WeakHandles.TheVariants.{Fields}
use Rattle.weak_clearing.specs.Clearing.{names_unmarked}
use Rattle.weak_clearing.proofs.Words.{field_word, reads_reference}
use Rattle.weak_clearing.proofs.dying_fields.is_dying.Goals as goal

pub get-target-requires-clause-field : goal.get-target-requires-clause-field
get-target-requires-clause-field c = field_word is_reference c.args.seat.now c.args.holder c.args.word refl c.requires.field

pub is_to_unmarked-requires-clause-reference : goal.is_to_unmarked-requires-clause-reference
is_to_unmarked-requires-clause-reference c =
    subst (λ (v : SeatView). IsReference v.bodies c.get-target.result) (sym c.get-target.ensures.view)
    (reads_reference Fields c.args.seat.now c.args.holder c.args.word c.get-target.result c.requires.field c.get-target.ensures.word)

pub returns-clause-names : goal.returns-clause-names
returns-clause-names c =
    (c.get-target.result, c.get-target.ensures.word, c.is_to_unmarked.ensures.names ∙ ap (λ (v : SeatView). names_unmarked v.marked c.get-target.result) c.get-target.ensures.view)

pub returns-clause-view : goal.returns-clause-view
returns-clause-view c = c.is_to_unmarked.ensures.view ∙ ap unlooked c.get-target.ensures.view

pub returns-clause-looked : goal.returns-clause-looked
returns-clause-looked c =
    looks_from c.args.seat.now c.get-target.new.seat c.is_to_unmarked.new.seat c.get-target.ensures.view c.is_to_unmarked.ensures.looked
