use Rattle.std.proofs.Common.{sym, ap, subst, ◌∙◌}
use Rattle.page_words.specs.Seat.{unlooked}
use Rattle.weak_clearing.specs.declared.weak_handles.WeakHandles.{WeakHandles}
use Rattle.weak_clearing.specs.Steps.{HasHandle, handle_cleared}
use Rattle.weak_clearing.proofs.walk.clear_handle.Goals as goal

pub clear_field-requires-clause-field : goal.clear_field-requires-clause-field
clear_field-requires-clause-field c =
    subst (λ (handles : WeakHandles). HasHandle handles c.args.seat.now c.args.holder c.args.word) c.in-Fields.is c.requires.handle

pub returns-in-Fields-clause-cleared : goal.returns-in-Fields-clause-cleared
returns-in-Fields-clause-cleared c =
    c.clear_field.ensures.cleared
    ∙ ap (λ (handles : WeakHandles). unlooked (handle_cleared handles c.args.seat.now c.args.holder c.args.word)) (sym c.in-Fields.is)
