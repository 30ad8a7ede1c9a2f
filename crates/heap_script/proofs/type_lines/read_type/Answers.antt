use Rattle.std.proofs.Common.{sym, ◌∙◌, arith}
use Rattle.heap_script.proofs.TypeLists.{no_letters, wrong_letters, too_much, too_wide, type_fine, type_read}
use Rattle.heap_script.proofs.type_lines.read_type.Goals as goal

pub returns-then-start-after-clause-fault : goal.returns-then-start-after-clause-fault
returns-then-start-after-clause-fault c = no_letters _ _ _ (c.next_word-start.ensures.none (omega arith)).0

pub returns-then-not-are_letters-clause-fault : goal.returns-then-not-are_letters-clause-fault
returns-then-not-are_letters-clause-fault c =
    wrong_letters _ _ _ _ _ (c.next_word-start.ensures.some (omega arith)) (sym c.are_letters.ensures ∙ c.if-not-are_letters.true)

pub returns-then-is_over-clause-fault : goal.returns-then-is_over-clause-fault
returns-then-is_over-clause-fault c =
    too_much _ _ c.args.bytes.now _ _ c.next_word-start.result.1 c.in-Ok.lists c.is_over.result (c.next_word-start.ensures.some (omega arith))
    (sym c.are_letters.ensures ∙ c.if-not-are_letters.false) c.in-Ok.ensures.fine c.in-Ok.ensures.called c.is_over.ensures c.if-is_over.true

pub returns-then-is_past_shown-clause-fault : goal.returns-then-is_past_shown-clause-fault
returns-then-is_past_shown-clause-fault c =
    too_wide _ _ c.args.bytes.now _ _ c.next_word-start.result.1 c.in-Ok.lists c.is_over.result (c.next_word-start.ensures.some (omega arith))
    (sym c.are_letters.ensures ∙ c.if-not-are_letters.false) c.in-Ok.ensures.fine c.in-Ok.ensures.called c.is_over.ensures
    c.in-Ok-kinds_of.kinds.items c.in-Ok-kinds_of.ensures c.if-is_over.false
    (rw (c.deref.ensures.value, c.deref-2.ensures.value) at (sym c.is_past_shown.ensures ∙ c.if-is_past_shown.true))

pub returns-clause-fine : goal.returns-clause-fine
returns-clause-fine c =
    type_fine _ _ c.args.bytes.now _ _ c.next_word-start.result.1 c.in-Ok.lists c.is_over.result (c.next_word-start.ensures.some (omega arith))
    (sym c.are_letters.ensures ∙ c.if-not-are_letters.false) c.in-Ok.ensures.fine c.in-Ok.ensures.called c.is_over.ensures
    c.in-Ok-kinds_of.kinds.items c.in-Ok-kinds_of.ensures c.if-is_over.false
    (rw (c.deref.ensures.value, c.deref-2.ensures.value) at (sym c.is_past_shown.ensures ∙ c.if-is_past_shown.false))

pub returns-clause-decl : goal.returns-clause-decl
returns-clause-decl c =
    rw c.new.ensures
    (type_read c.args.past.now.version _ c.args.bytes.now _ _ c.next_word-start.result.1 c.in-Ok.lists c.is_over.result (c.next_word-start.ensures.some (omega arith))
    (sym c.are_letters.ensures ∙ c.if-not-are_letters.false) c.in-Ok.ensures.fine c.in-Ok.ensures.called c.is_over.ensures
    c.in-Ok-kinds_of.kinds.items c.in-Ok-kinds_of.ensures c.if-is_over.false)
