use Rattle.std.proofs.Common.{◌+◌, ◌%◌, ◌^◌, ap, sym, ◌∙◌, subst}
use Rattle.std.proofs.lemmas.Bool.{true≢false}
use Rattle.gc_graph.specs.declared.kind.Kind.TheVariants.{Strong, Weak, Pair}
use Rattle.gc_graph.specs.Fields.{is_plain}
use Rattle.page_words.specs.Seat.{SeatView, unlooked}
use Rattle.prefinalizer_effects.specs.Acting.{body_added_at}
use Rattle.member_fields.specs.Words.{written}
use Rattle.member_fields.specs.Looked.{word_looked, word_from}
use Rattle.prefinalizer_effects.proofs.BodiesChanged.{FoundAs, plain_added, added_past, other_kept, changed_none}
use Rattle.page_words.specs.Looking.{looks_same, looks_on, looks_as}
use Rattle.prefinalizer_effects.proofs.acting.add.Goals as goal

pub get_word-before-requires-clause-field : goal.get_word-before-requires-clause-field
get_word-before-requires-clause-field c =
    word_looked is_plain c.args.seat.now c.field_in.new.seat c.args.place c.in-Some-Plain-default.word c.field_in.ensures.view
    (c.in-Some-Plain-default.ensures.word is_plain (ap is_plain c.in-Some-Plain-default.field-0-0-is))

pub put_word-requires-clause-field : goal.put_word-requires-clause-field
put_word-requires-clause-field c =
    word_looked is_plain c.args.seat.now c.get_word-before.new.seat c.args.place c.in-Some-Plain-default.word
    (ap unlooked c.get_word-before.ensures.view ∙ c.field_in.ensures.view)
    (c.in-Some-Plain-default.ensures.word is_plain (ap is_plain c.in-Some-Plain-default.field-0-0-is))

pub returns-in-Some-Plain-default-clause-changed : goal.returns-in-Some-Plain-default-clause-changed
returns-in-Some-Plain-default-clause-changed c =
    ap unlooked c.put_word.ensures.word
    ∙ ap (λ (v : SeatView). written v c.args.place c.in-Some-Plain-default.word ((c.get_word-before.result + c.args.amount) % 2 ^ 64))
    (ap unlooked c.get_word-before.ensures.view ∙ c.field_in.ensures.view)
    ∙ ap unlooked (plain_added c.args.seat.now c.args.place c.args.field c.in-Some-Plain-default.word c.get_word-before.result c.args.amount
    (word_from c.args.seat.now c.field_in.new.seat c.args.place c.in-Some-Plain-default.word c.get_word-before.result c.field_in.ensures.view c.get_word-before.ensures.word)
    (subst (λ k. FoundAs c.args.seat.now c.args.place c.args.field k c.in-Some-Plain-default.word) c.in-Some-Plain-default.field-0-0-is
    c.in-Some-Plain-default.ensures.found))

pub returns-in-Some-Strong-default-clause-changed : goal.returns-in-Some-Strong-default-clause-changed
returns-in-Some-Strong-default-clause-changed c =
    c.field_in.ensures.view
    ∙ ap unlooked (other_kept c.args.seat.now c.args.place c.args.field Strong c.in-Some-Strong-default.field-0-1 c.args.amount (λ plain. true≢false (sym (ap is_plain plain)))
    (subst (λ k. FoundAs c.args.seat.now c.args.place c.args.field k c.in-Some-Strong-default.field-0-1) c.in-Some-Strong-default.field-0-0-is
    c.in-Some-Strong-default.ensures.found))

pub returns-in-Some-Weak-default-clause-changed : goal.returns-in-Some-Weak-default-clause-changed
returns-in-Some-Weak-default-clause-changed c =
    c.field_in.ensures.view
    ∙ ap unlooked (other_kept c.args.seat.now c.args.place c.args.field Weak c.in-Some-Weak-default.field-0-1 c.args.amount (λ plain. true≢false (sym (ap is_plain plain)))
    (subst (λ k. FoundAs c.args.seat.now c.args.place c.args.field k c.in-Some-Weak-default.field-0-1) c.in-Some-Weak-default.field-0-0-is
    c.in-Some-Weak-default.ensures.found))

pub returns-in-Some-Pair-default-clause-changed : goal.returns-in-Some-Pair-default-clause-changed
returns-in-Some-Pair-default-clause-changed c =
    c.field_in.ensures.view
    ∙ ap unlooked (other_kept c.args.seat.now c.args.place c.args.field Pair c.in-Some-Pair-default.field-0-1 c.args.amount (λ plain. true≢false (sym (ap is_plain plain)))
    (subst (λ k. FoundAs c.args.seat.now c.args.place c.args.field k c.in-Some-Pair-default.field-0-1) c.in-Some-Pair-default.field-0-0-is
    c.in-Some-Pair-default.ensures.found))

pub returns-in-None-clause-changed : goal.returns-in-None-clause-changed
returns-in-None-clause-changed c =
    c.field_in.ensures.view
    ∙ ap unlooked (changed_none c.args.seat.now c.args.place (body_added_at c.args.seat.now.types c.args.field c.args.amount)
    (λ b there at. added_past c.args.seat.now.types c.args.field b c.args.amount (c.in-None.ensures.found b there at)))

pub returns-in-Some-Plain-default-clause-looked : goal.returns-in-Some-Plain-default-clause-looked
returns-in-Some-Plain-default-clause-looked c =
    looks_on c.args.seat.now c.field_in.new.seat c.put_word.new.seat c.field_in.ensures.looked
    (looks_on c.field_in.new.seat c.get_word-before.new.seat c.put_word.new.seat
    (looks_same c.field_in.new.seat c.get_word-before.new.seat c.get_word-before.ensures.view)
    (looks_as c.get_word-before.new.seat c.put_word.new.seat (ap (λ (v : SeatView). v.looked) c.put_word.ensures.word)))
