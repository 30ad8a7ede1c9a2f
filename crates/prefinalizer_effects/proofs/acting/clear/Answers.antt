use Rattle.std.proofs.Common.{ap, ◌∙◌, subst}
use Rattle.gc_graph.specs.declared.kind.Kind.TheVariants.{Strong}
use Rattle.gc_graph.specs.Fields.{is_weak}
use Rattle.type_table.specs.Types.{is_kind}
use Rattle.page_words.specs.Seat.{SeatView, unlooked}
use Rattle.prefinalizer_effects.specs.Acting.{body_cleared_at}
use Rattle.member_fields.specs.Words.{written, pair_written}
use Rattle.member_fields.specs.Looked.{word_looked, pair_looked}
use Rattle.prefinalizer_effects.proofs.BodiesChanged.{FoundAs, plain_kept, cleared_past, changed_none, strong_cleared, weak_cleared, pair_cleared}
use Rattle.page_words.specs.Looking.{looks_on, looks_as}
use Rattle.prefinalizer_effects.proofs.acting.clear.Goals as goal

pub clear-requires-clause-field : goal.clear-requires-clause-field
clear-requires-clause-field c =
    word_looked (is_kind Strong) c.args.seat.now c.field_in.new.seat c.args.place c.in-Some-Strong-default.word c.field_in.ensures.view
    (c.in-Some-Strong-default.ensures.word (is_kind Strong) (ap (is_kind Strong) c.in-Some-Strong-default.field-0-0-is))

pub set_weak-requires-clause-field : goal.set_weak-requires-clause-field
set_weak-requires-clause-field c =
    word_looked is_weak c.args.seat.now c.field_in.new.seat c.args.place c.in-Some-Weak-default.word c.field_in.ensures.view
    (c.in-Some-Weak-default.ensures.word is_weak (ap is_weak c.in-Some-Weak-default.field-0-0-is))

pub clear_pair-requires-clause-pair : goal.clear_pair-requires-clause-pair
clear_pair-requires-clause-pair c =
    pair_looked c.args.seat.now c.field_in.new.seat c.args.place c.in-Some-Pair-default.word c.field_in.ensures.view
    (c.in-Some-Pair-default.ensures.pair c.in-Some-Pair-default.field-0-0-is)

pub returns-in-Some-Strong-default-clause-changed : goal.returns-in-Some-Strong-default-clause-changed
returns-in-Some-Strong-default-clause-changed c =
    ap unlooked c.clear.ensures.word ∙ ap (λ (v : SeatView). written v c.args.place c.in-Some-Strong-default.word 0) c.field_in.ensures.view
    ∙ ap unlooked (strong_cleared c.args.seat.now c.args.place c.args.field c.in-Some-Strong-default.word
    (subst (λ k. FoundAs c.args.seat.now c.args.place c.args.field k c.in-Some-Strong-default.word) c.in-Some-Strong-default.field-0-0-is c.in-Some-Strong-default.ensures.found))

pub returns-in-Some-Weak-default-clause-changed : goal.returns-in-Some-Weak-default-clause-changed
returns-in-Some-Weak-default-clause-changed c =
    ap unlooked c.set_weak.ensures.word ∙ ap (λ (v : SeatView). written v c.args.place c.in-Some-Weak-default.word 0) c.field_in.ensures.view
    ∙ ap unlooked (weak_cleared c.args.seat.now c.args.place c.args.field c.in-Some-Weak-default.word
    (subst (λ k. FoundAs c.args.seat.now c.args.place c.args.field k c.in-Some-Weak-default.word) c.in-Some-Weak-default.field-0-0-is c.in-Some-Weak-default.ensures.found))

pub returns-in-Some-Pair-default-clause-changed : goal.returns-in-Some-Pair-default-clause-changed
returns-in-Some-Pair-default-clause-changed c =
    ap unlooked c.clear_pair.ensures.words ∙ ap (λ (v : SeatView). pair_written v c.args.place c.in-Some-Pair-default.word 0 0) c.field_in.ensures.view
    ∙ ap unlooked (pair_cleared c.args.seat.now c.args.place c.args.field c.in-Some-Pair-default.word
    (subst (λ k. FoundAs c.args.seat.now c.args.place c.args.field k c.in-Some-Pair-default.word) c.in-Some-Pair-default.field-0-0-is c.in-Some-Pair-default.ensures.found))

pub returns-in-Some-Plain-default-clause-changed : goal.returns-in-Some-Plain-default-clause-changed
returns-in-Some-Plain-default-clause-changed c =
    c.field_in.ensures.view
    ∙ ap unlooked (plain_kept c.args.seat.now c.args.place c.args.field c.in-Some-Plain-default.field-0-1
    (subst (λ k. FoundAs c.args.seat.now c.args.place c.args.field k c.in-Some-Plain-default.field-0-1) c.in-Some-Plain-default.field-0-0-is
    c.in-Some-Plain-default.ensures.found))

pub returns-in-None-clause-changed : goal.returns-in-None-clause-changed
returns-in-None-clause-changed c =
    c.field_in.ensures.view
    ∙ ap unlooked (changed_none c.args.seat.now c.args.place (body_cleared_at c.args.seat.now.types c.args.field)
    (λ b there at. cleared_past c.args.seat.now.types c.args.field b (c.in-None.ensures.found b there at)))

pub returns-in-Some-Strong-default-clause-looked : goal.returns-in-Some-Strong-default-clause-looked
returns-in-Some-Strong-default-clause-looked c =
    looks_on c.args.seat.now c.field_in.new.seat c.clear.new.seat c.field_in.ensures.looked
    (looks_as c.field_in.new.seat c.clear.new.seat (ap (λ (v : SeatView). v.looked) c.clear.ensures.word))

pub returns-in-Some-Weak-default-clause-looked : goal.returns-in-Some-Weak-default-clause-looked
returns-in-Some-Weak-default-clause-looked c =
    looks_on c.args.seat.now c.field_in.new.seat c.set_weak.new.seat c.field_in.ensures.looked
    (looks_as c.field_in.new.seat c.set_weak.new.seat (ap (λ (v : SeatView). v.looked) c.set_weak.ensures.word))

pub returns-in-Some-Pair-default-clause-looked : goal.returns-in-Some-Pair-default-clause-looked
returns-in-Some-Pair-default-clause-looked c =
    looks_on c.args.seat.now c.field_in.new.seat c.clear_pair.new.seat c.field_in.ensures.looked
    (looks_as c.field_in.new.seat c.clear_pair.new.seat (ap (λ (v : SeatView). v.looked) c.clear_pair.ensures.words))
