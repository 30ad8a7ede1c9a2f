use Rattle.std.proofs.Common.{sym, ◌∙◌}
use Rattle.std.proofs.lemmas.Bool.{not-true}
use Rattle.page_words.proofs.MarkerCalls.{marks_target, target_within, marked_is_fresh}
use Rattle.page_words.proofs.words.Words.mark_as.Goals as goal

pub add_bits_at-found-requires-clause-address : goal.add_bits_at-found-requires-clause-address
add_bits_at-found-requires-clause-address c = target_within c.args.seat.now c.args.a c.places_are_within.ensures.view c.requires.wanted

pub add_bits_at-found-requires-clause-step : goal.add_bits_at-found-requires-clause-step
add_bits_at-found-requires-clause-step c = marks_target c.marks_as_are_steps.ensures c.args.seat.now c.args.a c.requires.wanted

pub returns-clause-fresh : goal.returns-clause-fresh
returns-clause-fresh c fresh =
    marked_is_fresh c.args.seat.now c.args.a c.add_bits_at-found.result c.add_bits_at-found.ensures.word
    (sym c.has_mark.ensures ∙ not-true c.has_mark.result fresh)
