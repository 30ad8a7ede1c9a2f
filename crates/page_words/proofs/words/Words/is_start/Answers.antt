use Rattle.std.proofs.Common.{refl}
use Rattle.page_words.proofs.MarkerCalls.{reads_start}
use Rattle.page_words.proofs.words.Words.is_start.Goals as goal

pub start_bits_at-found-requires-clause-step : goal.start_bits_at-found-requires-clause-step
start_bits_at-found-requires-clause-step c = reads_start c.bits_are_steps.ensures c.args.seat.now c.args.a c.requires.address

pub returns-clause-known : goal.returns-clause-known
returns-clause-known c known = c.start_bits_at-found.ensures.word.start c.args.a known refl
